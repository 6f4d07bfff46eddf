use Rattle.cookie.proofs.RingLawLemmas.{signed_back_under}
use Rattle.cookie.proofs.laws.signed_ring_reads_back.Goals as goal

pub returns : goal.returns
returns c = signed_back_under c.args.ring.now c.lengths.ensures.code
