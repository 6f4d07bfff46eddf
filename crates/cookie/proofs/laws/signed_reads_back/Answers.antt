use Rattle.cookie.proofs.LawLemmas.{signed_back}
use Rattle.cookie.proofs.laws.signed_reads_back.Goals as goal

pub returns : goal.returns
returns c = signed_back c.args.key.now c.lengths.ensures.code
