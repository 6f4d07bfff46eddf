use Rattle.seal.proofs.LaneLemmas.{zip_is}
use Rattle.seal.proofs.register_aes.sum_of_blocks.Goals as goal

pub returns : goal.returns
returns c = zip_is c.args.a.now c.args.b.now
