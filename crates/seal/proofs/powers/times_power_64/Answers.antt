use Rattle.seal.proofs.PowerLemmas.{power_64_shifted}
use Rattle.seal.proofs.powers.times_power_64.Goals as goal

pub returns : goal.returns
returns c = power_64_shifted c.args.x
