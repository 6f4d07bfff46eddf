use Rattle.std.proofs.Common.{◌*◌, ◌^◌, ◌%◌, refl}
use Rattle.seal.specs.Aes.{x_power}
use Rattle.seal.specs.Field.{times_x, times_x_power}
use Rattle.seal.proofs.ByteFacts.{equal_below}
use Rattle.seal.proofs.register_aes.x_power.Goals as goal

pub returns : goal.returns
unfolding times_x times_x_power
returns c = equal_below (λ n. 1 * 2 ^ n % 256) x_power 7 c.args.n refl c.requires
