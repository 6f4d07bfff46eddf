use Rattle.std.proofs.Common.{◌∙◌}
use Rattle.seal.specs.Ghash.{number_of}
use Rattle.seal.proofs.ghash.Multiples.new.Goals as goal

pub returns-clause-value : goal.returns-clause-value
unfolding number_of
returns-clause-value g c = c.of_number.ensures.value ∙ c.from_be_bytes.ensures
