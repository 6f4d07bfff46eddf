use Rattle.std.proofs.Common.{ap, sym, arith, ◌∙◌}
use Rattle.seal.specs.Ghash.{number_of, times_power}
use Rattle.seal.proofs.ghash.ByteMultiples.new.Goals as goal

pub invariant_of-result : goal.invariant_of-result
invariant_of-result g c = (
  c.of_number-far.ensures.value ∙ c.times_power-next.ensures.value
      ∙ ap (times_power 4) (sym c.of_number-near.ensures.value),
  omega (arith, c.of_number-near.ensures.value),
)

pub returns-clause-value : goal.returns-clause-value
unfolding number_of
returns-clause-value g c = c.of_number-near.ensures.value ∙ c.from_be_bytes-h.ensures
