use Rattle.std.proofs.Common.{◌≡◌, ℕ, arith, refl, ◌∙◌}
use Rattle.seal.specs.Ghash.{times_a, times_power}
use Rattle.seal.proofs.TableLemmas.{multiples_of_filled}
use Rattle.seal.proofs.ghash.Multiples.of_number.Goals as goal

once : (x : ℕ) → times_power 1 x ≡ times_a x
unfolding times_power
once x = refl

pub invariant_of-result : goal.invariant_of-result
invariant_of-result g c = (
  multiples_of_filled c.args.h _ _ _ (c.times_power-four.ensures.value ∙ once _)
      (c.times_power-two.ensures.value ∙ once _) (c.times_power-one.ensures.value ∙ once _),
  omega arith,
)
