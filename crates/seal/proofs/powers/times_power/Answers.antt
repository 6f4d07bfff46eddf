use Rattle.std.proofs.Common.{◌≡◌, ℕ, ◌+◌, refl, ap, sym, ◌∙◌, add-one}
use Rattle.seal.specs.Ghash.{times_a, times_power}
use Rattle.seal.proofs.powers.times_power.Goals as goal

next : (n x : ℕ) → times_a (times_power n x) ≡ times_power (n + 1) x
unfolding times_power
next n x = ap (λ (k : ℕ). times_power k x) (sym (add-one n))

pub loop-i-init : goal.loop-i-init
unfolding times_power
loop-i-init g c = refl

pub loop-i-preserved : goal.loop-i-preserved
loop-i-preserved g c = c.times_a-power.ensures ∙ ap times_a c.loop-i.invariant ∙ next c.loop-i.i c.args.x
