use Rattle.std.proofs.Common.{◌≡◌, ℕ, ◌+◌, ◌*◌, ◌/◌, ◌^◌, bit_xor, arith, ap, ◌∙◌}
use Rattle.seal.specs.Ghash.{times_power, product_low}
use Rattle.seal.proofs.StepLemmas.{worked_off-more, together}
use Rattle.seal.proofs.ghash.Multiples.times.Goals as goal

pub loop-j-init : goal.loop-j-init
loop-j-init g c = (
  record { low_is = c.multiple-low.ensures; high_is = c.multiple-high.ensures; rest_is = omega arith },
  omega arith,
)

pub loop-j-preserved : goal.loop-j-preserved
loop-j-preserved g c = (
  worked_off-more 4 (4 * c.loop-j.j) (4 * (c.loop-j.j + 1)) c.args.x c.args.self.now c.loop-j.low c.loop-j.high
      c.loop-j.rest c.times_power-low_moved.result c.times_power-high_moved.result c.multiple.result
      c.multiple-in-loop-j.result (omega arith) c.loop-j.invariant.0 c.times_power-low_moved.ensures.value
      c.times_power-high_moved.ensures.value c.multiple.ensures c.multiple-in-loop-j.ensures,
  omega (arith, c.loop-j.invariant.1, c.times_power-low_moved.ensures.turn, c.times_power-high_moved.ensures.turn),
)

pub returns-clause-value : goal.returns-clause-value
returns-clause-value g c =
    let x : ℕ = c.args.x in
    let h : ℕ = c.args.self.now in
    let done : 4 * c.loop-j.j + 4 ≡ 64 = omega arith in
    let low_is : c.loop-j.low ≡ product_low 64 x h =
    c.loop-j.invariant.0.low_is ∙ ap (λ (k : ℕ). product_low k x h) done in
    let high_is : c.loop-j.high ≡ product_low 64 (x / 2 ^ 64) h =
    c.loop-j.invariant.0.high_is ∙ ap (λ (k : ℕ). product_low k (x / 2 ^ 64) h) done in
    (λ i. bit_xor ((c.times_power.ensures.value ∙ ap (times_power 64) low_is) i) (high_is i)) ∙ together x h
