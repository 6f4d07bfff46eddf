use Rattle.std.proofs.Common.{◌≡◌, ◌⊎◌, ◌∙◌, inr, subst, sym}
use Rattle.fonnalich_c.specs.Ring.{HasNoEnd}
use Rattle.fonnalich_c.specs.declared.refusal.Refusal.TheVariants.{KeyEnd, Memory}
use Rattle.fonnalich_c.proofs.Exchanges.{err_gives}
use Rattle.fonnalich_c.proofs.Rings.{ends_at, next_earlier, next_left}
use Rattle.fonnalich_c.proofs.ring.earlier_keys.Goals as goal

pub returns-in_err-earlier_key-clause-err : goal.returns-in_err-earlier_key-clause-err
returns-in_err-earlier_key-clause-err c =
    err_gives c.from_residual.result _ _ c.from_residual.ensures (λ refused is.
    subst (λ r. (r ≡ Memory) ⊎ ((r ≡ KeyEnd) × HasNoEnd c.args.ends.now)) (sym is)
    (inr (
      c.in_err-earlier_key.ensures.err.0,
      ends_at c.args.ends.now c.loop-end.end-index _ c.loop-end-test.true
          c.in_err-earlier_key.ensures.err.1,
    )))

pub loop-end-preserved : goal.loop-end-preserved
loop-end-preserved c = (
  next_earlier c.args.keys.now c.loop-end.left.now c.args.ends.now c.loop-end.end-index _ c.loop-end.earlier.items
      c.push.new.earlier.items c.in_ok-earlier_key.field-0 c.loop-end-test.true c.loop-end.invariant.0
      c.loop-end.invariant.1 c.in_ok-earlier_key.ensures.ok c.in_ok-push.ensures,
  c.split_at.ensures.back ∙ next_left c.args.keys.now c.loop-end.left.now c.loop-end.end-index c.loop-end.invariant.1,
)
