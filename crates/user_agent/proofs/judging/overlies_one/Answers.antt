use Rattle.std.proofs.Common.{inl, inr, refl, subst, sym}
use Rattle.std.proofs.lemmas.Bool.{both_ways}
use Rattle.jiff.specs.Words.{civil_nanos}
use Rattle.cookie_store.specs.Rows.{Row}
use Rattle.user_agent.specs.Refusals.{HasOne, IsOverlaid}
use Rattle.user_agent.proofs.judging.overlies_one.Goals as goal

pub returns-then-is_overlaid : goal.returns-then-is_overlaid
returns-then-is_overlaid c =
    let Is : Row → Type 0 = IsOverlaid c.args.name.now c.args.domain.now c.args.path.now (civil_nanos c.args.now) in (
      λ _. c.loop-row.invariant.1
          (subst (HasOne Is) (sym c.in-Some.ensures.steps) (inl (c.is_overlaid.ensures.0 c.if-is_overlaid.true))),
      λ _. refl,
    )

pub loop-row-preserved : goal.loop-row-preserved
loop-row-preserved c =
    let Is : Row → Type 0 = IsOverlaid c.args.name.now c.args.domain.now c.args.path.now (civil_nanos c.args.now) in (
      λ h. elim (subst (HasOne Is) c.in-Some.ensures.steps (c.loop-row.invariant.0 h)) [
        | inl here ↦ absurd (both_ways _ c.if-is_overlaid.false (c.is_overlaid.ensures.1 here))
        | inr later ↦ later
      ],
      λ h. c.loop-row.invariant.1 (subst (HasOne Is) (sym c.in-Some.ensures.steps) (inr h)),
    )
