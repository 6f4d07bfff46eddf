use Rattle.std.proofs.Common.{◌∙◌, T, ap, nat_abs, pos, subst, sym, ◌<ℤ◌, ◌≤ℤ◌, w64}
use lib.Signed.{le_z, lt_z}
use Rattle.std.proofs.lemmas.Int.{to_z-of_z}
use Rattle.fonnalich_c.specs.Rules.{ruled}
use Rattle.fonnalich_c.proofs.Flags.{flagged}
use Rattle.fonnalich_c.proofs.rule.rules_of.Goals as goal

pub returns-then-number-lt4096-clause-ok : goal.returns-then-number-lt4096-clause-ok
returns-then-number-lt4096-clause-ok c =
    let same = to_z-of_z w64 c.args.number c.ranges.number in
    let above : pos 0 ≤ℤ c.args.number =
    record { le = subst T (sym (ap (λ z. le_z (pos 0) z) (sym same) ∙ c.if-number-ge0.true)) tt } in
    let below : c.args.number <ℤ pos 4096 =
    record { lt = subst T (sym (ap (λ z. lt_z z (pos 4096)) (sym same) ∙ c.if-number-lt4096.true)) tt } in
    flagged c.args.number c.ruled.result above below (c.ruled.ensures ∙ ap (λ z. ruled (nat_abs z)) same)
