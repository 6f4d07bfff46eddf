use Rattle.std.proofs.Common.{◌≡◌, ℕ, ◌<◌, ◌≤◌, List, [], ◌∷◌, length, get_or, None, refl, sym, subst, inr, arith, ◌∙◌}
use Rattle.fonnalich_c.specs.Commands.{AskNothing, IsNoCommand, verb_of, way_of}
use Rattle.fonnalich_c.proofs.command.command.Goals as goal

too_short : (line : List ℕ) → length line < 2 → IsNoCommand line
too_short [] short = tt
too_short (verb ∷ []) short = tt
too_short (verb ∷ way ∷ text) short = absurd (omega arith)

no_verb : (line : List ℕ) → 2 ≤ length line → verb_of (get_or line 0 0) ≡ None → IsNoCommand line
no_verb [] long none = absurd (omega arith)
no_verb (verb ∷ []) long none = absurd (omega arith)
no_verb (verb ∷ way ∷ text) long none = subst (λ v. AskNothing v (way_of way) text) (sym none) tt

pub returns-in_default-clause-err : goal.returns-in_default-clause-err
returns-in_default-clause-err c = inr (refl, too_short c.args.line.now c.in_default.len_below)

pub returns-in_default-verb_of-clause-err : goal.returns-in_default-verb_of-clause-err
returns-in_default-verb_of-clause-err c =
    inr (refl, no_verb c.args.line.now c.in-len2-up.len_at_least (sym c.verb_of.ensures ∙ c.in_default-verb_of.is))
