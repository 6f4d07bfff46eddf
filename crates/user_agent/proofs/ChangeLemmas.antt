-- Which rules change a line.
use Rattle.std.proofs.Common.{◌≡◌, ◌∙◌, ℕ, ℤ, Bool, true, false, List, Option, Some, None, Result, Ok, Err}
use Rattle.std.proofs.Common.{refl, sym, ap, subst, inl, inr, true≢false}
use Rattle.std.specs.Prelude.{◌||◌, IfOk, OnErr, not}
use Rattle.std.specs.Str.{IsUtf8, bytes_eq, is_utf8}
use Rattle.std.proofs.lemmas.Str.{IsUtf8-from_is_utf8, is_utf8-from_IsUtf8}
use Rattle.std.proofs.lemmas.Slice.Eq.{bytes_eq-Decides}
use Rattle.publicsuffix.specs.Rules.{Rule}
use Rattle.url.specs.Parts.{Parts}
use Rattle.cookie_store.specs.Rows.{Row}
use Rattle.user_agent.specs.Agent.{AsksForMemory, HandedAsks, IsDoneIf, rewrites}
use Rattle.user_agent.specs.Changes.{AreChangesTo, IsMadeOf, changes_in, left_of, no_changes}
use Rattle.user_agent.specs.CrossAnswers.{TakesHandedFrom, TakesLineFrom}
use Rattle.user_agent.specs.CutLives.{IsCutLine}
use Rattle.user_agent.specs.KnownDates.{IsKnownLine}
use Rattle.user_agent.specs.LeftAlone.{AreLeftAlone}
use Rattle.user_agent.specs.LongAttributes.{IsShortLine}
use Rattle.user_agent.specs.Refusals.{IsStoppedByControl}
use Rattle.user_agent.specs.declared.changes.Changes.{Changes}
use Rattle.user_agent.specs.declared.cross_answer.OutcomeFor.{OutcomeFor}
use Rattle.user_agent.specs.declared.rules.Rules.{Rules}
use Rattle.user_agent.proofs.AgentLemmas.{not_done, or_false}
use Rattle.user_agent.proofs.LeftLemmas.{left_brief, left_dated, left_long}

-- ---- what is made of a text

same_text : (text : List ℕ) → bytes_eq text text ≡ true
same_text text = (bytes_eq-Decides text text).1 refl

-- no step makes another text
none_in : (line : List ℕ) → no_changes ≡ changes_in line line line line
none_in line =
    ap (λ (b : Bool). changes b) (sym (same_text line))
  where
    changes : Bool → Changes
    changes b = record { long_attributes = not b; dates = not b; long_lives = not b }

pub made_by_all : (rules : Rules) (now : ℤ) (line short known handed : List ℕ) (changes : Changes)
    → IsDoneIf rules.long_attributes IsShortLine line short → IsDoneIf rules.dates IsKnownLine short known
    → IsDoneIf rules.long_lives (IsCutLine now) known handed → changes ≡ changes_in line short known handed
    → AreChangesTo rules now line handed changes
made_by_all rules now line short known handed changes shortened dated cut told = record {
  is = record { short = short; known = known; shortened = shortened; dated = dated; cut = cut };
  told = told;
}

-- so by texts that are these
pub told_by_all : (rules : Rules) (now : ℤ) (line short known handed s k s2 k2 h2 : List ℕ) (changes : Changes)
    → s ≡ short → k ≡ known → s2 ≡ short → k2 ≡ known → h2 ≡ handed
    → IsDoneIf rules.long_attributes IsShortLine line short → IsDoneIf rules.dates IsKnownLine s known
    → IsDoneIf rules.long_lives (IsCutLine now) k handed → changes ≡ changes_in line s2 k2 h2
    → AreChangesTo rules now line handed changes
told_by_all rules now line short known handed s k s2 k2 h2 changes es ek es2 ek2 eh2 shortened dated cut told =
    made_by_all rules now line short known handed changes shortened
    (subst (λ t. IsDoneIf rules.dates IsKnownLine t known) es dated)
    (subst (λ t. IsDoneIf rules.long_lives (IsCutLine now) t handed) ek cut)
    (told ∙ (ap (λ t. changes_in line t k2 h2) es2 ∙ (ap (λ t. changes_in line short t h2) ek2
    ∙ ap (λ t. changes_in line short known t) eh2)))

-- only that on long lives may change it
pub made_by_the_last : (rules : Rules) (now : ℤ) (brief : Bool) (line handed : List ℕ) (changes : Changes)
    → AreLeftAlone now brief line → IsDoneIf rules.long_lives (IsCutLine now) line handed
    → changes ≡ changes_in line line line handed → AreChangesTo rules now line handed changes
made_by_the_last rules now brief line handed changes k cut told =
    made_by_all rules now line line line handed changes (left_long rules.long_attributes now brief line k)
    (left_dated rules.dates now brief line k) cut told

pub made_by_none : (rules : Rules) (now : ℤ) (line : List ℕ) (changes : Changes) → AreLeftAlone now true line
    → changes ≡ no_changes → AreChangesTo rules now line line changes
made_by_none rules now line changes k told =
    made_by_the_last rules now true line line changes k (left_brief rules.long_lives now line k)
    (told ∙ none_in line)

pub last_made : {M E : Type 0} (r : Result M E) (text_of : M → Option (List ℕ)) (changes_of : M → Changes)
    (rules : Rules) (now : ℤ) (brief : Bool) (line : List ℕ) → AreLeftAlone now brief line
    → IfOk r (λ made. IsDoneIf rules.long_lives (IsCutLine now) line (left_of (text_of made) line)
    × (changes_of made ≡ changes_in line line line (left_of (text_of made) line)))
    → IfOk r (λ made. AreChangesTo rules now line (left_of (text_of made) line) (changes_of made))
last_made (Err e) text_of changes_of rules now brief line k h = tt
last_made (Ok made) text_of changes_of rules now brief line k h =
    made_by_the_last rules now brief line (left_of (text_of made) line) (changes_of made) k h.0 h.1

-- ---- what is made of a line

-- no rule is on that changes lines
pub made_without : (rules : Rules) (now : ℤ) (line : List ℕ) (changes : Changes) → false ≡ rewrites rules
    → changes ≡ no_changes → IsMadeOf rules now line None changes
made_without rules now line changes off told = go (is_utf8 line) refl
  where
    go : (b : Bool) → is_utf8 line ≡ b → IsMadeOf rules now line None changes
    go true text =
        let first = or_false rules.long_attributes (rules.dates || rules.long_lives) off in
        let rest = or_false rules.dates rules.long_lives (sym first.1) in
        inr (
          IsUtf8-from_is_utf8 line text,
          made_by_all rules now line line line line changes
              (not_done rules.long_attributes IsShortLine line first.0) (not_done rules.dates IsKnownLine line rest.0)
              (not_done rules.long_lives (IsCutLine now) line rest.1) (told ∙ none_in line),
        )
    go false none = inl ((λ u. true≢false (sym (is_utf8-from_IsUtf8 line u) ∙ none)), told)

-- ---- and so it is taken

pub told_from : (rules : Rules) (across : Bool) (list : List Rule) (rows new : List Row) (url : Parts) (now : ℤ)
    (line : List ℕ) (text : Option (List ℕ)) (changes : Changes) (outcome : OutcomeFor)
    → ¬ (IsStoppedByControl rules line) → IsMadeOf rules now line text changes
    → TakesHandedFrom rules across list rows url now (left_of text line) outcome new
    → TakesLineFrom rules across list rows url now line outcome new
told_from rules across list rows new url now line None changes outcome free (inl (none, told)) h =
    inr (free, (line, inr (none, refl), h))
told_from rules across list rows new url now line None changes outcome free (inr (utf8, to)) h =
    inr (free, (line, inl (utf8, to.is), h))
told_from rules across list rows new url now line (Some handed) changes outcome free (utf8, on, to) h =
    inr (free, (handed, inl (utf8, to.is), h))

pub at_err : {A E : Type 0} (r : Result A E) (P : Type 0) → P → OnErr r P
at_err (Ok a) P h = tt
at_err (Err e) P h = h

is_text : (rules : Rules) (url : Parts) (line : List ℕ) → HandedAsks rules url line → IsUtf8 line
is_text rules url line (inl over) = over.1.0
is_text rules url line (inr client) = client.1

pub told_asks : (rules : Rules) (url : Parts) (now : ℤ) (line : List ℕ) (text : Option (List ℕ)) (changes : Changes)
    → ¬ (IsStoppedByControl rules line) → IsMadeOf rules now line text changes
    → HandedAsks rules url (left_of text line) → AsksForMemory rules url line
told_asks rules url now line None changes free made asks = (free, is_text rules url line asks, inr asks)
told_asks rules url now line (Some handed) changes free (utf8, on, to) asks = (free, utf8, inl on)
