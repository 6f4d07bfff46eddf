-- Which rules change a line that comes: those that make another text of the one that they are handed.
use Rattle.std.specs.Prelude.{◌≡◌, ◌⊎◌, ℕ, ℤ, List, Option, None, Some, false, not, IsTrue}
use Rattle.std.specs.Str.{IsUtf8, bytes_eq}
use Rattle.user_agent.specs.Agent.{IsHandedText, rewrites}
use Rattle.user_agent.specs.Refusals.{IsStoppedByControl}
use Rattle.user_agent.specs.declared.changes.Changes.{Changes}
use Rattle.user_agent.specs.declared.rules.Rules.{Rules}

-- no rule
abbrev pub no_changes : Changes
no_changes = record { long_attributes = false; dates = false; long_lives = false }

-- those whose step made another text, of the text as it came, short, known and cut
abbrev pub changes_in : List ℕ → List ℕ → List ℕ → List ℕ → Changes
changes_in line short known handed = record {
  long_attributes = not (bytes_eq line short);
  dates = not (bytes_eq short known);
  long_lives = not (bytes_eq known handed);
}

-- the rules that change a text, of which the client gets this
pub record AreChangesTo (rules : Rules) (now : ℤ) (line handed : List ℕ) (changes : Changes) : Type 0 where
  pub is : IsHandedText rules now line handed
  pub told : changes ≡ changes_in line is.short is.known handed

-- the rules that change a line: none where a control character stops it first of all, or it is no text
abbrev pub AreChanges : Rules → ℤ → List ℕ → Changes → Type 0
AreChanges rules now line changes =
    ((IsStoppedByControl rules line ⊎ (¬ (IsUtf8 line))) × (changes ≡ no_changes))
    ⊎ ((¬ (IsStoppedByControl rules line)) × IsUtf8 line
    × ((handed : List ℕ) × AreChangesTo rules now line handed changes))

-- ---- steps of the code, for private contracts alone

-- what the client gets: the line as it came, or another text
abbrev pub left_of : Option (List ℕ) → List ℕ → List ℕ
left_of None line = line
left_of (Some handed) line = handed

-- what is made of a line that no control character stops: another text where a rule is on that changes lines
abbrev pub IsMadeOf : Rules → ℤ → List ℕ → Option (List ℕ) → Changes → Type 0
IsMadeOf rules now line None changes =
    ((¬ (IsUtf8 line)) × (changes ≡ no_changes)) ⊎ (IsUtf8 line × AreChangesTo rules now line line changes)
IsMadeOf rules now line (Some handed) changes =
    IsUtf8 line × IsTrue (rewrites rules) × AreChangesTo rules now line handed changes
