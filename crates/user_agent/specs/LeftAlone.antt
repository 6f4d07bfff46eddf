-- Lines that no rule changes, for private contracts alone: steps of the code.
use Rattle.std.specs.Prelude.{◌≡◌, ◌⊎◌, ◌∷◌, ℕ, ℤ, Bool, List, IsTrue, true}
use Rattle.std.specs.List.{AllByRecursion}
use Rattle.std.specs.Str.{str_to_ascii_lowercase}
use Rattle.jiff.specs.Types.{DateTime}
use Rattle.cookie_text.specs.Attribute.{Expires, Gives, MaxAge, kind_name}
use Rattle.cookie_text.specs.declared.attribute.Kind.TheVariants as kinds
use Rattle.cookie_text.specs.Pieces.{pieces}
use Rattle.cookie_text.specs.Reading.{first_piece}
use Rattle.user_agent.specs.CutLives.{IsBrief}
use Rattle.user_agent.specs.KnownDates.{HasLooseDate, IsExpires}
use Rattle.user_agent.specs.LongAttributes.{is_short}

-- no date of the piece is to be known, and no life to be cut, if that is told
pub record IsLifeLeftAlone (now : ℤ) (told : Bool) (piece : List ℕ) : Type 0 where
  pub known : (m : DateTime) → ¬ (HasLooseDate piece m)
  pub brief : IsTrue told → IsBrief now piece

-- and it is short
abbrev pub IsLeftAlone : ℤ → Bool → List ℕ → Type 0
IsLeftAlone now brief piece = (is_short piece ≡ true) × IsLifeLeftAlone now brief piece

-- each piece of the line but the first is so
pub record AreLeftAlone (now : ℤ) (brief : Bool) (line : List ℕ) : Type 0 where
  pub rest : List (List ℕ)
  pub cut : pieces line ≡ first_piece line ∷ rest
  pub each : AllByRecursion (IsLeftAlone now brief) rest

-- the name of an attribute that says how long a cookie lives
abbrev pub IsNameOfLife : List ℕ → Type 0
IsNameOfLife name =
    (str_to_ascii_lowercase name ≡ kind_name kinds.Expires) ⊎ (str_to_ascii_lowercase name ≡ kind_name kinds.MaxAge)

-- the piece says nothing of that
pub record SaysNoLife (piece : List ℕ) : Type 0 where
  pub date : (text : List ℕ) → ¬ (IsExpires piece text)
  pub end : (d : DateTime) → ¬ (Gives piece (Expires d))
  pub age : (z : ℤ) → ¬ (Gives piece (MaxAge z))
