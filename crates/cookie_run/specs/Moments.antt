-- The moments of a play: whole seconds of the years 1971 to 9998, which never go back (own: docs/DEFINITIONS.md).
use Rattle.std.specs.Prelude.{ℕ, ℤ, pos, List, [], ◌∷◌, ◌*◌, ◌≤◌, ◌<◌, ◌≤ℤ◌, ◌<ℤ◌, ◌≡◌, ⊤}
use Rattle.cookie_client.specs.Moment.{second_1971}
use Rattle.cookie_run.specs.declared.step.FaultKind.{FaultKind}
use Rattle.cookie_run.specs.declared.step.FaultKind.TheVariants.{Moment, Back, Restart, Memory}

-- the first second of 9999, counted from 1970-01-01T00:00:00
abbrev pub second_9999 : ℕ
second_9999 = 253_370_764_800

-- a whole second of these years, in nanoseconds since 1970
pub record IsMoment (at : ℤ) : Type 0 where
  pub second : ℕ
  pub whole : at ≡ pos (second * 1_000_000_000)
  pub from : second_1971 ≤ second
  pub until : second < second_9999

-- what is wrong with a moment that comes after the last one
abbrev pub IsWrong : FaultKind → ℤ → ℤ → Type 0
IsWrong Moment last at = ¬ IsMoment at
IsWrong Back last at = IsMoment at × (at <ℤ last)
IsWrong Restart last at = ⊥
IsWrong Memory last at = ⊥

-- nothing is wrong with it
pub record Follows (last at : ℤ) : Type 0 where
  pub is_moment : IsMoment at
  pub in_order : last ≤ℤ at

-- nothing is wrong with any of them, each coming after the one in front of it
abbrev pub AllFollow : ℤ → List ℤ → Type 0
AllFollow last [] = ⊤
AllFollow last (at ∷ later) = Follows last at × AllFollow at later

-- the last of the moments
abbrev pub last_of : ℤ → List ℤ → ℤ
last_of last [] = last
last_of last (at ∷ later) = last_of at later

-- where a play begins: before every moment
abbrev pub the_beginning : ℤ
the_beginning = pos 0
