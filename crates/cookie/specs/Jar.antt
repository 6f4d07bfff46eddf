-- A jar of cookies: those that it began with, and what was changed since.
use Rattle.std.specs.Prelude.{◌≡◌, ℕ, not, List, Option, Some, None, is_some, map, string_bytes, option_map}
use Rattle.std.specs.Prelude.{MatchOption}
use Rattle.std.specs.List.{filter, filter_map}
use Rattle.std.specs.declared.string.String.{String}
use Rattle.std.specs.FinMap as finmap
use Rattle.jiff.specs.Types.{DateTime}
use Rattle.cookie_text.specs.Record.{Seen}
use Rattle.cookie_text.specs.Setting.{MakesRemoval}
pub use Rattle.cookie.specs.declared.delta.DeltaCookie.{DeltaCookie as Change}
pub use Rattle.cookie.specs.declared.delta.DeltaCookie.TheVariants.{Added, Removed}
use Rattle.cookie.specs.ByName.{ByName}

-- Two finite maps from name; a change is a cookie that was added, or the removal of one. For an example: the originals
-- are `a` and `b`, then `a` was removed and `c` added.
pub record Jar : Type 0 where
  pub originals : ByName Seen
  pub changes : ByName Change

-- the cookie of a change: the one that was added, or the one that removes
abbrev pub cookie_of : Change → Seen
cookie_of (Added c) = c
cookie_of (Removed c) = c

-- what stands after a change
abbrev pub standing : Change → Option Seen
standing (Added c) = Some c
standing (Removed c) = None

-- a change over an original
abbrev pub overlaid : Option Change → Option Seen → Option Seen
overlaid (Some change) original = standing change
overlaid None original = original

-- the view of a jar, changes over originals: `b` and `c` of the example, and none at `a`
abbrev pub view : Jar → List ℕ → Option Seen
view jar name = overlaid (finmap.get jar.changes name) (finmap.get jar.originals name)

-- the delta of a jar: the cookie of each change, removals too: the removal of `a`, and `c`, of the example
abbrev pub delta : Jar → List ℕ → Option Seen
delta jar name = option_map cookie_of (finmap.get jar.changes name)

-- the jar with nothing in it
abbrev pub empty : Jar
empty = record { originals = finmap.empty; changes = finmap.empty }

-- one more original, in the place of the one of its name
abbrev pub with_original : Jar → Seen → Jar
with_original jar c = record jar { originals = finmap.insert jar.originals c.cookie.name c }

-- one more change, in the place of the one of its name
abbrev pub with_change : Jar → Change → Jar
with_change jar change =
    record jar { changes = finmap.insert jar.changes (cookie_of change).cookie.name change }

-- one more addition
abbrev pub with_added : Jar → Seen → Jar
with_added jar c = with_change jar (Added c)

-- no change of this name
abbrev pub without_change : Jar → List ℕ → Jar
without_change jar name = record jar { changes = finmap.remove jar.changes name }

-- no change
abbrev pub without_changes : Jar → Jar
without_changes jar = record jar { changes = finmap.empty }

-- the jar without this name in either map
abbrev pub without : Jar → List ℕ → Jar
without jar name = record {
  originals = finmap.remove jar.originals name;
  changes = finmap.remove jar.changes name;
}

-- a cookie is removed: where an original has its name, the removal is the change of that name, else no
-- change of that name is left
abbrev pub Removes : Jar → Seen → DateTime → Jar → Type 0
Removes old c now new =
    MatchOption (finmap.get old.originals c.cookie.name)
    (new ≡ without_change old c.cookie.name)
    (λ _. (removal : Seen) × MakesRemoval c now removal × (new ≡ with_change old (Removed removal)))

-- cookies, each under its name
abbrev pub under_names : List Seen → List (List ℕ × Seen)
under_names cs = map (λ c. (c.cookie.name, c)) cs

-- each value is under the name of its cookie
abbrev pub AreUnderTheirNames : {X : Type 0} → (X → Seen) → ByName X → Type 0
AreUnderTheirNames {X} cookie m =
    (name : List ℕ) (x : X) → finmap.get m name ≡ Some x → (cookie x).cookie.name ≡ name

-- ---- what is left of an iteration

-- the cookies of the entries, removals too
abbrev pub changed : {Y : Type 0} → List (Y × Change) → List Seen
changed entries = map (λ e. cookie_of e.1) entries

-- those that were added
abbrev pub added : {Y : Type 0} → List (Y × Change) → List Seen
added entries = filter_map (λ e. standing e.1) entries

-- those under a name that has no change
abbrev pub unchanged : {Y : Type 0} → ByName Change → List (String Y × Seen) → List Seen
unchanged changes entries =
    map (λ e. e.1) (filter (λ e. not (is_some (finmap.get changes (string_bytes e.0)))) entries)
