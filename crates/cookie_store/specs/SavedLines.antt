-- Saving a store by lines, whose texts a caller's closure makes (own: docs/DEFINITIONS.md).
use Rattle.std.specs.Prelude.{◌≡◌, ◌⊎◌, ℕ, List, [], ◌∷◌, ◌++◌, Option, Result, Ok, Err, String, string_bytes}
use Rattle.std.specs.Borrow.{Bor}
use Rattle.std.specs.Fn.{CalledAt}
use Rattle.std.specs.Io.KnownBytes.{Appends, Keeps}
use Rattle.std.specs.List.{FoldsTo}
use Rattle.std.specs.declared.alloc.Global.{Global}
use denote.Param.Members.{Mut}
use Rattle.devices.specs.Device.{AppendsFront, Rose}
use Rattle.store_parts.specs.declared.error.Error.{Error}
use Rattle.store_parts.specs.declared.error.Error.TheVariants.{Io}
use Rattle.cookie_store.specs.Rows.{Row}

-- what is seen of a writer: the bytes in it, where they are known, and how many of its calls failed
pub record Output : Type 0 where
  pub written : Option (List ℕ)
  pub failures : ℕ

abbrev pub output : Option (List ℕ) → ℕ → Output
output written failures = record { written = written; failures = failures }

-- what calls of a closure take and give: a cookie that shows a row, and a text
pub record Printer (F : Type 0) : Type 1 where
  pub Item : Type 0
  pub shows : Item → Row
  pub calls : Mut F (Bor Item × Unit {0}) (Result (String Global) Error)

abbrev pub printer : {F C : Type 0} → (C → Row) → Mut F (Bor C × Unit {0}) (Result (String Global) Error) → Printer F
printer {F} {C} shows calls = record { Item = C; shows = shows; calls = calls }

-- the closure is called at a cookie that shows the row
abbrev pub Prints : {F : Type 0} → Printer F → F → Row → Result (String Global) Error → F → Type 0
Prints closures closure row answer after =
    (cookie : closures.Item) × (closures.shows cookie ≡ row) × CalledAt closures.calls closure cookie answer after

-- a line is its text and a line feed
abbrev pub line_of : String Global → List ℕ
line_of text = string_bytes text ++ 10 ∷ []

-- the closure made a text of the row, and its line was written
abbrev pub WritesLine : {F : Type 0} → Printer F → F × Output → Row → F × Output → Type 0
WritesLine calls old row new =
    (text : String Global) × Prints calls old.0 row (Ok text) new.0
    × Appends old.1.written new.1.written (line_of text) × (new.1.failures ≡ old.1.failures)

-- the closure made a text of each row, one after another, and their lines were written in this order
abbrev pub SavesLines : {F : Type 0} → Printer F → F → Output → List Row → Output → Type 0
SavesLines {F} calls closure old rows new = (last : F) × FoldsTo (WritesLine calls) (closure, old) rows (last, new)

-- the closure refused the row, and nothing more was written
abbrev pub RefusesRow : {F : Type 0} → Printer F → F × Output → Row → Error → Output → Type 0
RefusesRow {F} calls old row error new =
    (last : F) × Prints calls old.0 row (Err error) last
    × Keeps old.1.written new.written × (new.failures ≡ old.1.failures)

-- the writer failed in the row's line
abbrev pub FailsLine : {F : Type 0} → Printer F → F × Output → Row → Error → Output → Type 0
FailsLine {F} calls old row error new =
    (error ≡ Io) × (text : String Global) × (last : F) × Prints calls old.0 row (Ok text) last
    × AppendsFront old.1.written new.written (line_of text) × Rose old.1.failures new.failures

-- saving stopped at a row, the lines of those before it being written
abbrev pub StopsSaving : {F : Type 0} → Printer F → F × Output → List Row → Error → Output → Type 0
StopsSaving calls old [] error new = ⊥
StopsSaving {F} calls old (row ∷ more) error new =
    RefusesRow calls old row error new
    ⊎ FailsLine calls old row error new
    ⊎ ((mid : F × Output) × WritesLine calls old row mid × StopsSaving calls mid more error new)
