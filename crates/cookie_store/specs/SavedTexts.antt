-- Saved texts of a store's rows, and why rows aren't loaded from a text or saved to one (own: docs/DEFINITIONS.md).
use Rattle.std.specs.Prelude.{◌≡◌, ◌⊎◌, ◌^◌, ◌-◌, ℕ, ℤ, List, [], ◌∷◌, ◌++◌, Bool, Option, Some, IfSome}
use Rattle.std.specs.List.{flat_map}
use Rattle.std.specs.Str.{IsUtf8}
use Rattle.std.specs.Str.Lines.{lines}
use Rattle.cookie_text.specs.ReadingBack.{Pairwise}
use Rattle.std.specs.Io.KnownBytes.{Appends, Consumes, IsAtEnd}
use Rattle.devices.specs.Device.{AppendsFront, Rose}
use Rattle.serde_json.specs.Data.{Data}
use Rattle.serde_json.specs.Read.{read}
use Rattle.saved_text.specs.Json.{rows_value, row_value, row_text}
use Rattle.saved_text.specs.JsonReading.{IsJsonFault, AreNoRows, IsNoRow, IsShapeFault}
use Rattle.saved_text.specs.RonReading.{IsRonFault}
use Rattle.saved_text.specs.Row.{Shown}
use Rattle.saved_text.specs.declared.error.SavedTextError.{SavedTextError}
use Rattle.saved_text.specs.declared.error.SavedTextError.TheVariants as fault
use Rattle.store_parts.specs.declared.error.Error.{Error}
use Rattle.store_parts.specs.declared.error.Error.TheVariants.{Io, NotText, Json, Ron, Shape, Year, OutOfMemory}
use Rattle.cookie_store.specs.LoadedLines.{Cuts, Input}
use Rattle.cookie_store.specs.Placing.{loaded_store}
use Rattle.cookie_store.specs.Rows.{Row, Store}
use Rattle.cookie_store.specs.SavedRows.{IsShownAs, IsLoadedFrom, IsBeforeYears}

-- ---- saving

-- a list of rows in a form of lists that are shown
abbrev pub Saves : {A : Type 0} → (List Shown → A) → List Row → A → Type 0
Saves form rows text = (all : List Shown) × Pairwise IsShownAs rows all × (text ≡ form all)

-- Why a row of this death has no saved text: `Year` only where the death is of a year below 0.
abbrev pub IsRowFault : Option ℤ → Error → Type 0
IsRowFault death e = ((e ≡ Year) × IsBeforeYears death) ⊎ (e ≡ OutOfMemory)

-- one of the rows has a death of a year below 0
pub record IsAnyBeforeYears (rows : List Row) : Type 0 where
  pub before : List Row
  pub row : Row
  pub after : List Row
  pub split : rows ≡ before ++ row ∷ after
  pub is : IsBeforeYears row.death

-- Why rows have no saved text: `Year` only where one has a death of a year below 0.
abbrev pub IsSaveFault : List Row → Error → Type 0
IsSaveFault rows e = ((e ≡ Year) × IsAnyBeforeYears rows) ⊎ (e ≡ OutOfMemory)

-- one row a line, in compact JSON
abbrev pub json_lines : List Shown → List ℕ
json_lines all = flat_map (λ shown. row_text shown ++ 10 ∷ []) all

-- the rows before one that has no saved text have these lines
pub record SavesUntil (rows : List Row) (e : Error) (text : List ℕ) : Type 0 where
  pub before : List Row
  pub row : Row
  pub after : List Row
  pub split : rows ≡ before ++ row ∷ after
  pub fault : IsRowFault row.death e
  pub lines : Saves json_lines before text

-- the lines of the rows before one are written, and a front of its own line
pub record FailsInLine (rows : List Row) (old new : Option (List ℕ)) : Type 0 where
  pub before : List Row
  pub row : Row
  pub after : List Row
  pub split : rows ≡ before ++ row ∷ after
  pub lines : List ℕ
  pub saved : Saves json_lines before lines
  pub shown : Shown
  pub is : IsShownAs row shown
  pub front : List ℕ
  pub back : List ℕ
  pub line : row_text shown ++ 10 ∷ [] ≡ front ++ back
  pub written : Appends old new (lines ++ front)

-- ---- loading

-- a store that loaded the rows that are shown so, and has no list of public suffixes
abbrev pub HasLoaded : Bool → ℤ → List Shown → Store → Type 0
HasLoaded with_expired now all store =
    (rows : List Row) × Pairwise IsLoadedFrom all rows × (store ≡ loaded_store with_expired now rows)

-- a store that loaded the rows that a text shows; `Shows` tells which
abbrev pub Loads : {A : Type 0} → (A → List Shown → Type 0) → Bool → ℤ → A → Store → Type 0
Loads Shows with_expired now text store = (all : List Shown) × Shows text all × HasLoaded with_expired now all store

-- the rows that a value of JSON shows, and those of a text of it
abbrev pub IsValueOf : Data → List Shown → Type 0
IsValueOf value all = value ≡ rows_value all

abbrev pub IsJsonOf : List ℕ → List Shown → Type 0
IsJsonOf text all = IsUtf8 text × (read text ≡ Some (rows_value all))

-- ---- refusals

-- a refusal of a saved text, by its name
abbrev pub of_saved_text : SavedTextError → Error
of_saved_text fault.NotText = NotText
of_saved_text fault.Json = Json
of_saved_text fault.Shape = Shape
of_saved_text (fault.Ron n) = Ron n
of_saved_text fault.OutOfMemory = OutOfMemory

-- a refusal that a fault of this kind is
abbrev pub IsRefusal : (SavedTextError → Type 0) → Error → Type 0
IsRefusal Is e = (cause : SavedTextError) × Is cause × (e ≡ of_saved_text cause)

-- Why bytes aren't read as a text: they aren't UTF-8, as `NotText`, or they are, and a fault of the text refuses it.
abbrev pub IsTextRefusal : (List ℕ → SavedTextError → Type 0) → List ℕ → Error → Type 0
IsTextRefusal IsFault text e = ((e ≡ NotText) × (¬ IsUtf8 text)) ⊎ (IsUtf8 text × IsRefusal (IsFault text) e)

-- as JSON, and as RON
abbrev pub IsJsonRefusal : List ℕ → Error → Type 0
IsJsonRefusal text e = IsTextRefusal (IsJsonFault AreNoRows) text e

abbrev pub IsRonRefusal : List ℕ → Error → Type 0
IsRonRefusal text e = IsTextRefusal IsRonFault text e

-- Why a value is refused.
abbrev pub IsValueRefusal : Type 0 → Error → Type 0
IsValueRefusal fits e = IsRefusal (IsShapeFault fits) e

-- ---- lines of JSON

-- the line is a row's JSON
abbrev pub IsJsonRow : List ℕ → Row → Type 0
IsJsonRow line row = (t : Shown) × (read line ≡ Some (row_value t)) × IsLoadedFrom t row

abbrev pub IsLineOf : List ℕ → Row → Type 0
IsLineOf line row = IsUtf8 line × IsJsonRow line row

-- why it is none: it isn't UTF-8, or it is refused
abbrev pub IsLineRefusal : List ℕ → Error → Type 0
IsLineRefusal line e = IsTextRefusal (IsJsonFault IsNoRow) line e

-- all was read, and the store loaded the rows of its lines
pub record LoadsLines (with_expired : Bool) (now : ℤ) (old new : Input) (store : Store) : Type 0 where
  pub text : List ℕ
  pub read : Consumes old.left new.left text
  pub ended : IsAtEnd new.left
  pub failures : new.failures ≡ old.failures
  pub rows : List Row
  pub taken : Pairwise IsLineOf (lines text) rows
  pub placed : store ≡ loaded_store with_expired now rows

-- the first fault in the order of the lines, or want of memory
abbrev pub StopsAt : List (List ℕ) → Error → Type 0
StopsAt [] e = ⊥
StopsAt (line ∷ more) e =
    IsLineRefusal line e ⊎ (e ≡ OutOfMemory) ⊎ ((row : Row) × IsLineOf line row × StopsAt more e)

-- a read failed, or 2^64 - 1 reads met no end, and each line that ends in what was read is a row's
pub record StopsReading (old new : Input) : Type 0 where
  pub failed : Rose old.failures new.failures ⊎ (new.reads ≡ 2 ^ 64 - 1)
  pub text : List ℕ
  pub read : Consumes old.left new.left text
  pub whole : List (List ℕ)
  pub begun : List ℕ
  pub cut : Cuts text whole begun
  pub rows : List Row
  pub taken : Pairwise IsLineOf whole rows

-- loading stopped, at a line of the text, while no read failed, or at a read
abbrev pub StopsLoading : Input → Input → Error → Type 0
StopsLoading old new e =
    ((new.failures ≡ old.failures) × (text : List ℕ) × IfSome old.left (λ left. text ≡ left) × StopsAt (lines text) e)
    ⊎ ((e ≡ Io) × StopsReading old new)

-- ---- devices

-- the writer failed in the call
abbrev pub IsWriteFault : ℕ → ℕ → Error → Type 0
IsWriteFault before after e = (e ≡ Io) × Rose before after

-- a front of such a text was written
abbrev pub WritesFront : (List ℕ → Type 0) → Option (List ℕ) → Option (List ℕ) → Type 0
WritesFront IsText old new = (text : List ℕ) × IsText text × AppendsFront old new text

-- the reader failed in the call, or 2^64 - 1 reads met no end
abbrev pub IsReadFault : ℕ → ℕ → ℕ → Error → Type 0
IsReadFault before after reads e = (e ≡ Io) × (Rose before after ⊎ (reads ≡ 2 ^ 64 - 1))

-- so it is with the text that a reader had left, which is this one where that is known
abbrev pub OfText : Option (List ℕ) → (List ℕ → Type 0) → Type 0
OfText left Is = (text : List ℕ) × IfSome left (λ input. text ≡ input) × Is text
