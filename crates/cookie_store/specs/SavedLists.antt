-- Saving and loading a store as one text, which a caller's closure makes or reads (own: docs/DEFINITIONS.md).
use Rattle.std.specs.Prelude.{◌≡◌, ◌⊎◌, ℕ, ℤ, List, [], ◌∷◌, ◌++◌, map, Bool, Result, Ok, Err, String, string_bytes}
use Rattle.std.specs.Borrow.{Bor}
use Rattle.std.specs.Fn.{CalledAt}
use Rattle.std.specs.Str.{IsUtf8}
use Rattle.std.specs.Global.{Vec}
use Rattle.std.specs.declared.alloc.Global.{Global}
use denote.Param.Members.{Mut}
use Rattle.store_parts.specs.declared.error.Error.{Error}
use Rattle.store_parts.specs.declared.error.Error.TheVariants.{NotText}
use Rattle.cookie_store.specs.Placing.{loaded_store}
use Rattle.cookie_store.specs.Rows.{Row, Store}

-- ---- saving

-- what calls of a closure take and give: cookies that show rows, and a text
pub record Lister (F : Type 0) : Type 1 where
  pub Item : Type 0
  pub shows : Item → Row
  pub calls : Mut F (Bor (List Item) × Unit {0}) (Result (String Global) Error)

abbrev pub lister : {F C : Type 0} → (C → Row) → Mut F (Bor (List C) × Unit {0}) (Result (String Global) Error)
    → Lister F
lister {F} {C} shows calls = record { Item = C; shows = shows; calls = calls }

-- the closure answers this at cookies that show the rows
abbrev pub Lists : {F : Type 0} → Lister F → F → List Row → Result (String Global) Error → Type 0
Lists {F} closures closure rows answer =
    (cookies : List closures.Item) × (last : F) × (map closures.shows cookies ≡ rows)
    × CalledAt closures.calls closure cookies answer last

-- the text that it makes of the rows, and a line feed
abbrev pub IsListOf : {F : Type 0} → Lister F → F → List Row → List ℕ → Type 0
IsListOf closures closure rows text =
    (list : String Global) × Lists closures closure rows (Ok list) × (text ≡ string_bytes list ++ 10 ∷ [])

-- ---- loading

-- what calls of a closure take and give: a text, and cookies that show rows
pub record ListReader (F : Type 0) : Type 1 where
  pub Item : Type 0
  pub shows : Item → Row
  pub calls : Mut F (Bor (List ℕ) × Unit {0}) (Result (Vec Item) Error)

abbrev pub reader : {F C : Type 0} → (C → Row) → Mut F (Bor (List ℕ) × Unit {0}) (Result (Vec C) Error) → ListReader F
reader {F} {C} shows calls = record { Item = C; shows = shows; calls = calls }

-- the closure answers this at a text
abbrev pub ReadsList : {F : Type 0} (closures : ListReader F) → F → List ℕ → Result (Vec closures.Item) Error → Type 0
ReadsList {F} closures closure text answer =
    IsUtf8 text × ((last : F) × CalledAt closures.calls closure text answer last)

-- a store that loaded what it makes of the text
abbrev pub LoadsBy : {F : Type 0} → ListReader F → F → Bool → ℤ → List ℕ → Store → Type 0
LoadsBy closures closure with_expired now text store =
    (cookies : Vec closures.Item) × ReadsList closures closure text (Ok cookies)
    × (store ≡ loaded_store with_expired now (map closures.shows cookies.items))

-- Why none is loaded of the text: it isn't UTF-8, or the closure refused it.
abbrev pub IsRefusedBy : {F : Type 0} → ListReader F → F → List ℕ → Error → Type 0
IsRefusedBy closures closure text e = ((e ≡ NotText) × (¬ IsUtf8 text)) ⊎ ReadsList closures closure text (Err e)
