-- What holds of each list of rows.
use Rattle.std.specs.Prelude.{◌≡◌, ◌⊎◌, ℤ, List, ◌∷◌, ◌++◌, Bool, true, false, Some, filter, Ok}
use Rattle.std.specs.List.{list_any}
use Rattle.publicsuffix.specs.Rules.{Rule}
use Rattle.store_parts.specs.Expiry.{is_dead}
use Rattle.store_parts.specs.Schemes.{host_of}
use Rattle.url.specs.Parts.{Parts}
use Rattle.cookie_store.specs.Confined.{IsConfined}
use Rattle.cookie_store.specs.Given.{AreGiven}
use Rattle.cookie_store.specs.Insertion.{End, Inserts, alone}
use Rattle.cookie_store.specs.Longest.{AreLongestFirst}
use Rattle.cookie_store.specs.Rows.{Row, key_of, has_key_of, has_place_of, HaveOwnKeys, found, found_live, put, removed}
use Rattle.cookie_store.specs.declared.action.StoreAction.{StoreAction}

-- which rows a request is given is determined
abbrev pub GivenOnce : Type 0
GivenOnce =
    (rows a b : List Row) (url : Parts) (now : ℤ) → AreGiven rows url now a → AreGiven rows url now b → a ≡ b

-- rows with longer paths first: there is such an order, and one alone
pub record OneOrder : Type 0 where
  pub there : (rows : List Row) → (ordered : List Row) × AreLongestFirst rows ordered
  pub one : (rows a b : List Row) → AreLongestFirst rows a → AreLongestFirst rows b → a ≡ b

-- how an insertion ends is determined
abbrev pub EndsOnce : Type 0
EndsOnce =
    (list : List Rule) (rows : List Row) (url : Parts) (now : ℤ) (row : Row) (a b : End)
    → Inserts list rows url now row a → Inserts list rows url now row b → a ≡ b

-- an insertion keeps the keys apart
abbrev pub StayApart : Type 0
StayApart =
    (list : List Rule) (rows : List Row) (url : Parts) (now : ℤ) (row : Row) (end : End)
    → Inserts list rows url now row end → HaveOwnKeys rows → HaveOwnKeys end.1

-- what was inserted and isn't dead is got: the row, or it as one of its host alone
abbrev pub InsertedIsGot : Type 0
InsertedIsGot =
    (list : List Rule) (rows : List Row) (url : Parts) (now : ℤ) (row : Row) (action : StoreAction) (new : List Row)
    → is_dead now row.death ≡ false → Inserts list rows url now row (Ok action, new)
    → (stored : Row) × ((stored ≡ row) ⊎ (stored ≡ alone row)) × (found_live now (key_of row) new ≡ Some stored)

-- a row that was put is found; rows that a test tells from those of its key stay, in their order
pub record PuttingIsLocal : Type 0 where
  pub there : (row : Row) (rows : List Row) → found (key_of row) (put row rows) ≡ Some row
  pub others :
      (t : Row → Bool) (row : Row) → t row ≡ false → ((r : Row) → has_key_of row r ≡ true → t r ≡ false)
      → (rows : List Row) → filter t (put row rows) ≡ filter t rows

-- no row of its domain and path stands behind the row
pub record IsLastOfPlace (row : Row) (rows : List Row) : Type 0 where
  pub before : List Row
  pub after : List Row
  pub split : rows ≡ before ++ row ∷ after
  pub last : list_any (has_place_of row) after ≡ false

-- a row that is put once the one of its key was taken out is the last of its domain and path
abbrev pub ComesLast : Type 0
ComesLast = (row : Row) (rows : List Row) → IsLastOfPlace row (put row (removed (key_of row) rows))

-- an insertion touches what the URL's host may
abbrev pub InsertionIsConfined : Type 0
InsertionIsConfined =
    (list : List Rule) (rows : List Row) (url : Parts) (now : ℤ) (row : Row) (end : End)
    → Inserts list rows url now row end → IsConfined list (host_of url) rows end.1
