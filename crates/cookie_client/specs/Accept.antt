-- What becomes of the `Set-Cookie` lines of an answer, and the rows after them (RFC 6265, 5.2 and 5.3).
use Rattle.std.specs.Prelude.{◌≡◌, ◌⊎◌, ◌+◌, ◌<◌, ℕ, ℤ, List, [], ◌∷◌, length, take, get_or, Result, Ok, Err}
use Rattle.std.specs.Str.{IsUtf8}
use Rattle.cookie_text.specs.Reading.{ReadsPlain}
use Rattle.cookie_text.specs.Record.{Seen}
use Rattle.cookie_text.specs.declared.error.ParseError.{ParseError}
use Rattle.publicsuffix.specs.Rules.{Rule}
use Rattle.store_parts.specs.declared.error.CookieError.{CookieError}
use Rattle.url.specs.Parts.{Parts}
use Rattle.cookie_store.specs.Insertion.{InsertsRead}
use Rattle.cookie_store.specs.Making.{IsBarred}
use Rattle.cookie_store.specs.Rows.{Row}
use Rattle.cookie_store.specs.declared.action.StoreAction.{StoreAction}
use Rattle.cookie_client.specs.declared.outcome.LineEnd.{LineEnd}
use Rattle.cookie_client.specs.declared.outcome.LineEnd.TheVariants.{Stored, Refused, NotText, HostPrefix}
use Rattle.cookie_client.specs.HostPrefix.{BreaksHost, IsAgainstHost}

-- how it went with a line that is a text
abbrev pub text_end : Result StoreAction CookieError → LineEnd
text_end (Ok action) = Stored action
text_end (Err cause) = Refused cause

-- What becomes of a line by the store alone, and the rows after it: no text changes nothing, a text is read and
-- inserted as the store does, want of memory aside.
abbrev pub Stores : List Rule → List Row → Parts → ℤ → List ℕ → LineEnd → List Row → Type 0
Stores list rows url now line end new =
    ((¬ (IsUtf8 line)) × (end ≡ NotText) × (new ≡ rows))
    ⊎ (IsUtf8 line × ((read : Result Seen ParseError) × ReadsPlain line read
    × ((answer : Result StoreAction CookieError) × InsertsRead list rows url now read (answer, new)
    × (end ≡ text_end answer))))

-- What becomes of a line from the URL at the moment: one that is against the prefix `__Host-` changes nothing, any
-- other goes to the store.
abbrev pub Accepts : List Rule → List Row → Parts → ℤ → List ℕ → LineEnd → List Row → Type 0
Accepts list rows url now line end new =
    (IsAgainstHost url line × (end ≡ HostPrefix) × (new ≡ rows))
    ⊎ ((¬ (IsAgainstHost url line)) × Stores list rows url now line end new)

-- what becomes of each of the lines, and the rows after them
abbrev pub AcceptsAll : List Rule → List Row → Parts → ℤ → List (List ℕ) → List LineEnd → List Row → Type 0
AcceptsAll list rows url now [] ends new = (ends ≡ []) × (new ≡ rows)
AcceptsAll list rows url now (line ∷ lines) [] new = ⊥
AcceptsAll list rows url now (line ∷ lines) (end ∷ ends) new =
    (mid : List Row) × Accepts list rows url now line end mid × AcceptsAll list mid url now lines ends new

-- the rows after the lines, whatever became of each
abbrev pub Takes : List Rule → List Row → Parts → ℤ → List (List ℕ) → List Row → Type 0
Takes list rows url now lines new = (ends : List LineEnd) × AcceptsAll list rows url now lines ends new

-- ---- a step of the code, for private contracts alone

-- what becomes of a cookie that a line reads as, and the rows after it
abbrev pub AcceptsCookie : List Rule → List Row → Parts → ℤ → Seen → LineEnd → List Row → Type 0
AcceptsCookie list rows url now seen end new =
    (BreaksHost url seen × (end ≡ HostPrefix) × (new ≡ rows))
    ⊎ ((¬ (BreaksHost url seen)) × ((answer : Result StoreAction CookieError)
    × InsertsRead list rows url now (Ok seen) (answer, new) × (end ≡ text_end answer)))

-- ---- want of memory

-- for the line there may be no memory: it isn't against the prefix, and reads as a cookie that its own HttpOnly doesn't
-- bar
abbrev pub AsksForMemory : Parts → List ℕ → Type 0
AsksForMemory url line =
    (¬ (IsAgainstHost url line)) × IsUtf8 line
    × ((seen : Seen) × ReadsPlain line (Ok seen) × (¬ (IsBarred seen.cookie url)))

-- memory was refused at line n, counted from 1, once those before it were taken
pub record StopsAt (list : List Rule) (rows : List Row) (url : Parts) (now : ℤ) (lines : List (List ℕ)) (n : ℕ)
    (new : List Row) : Type 0 where
  pub before : ℕ
  pub number : n ≡ before + 1
  pub within : before < length lines
  pub taken : Takes list rows url now (take before lines) new
  pub asks : AsksForMemory url (get_or lines before [])

-- so, or before any line was looked at, which is 0
abbrev pub IsStopped : List Rule → List Row → Parts → ℤ → List (List ℕ) → ℕ → List Row → Type 0
IsStopped list rows url now lines n new =
    ((n ≡ 0) × (new ≡ rows)) ⊎ StopsAt list rows url now lines n new
