-- Loading a store by lines, of which a caller's closure makes cookies (own: docs/DEFINITIONS.md).
--
-- `lines` ends a line at a line feed and drops a carriage return before that; the last line may lack its end, and an
-- empty text has none.
use Rattle.std.specs.Prelude.{◌≡◌, ◌⊎◌, ◌^◌, ◌-◌, ℕ, ℤ, Bool, List, [], ◌∷◌, ◌++◌, All, ◌≢◌, Option, Some, IfSome}
use Rattle.std.specs.Prelude.{Result, Ok, Err, map}
use Rattle.std.specs.Borrow.{Bor}
use Rattle.std.specs.Fn.{CalledAt}
use Rattle.std.specs.Io.KnownBytes.{Consumes, IsAtEnd}
use Rattle.std.specs.Iterator.{Drains, Yields, YieldsThen}
use Rattle.std.specs.Str.{IsUtf8}
use Rattle.std.specs.Str.Lines.{lines}
use denote.Param.Members.{Mut}
use Rattle.devices.specs.Device.{Rose}
use Rattle.store_parts.specs.declared.error.Error.{Error}
use Rattle.store_parts.specs.declared.error.Error.TheVariants.{Io, NotText, OutOfMemory}
use Rattle.cookie_store.specs.Placing.{loaded_store}
use Rattle.cookie_store.specs.Rows.{Row, Store}
use Rattle.cookie_store.specs.StoredCookie.{stored_of}
use Rattle.cookie_store.specs.declared.stored_cookie.Cookie.{Cookie}

-- what is seen of a reader: the bytes that are left, where they are known, how many of its calls failed, and how many
-- reads there were
pub record Input : Type 0 where
  pub left : Option (List ℕ)
  pub failures : ℕ
  pub reads : ℕ

abbrev pub input : Option (List ℕ) → ℕ → ℕ → Input
input left failures reads = record { left = left; failures = failures; reads = reads }

-- what calls of a closure take and give: a text, and a cookie that shows a row
pub record LineReader (F : Type 0) : Type 1 where
  pub Item : Type 0
  pub shows : Item → Row
  pub calls : Mut F (Bor (List ℕ) × Unit {0}) (Result Item Error)

abbrev pub line_reader : {F C : Type 0} → (C → Row) → Mut F (Bor (List ℕ) × Unit {0}) (Result C Error) → LineReader F
line_reader {F} {C} shows calls = record { Item = C; shows = shows; calls = calls }

-- the closure made a cookie of the line that shows the row
abbrev pub MakesRow : {F : Type 0} → LineReader F → F → List ℕ → Row → F → Type 0
MakesRow closures closure line row after =
    (cookie : closures.Item) × (closures.shows cookie ≡ row) × CalledAt closures.calls closure line (Ok cookie) after

-- the lines are UTF-8, and the closure made these rows of them, one after another
abbrev pub TakesLines : {F : Type 0} → LineReader F → F → List (List ℕ) → List Row → F → Type 0
TakesLines closures closure [] [] last = closure ≡ last
TakesLines closures closure [] (row ∷ rows) last = ⊥
TakesLines closures closure (line ∷ more) [] last = ⊥
TakesLines {F} closures closure (line ∷ more) (row ∷ rows) last =
    (mid : F) × IsUtf8 line × MakesRow closures closure line row mid × TakesLines closures mid more rows last

-- why a line gives no cookie: it isn't UTF-8, or the closure refused it
abbrev pub IsFault : {F : Type 0} → LineReader F → F → List ℕ → Error → Type 0
IsFault {F} closures closure line error =
    ((error ≡ NotText) × (¬ (IsUtf8 line)))
    ⊎ (IsUtf8 line × (last : F) × CalledAt closures.calls closure line (Err error) last)

-- loading stopped at a line, those before it having given cookies: at the first fault in the order of the lines, or
-- for want of memory
abbrev pub StopsAtLine : {F : Type 0} → LineReader F → F → List (List ℕ) → Error → Type 0
StopsAtLine closures closure [] error = ⊥
StopsAtLine {F} closures closure (line ∷ more) error =
    IsFault closures closure line error
    ⊎ (error ≡ OutOfMemory)
    ⊎ ((row : Row) × (mid : F) × IsUtf8 line × MakesRow closures closure line row mid
    × StopsAtLine closures mid more error)

-- a text begins with these lines, whatever comes behind it, and behind them has no line feed
pub record Cuts (text : List ℕ) (whole : List (List ℕ)) (begun : List ℕ) : Type 0 where
  pub first : (rest : List ℕ) → lines (text ++ rest) ≡ whole ++ lines (begun ++ rest)
  pub unended : All (λ b. b ≢ 10) begun

-- a read failed, or 2^64 - 1 reads met no end, and each line that ends in what was read had given a cookie
pub record StopsReadingBy {F : Type 0} (closures : LineReader F) (closure : F) (old new : Input) : Type 0 where
  pub failed : Rose old.failures new.failures ⊎ (new.reads ≡ 2 ^ 64 - 1)
  pub text : List ℕ
  pub read : Consumes old.left new.left text
  pub whole : List (List ℕ)
  pub begun : List ℕ
  pub cut : Cuts text whole begun
  pub rows : List Row
  pub last : F
  pub taken : TakesLines closures closure whole rows last

-- all was read, and each line gave a cookie
pub record LoadsLinesBy {F : Type 0} (closures : LineReader F) (closure : F) (with_expired : Bool) (now : ℤ)
    (old new : Input) (store : Store) : Type 0 where
  pub text : List ℕ
  pub read : Consumes old.left new.left text
  pub ended : IsAtEnd new.left
  pub failures : new.failures ≡ old.failures
  pub rows : List Row
  pub last : F
  pub taken : TakesLines closures closure (lines text) rows last
  pub placed : store ≡ loaded_store with_expired now rows

-- loading stopped, at a line of the text, while no read failed, or at a read
abbrev pub StopsLoadingLines : {F : Type 0} → LineReader F → F → Input → Input → Error → Type 0
StopsLoadingLines closures closure old new error =
    ((new.failures ≡ old.failures) × (text : List ℕ) × IfSome old.left (λ left. text ≡ left)
    × StopsAtLine closures closure (lines text) error)
    ⊎ ((error ≡ Io) × StopsReadingBy closures closure old new)

-- ---- cookies of an iterator

-- all that it gives are cookies, which the store loaded
abbrev pub GivesStore : {S : Type 0} → (S → Option (Result Cookie Error) → S → Type 0) → S → Bool → ℤ → Store → Type 0
GivesStore steps iter with_expired now store =
    (cookies : List Cookie) × Drains steps iter (map Ok cookies)
    × (store ≡ loaded_store with_expired now (map stored_of cookies))

-- it gives cookies and then a refusal; or it gave cookies, and memory was refused
abbrev pub StopsGiving : {S : Type 0} → (S → Option (Result Cookie Error) → S → Type 0) → S → Error → Type 0
StopsGiving {S} steps iter error =
    ((cookies : List Cookie) × (last : S) × YieldsThen steps iter (map Ok cookies) (Some (Err error)) last)
    ⊎ ((error ≡ OutOfMemory) × (cookies : List Cookie) × (last : S) × Yields steps iter (map Ok cookies) last)
