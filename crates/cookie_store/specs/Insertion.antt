-- What becomes of a cookie at its insertion, and the rows after it (RFC 6265, 5.3, steps 3 to 12).
use Rattle.std.specs.Prelude.{◌≡◌, ◌≢◌, ◌⊎◌, ℕ, ℤ, List, [], ◌∷◌, ◌++◌, true, ◌&&◌, Option, Result, Ok, Err}
use Rattle.std.specs.Prelude.{if◌then◌else◌}
use Rattle.std.specs.Iterator.{Drains, Yields}
use Rattle.std.specs.List.{list_any}
use Rattle.cookie_text.specs.Printing.{is_set}
use Rattle.cookie_text.specs.Reading.{ReadsPlain}
use Rattle.cookie_text.specs.Record.{Seen, unsliced}
use Rattle.cookie_text.specs.declared.error.ParseError.{ParseError}
use Rattle.publicsuffix.specs.Rules.{Rule}
use Rattle.store_parts.specs.DomainMatch.{host_only, CoversAt, IsHostOf, IsListedIn}
use Rattle.store_parts.specs.Expiry.{is_dead}
use Rattle.store_parts.specs.Schemes.{IsHttpScheme}
use Rattle.store_parts.specs.declared.error.CookieError.{CookieError}
use Rattle.store_parts.specs.declared.error.CookieError.TheVariants.{NonHttpScheme, PublicSuffix, DomainMismatch}
use Rattle.store_parts.specs.declared.error.CookieError.TheVariants.{Expired, Parse, OutOfMemory}
use Rattle.url.specs.Parts.{Parts}
use Rattle.cookie_store.specs.Making.{IsBarred, IsMade, IsRefused}
use Rattle.cookie_store.specs.Rows.{Row, domain_text, has_key_of, is_live_of, ended, put}
use Rattle.cookie_store.specs.declared.action.StoreAction.{StoreAction}
use Rattle.cookie_store.specs.declared.action.StoreAction.TheVariants.{Inserted, ExpiredExisting, UpdatedExisting}

-- how an insertion ends: its answer, and the rows after it
abbrev pub End : Type 0
End = Result StoreAction CookieError × List Row

-- a refused cookie leaves the rows as they were
abbrev pub refused : CookieError → List Row → End
refused cause rows = (Err cause, rows)

-- ---- one cookie: the first cause against it that there is, want of memory aside

-- what putting a row among the rows is
abbrev pub action_of : Row → List Row → StoreAction
action_of row rows = if list_any (has_key_of row) rows then UpdatedExisting else Inserted

-- one that is dead ends the live row of its key, and is `Expired` where there is none; one that isn't dead is put among
-- the rows (steps 11 and 12)
abbrev pub settled : List Row → ℤ → Row → End
settled rows now row =
    if is_dead now row.death then
    (if list_any (is_live_of now row) rows then (Ok ExpiredExisting, ended now row rows)
    else refused Expired rows)
    else (Ok (action_of row rows), put row rows)

-- a live row of its key is HttpOnly, and the URL's scheme is none of HTTP (step 11.2)
abbrev pub IsGuarded : List Row → Parts → ℤ → Row → Type 0
IsGuarded rows url now row =
    (list_any (λ other. is_live_of now row other && is_set other.raw.cookie.http_only) rows ≡ true)
    × (¬ (IsHttpScheme url))

abbrev pub Settles : List Row → Parts → ℤ → Row → End → Type 0
Settles rows url now row end =
    (IsGuarded rows url now row × (end ≡ refused NonHttpScheme rows))
    ⊎ ((¬ (IsGuarded rows url now row)) × (end ≡ settled rows now row))

-- its domain covers the URL's host, else it is `DomainMismatch` (step 6)
abbrev pub Fits : List Row → Parts → ℤ → Row → End → Type 0
Fits rows url now row end =
    ((¬ (CoversAt row.domain url)) × (end ≡ refused DomainMismatch rows))
    ⊎ (CoversAt row.domain url × Settles rows url now row end)

-- the row as one of its domain's text alone
abbrev pub alone : Row → Row
alone row = record row { domain = host_only (domain_text row) }

-- where the list lists its domain, it is kept as that host's alone, or is `PublicSuffix` from any other (step 5)
abbrev pub Admits : List Rule → List Row → Parts → ℤ → Row → End → Type 0
Admits list rows url now row end =
    ((¬ (IsListedIn row.domain list)) × Fits rows url now row end)
    ⊎ (IsListedIn row.domain list × IsHostOf row.domain url × Fits rows url now (alone row) end)
    ⊎ (IsListedIn row.domain list × (¬ (IsHostOf row.domain url)) × (end ≡ refused PublicSuffix rows))

-- a store's cookie from the URL at the moment, barred by its own HttpOnly before all else (step 10)
abbrev pub Inserts : List Rule → List Row → Parts → ℤ → Row → End → Type 0
Inserts list rows url now row end =
    (IsBarred row.raw.cookie url × (end ≡ refused NonHttpScheme rows))
    ⊎ ((¬ (IsBarred row.raw.cookie url)) × Admits list rows url now row end)

-- ---- what is received

-- a received cookie, refused or made a store's cookie, which is then inserted
abbrev pub InsertsRaw : List Rule → List Row → Parts → ℤ → Seen → End → Type 0
InsertsRaw list rows url now received end =
    ((cause : CookieError) × (cause ≢ OutOfMemory) × IsRefused received.cookie url cause
    × (end ≡ refused cause rows))
    ⊎ ((made : Row) × IsMade received url now made × Inserts list rows url now made end)

-- what was read: a cookie, of which no part is then a slice of its source, or `Parse`
abbrev pub InsertsRead : List Rule → List Row → Parts → ℤ → Result Seen ParseError → End → Type 0
InsertsRead list rows url now (Err error) end = end ≡ refused Parse rows
InsertsRead list rows url now (Ok seen) end = InsertsRaw list rows url now (unsliced seen.cookie) end

-- ---- want of memory

-- it ends so; or it would put a row, and there is no memory for that
abbrev pub OrLacks : (End → Type 0) → List Row → End → Type 0
OrLacks Ends rows end =
    Ends end
    ⊎ ((action : StoreAction) × (new : List Row) × (action ≢ ExpiredExisting) × Ends (Ok action, new)
    × (end ≡ refused OutOfMemory rows))

-- there is no memory for making a store's cookie of one that was read and isn't barred
abbrev pub LacksMemory : List Row → Parts → Result Seen ParseError → End → Type 0
LacksMemory rows url (Err error) end = ⊥
LacksMemory rows url (Ok seen) end = (¬ (IsBarred seen.cookie url)) × (end ≡ refused OutOfMemory rows)

-- what becomes of what was read
abbrev pub Receives : List Rule → List Row → Parts → ℤ → Result Seen ParseError → End → Type 0
Receives list rows url now read end = InsertsRead list rows url now read end ⊎ LacksMemory rows url read end

-- what becomes of a text
abbrev pub ReceivesText : List Rule → List Row → Parts → ℤ → List ℕ → End → Type 0
ReceivesText list rows url now text end =
    (read : Result Seen ParseError) × ReadsPlain text read × Receives list rows url now read end

-- ---- several cookies

-- each is received in its turn, whatever becomes of it
abbrev pub ReceivesAll : List Rule → List Row → Parts → ℤ → List Seen → List Row → Type 0
ReceivesAll list rows url now [] new = new ≡ rows
ReceivesAll list rows url now (seen ∷ rest) new =
    (end : End) × InsertsRead list rows url now (Ok seen) end × ReceivesAll list end.1 url now rest new

-- those before the last are received so, and for the last there is no memory
abbrev pub StopsAtLast : List Rule → List Row → Parts → ℤ → List Seen → List Row → Type 0
StopsAtLast list rows url now all new =
    (before : List Seen) × (last : Seen) × (all ≡ before ++ last ∷ []) × ReceivesAll list rows url now before new
    × (¬ (IsBarred last.cookie url))

-- all that an iterator gives
abbrev pub StoresAll : {S : Type 0} → (S → Option Seen → S → Type 0) → S → List Rule → List Row → Parts → ℤ → List Row
    → Type 0
StoresAll steps cookies list rows url now new =
    (all : List Seen) × Drains steps cookies all × ReceivesAll list rows url now all new

-- those that it gives up to one for which there is no memory
abbrev pub StopsWithin : {S : Type 0} → (S → Option Seen → S → Type 0) → S → List Rule → List Row → Parts → ℤ
    → List Row → Type 0
StopsWithin {S} steps cookies list rows url now new =
    (all : List Seen) × (left : S) × Yields steps cookies all left × StopsAtLast list rows url now all new
