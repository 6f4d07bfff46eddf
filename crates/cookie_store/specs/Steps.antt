-- What private functions answer. No public contract names a word of this file.
use Rattle.std.specs.Prelude.{◌≡◌, ◌≢◌, ◌⊎◌, ◌↔◌, ◌≤◌, ℕ, ℤ, List, Option, Some, None, Ok, Err, Result, IfSome}
use Rattle.std.specs.Prelude.{IsSomeAnd}
use Rattle.std.specs.Prelude.{MatchResult, if◌then◌else◌, Bool, true, [], ◌∷◌, ◌++◌, All, length, slice_range}
use Rattle.std.specs.List.{flat_map, list_any}
use Rattle.std.specs.Str.{IsUtf8}
use Rattle.std.specs.Str.Lines.{lines}
use Rattle.cookie_text.specs.Record.{Record, Seen}
use Rattle.cookie_text.specs.Setting.{with_expires}
use Rattle.cookie_text.specs.declared.expiration.Expiration.{Expiration}
use Rattle.publicsuffix.specs.Rules.{Rule}
use Rattle.store_parts.specs.DomainMatch.{CoversAt, Domain, host_only, suffix, not_present, empty, domain_of}
use Rattle.store_parts.specs.DomainText.{read_domain}
use Rattle.store_parts.specs.declared.cookie_domain.CookieDomain.{CookieDomain}
use Rattle.store_parts.specs.declared.error.CookieError.{CookieError}
use Rattle.store_parts.specs.declared.error.CookieError.TheVariants.{Expired, OutOfMemory}
use Rattle.url.specs.Parts.{Parts}
use Rattle.cookie_store.specs.Given.{AreGiven}
use Rattle.cookie_store.specs.Insertion.{End, Inserts, Receives, refused}
use Rattle.cookie_store.specs.Making.{asked_domain, HasNoDomain, IsDomainFor}
use Rattle.cookie_store.specs.LoadedLines.{Cuts, MakesRow, LineReader, TakesLines}
use Rattle.cookie_store.specs.Placing.{chosen, is_saved, put_all, saved}
use Rattle.cookie_store.specs.Rows.{Row, is_live_of, ended}
use Rattle.cookie_store.specs.StoredCookie.{owned}
use Rattle.cookie_store.specs.Stripped.{IsEndOf}
use Rattle.cookie_store.specs.declared.coverage.Judged.{Judged}
use Rattle.cookie_store.specs.declared.action.StoreAction.{StoreAction}
use Rattle.cookie_store.specs.declared.action.StoreAction.TheVariants.{ExpiredExisting}

-- a suffix as the one host of its text
abbrev pub host_alone : Domain → Domain
host_alone (host_only text) = host_only text
host_alone (suffix text) = host_only text
host_alone not_present = not_present
host_alone empty = empty

-- a dead row ends the live one of its key
abbrev pub buried : ℤ → Row → List Row → End
buried now row rows =
    if list_any (is_live_of now row) rows then (Ok ExpiredExisting, ended now row rows)
    else refused Expired rows

-- the cookie is inserted, owning its texts, or there is no memory for it
abbrev pub InsertsOwned : List Rule → List Row → Parts → ℤ → Row → End → Type 0
InsertsOwned list rows url now row end =
    Inserts list rows url now (owned row) end ⊎ (end ≡ refused OutOfMemory rows)

-- one of several cookies is received, whatever becomes of it but want of memory
abbrev pub Passes : List Rule → List Row → Parts → ℤ → Seen → List Row → Type 0
Passes list rows url now seen new =
    (answer : Result StoreAction CookieError) × (answer ≢ Err OutOfMemory)
    × Receives list rows url now (Ok seen) (answer, new)

-- it meets want of memory, and the rows stay
abbrev pub MeetsWant : List Rule → List Row → Parts → ℤ → Seen → List Row → Type 0
MeetsWant list rows url now seen new =
    Receives list new url now (Ok seen) (refused OutOfMemory new) × (new ≡ rows)

-- ---- making a cookie, and handing it on

-- the cookie's domain at the URL, or why it has none; want of memory aside
abbrev pub GivesDomain : Record → Parts → Result CookieDomain CookieError → Type 0
GivesDomain cookie url answer =
    MatchResult answer
    (λ d. IsSomeAnd (asked_domain cookie) (λ asked. IsDomainFor asked url (domain_of d)))
    (HasNoDomain cookie url)

-- a death is put into a cookie as its Expires, at most the latest that a cookie keeps
abbrev pub PutsEnd : Option ℤ → Seen → Seen → Type 0
PutsEnd None old new = new ≡ old
PutsEnd (Some death) old new =
    (expires : Option Expiration) × IsEndOf (Some death) expires × (new ≡ with_expires old expires)

-- a text, where there is one, is put into a cookie
abbrev pub Puts : (Seen → Option (List ℕ) → Seen) → Option (List ℕ) → Seen → Seen → Type 0
Puts with None old new = new ≡ old
Puts with (Some text) old new = new ≡ with old (Some text)

-- ---- what a request is given

-- what was judged last, where something was: whether the domain that a text gives covers the URL's host
abbrev pub IsJudged : Option Judged → Parts → Type 0
IsJudged last url =
    IfSome last (λ j. (j.covers ≡ true) ↔ IsSomeAnd (read_domain j.domain.now) (λ domain. CoversAt domain url))

-- the parts lie within the rows
abbrev pub AreInside : List Row → List (ℕ × ℕ) → Type 0
AreInside rows parts = All (λ part. (part.0 ≤ part.1) × (part.1 ≤ length rows)) parts

-- the rows in one part after another
abbrev pub rows_in : List (ℕ × ℕ) → List Row → List Row
rows_in parts rows = flat_map (λ part. slice_range rows part.0 part.1) parts

-- the rows that are given are put behind those before
abbrev pub GivesMore : List Row → Parts → ℤ → List Row → List Row → Type 0
GivesMore rows url now old new = (own : List Row) × AreGiven rows url now own × (new ≡ old ++ own)

-- ---- saving

-- a row that is saved at a moment, or any where there is none
abbrev pub is_wanted : Option ℤ → Row → Bool
is_wanted None row = true
is_wanted (Some now) row = is_saved now row

-- of the rows those that are saved at a moment, or all where there is none
abbrev pub wanted : Option ℤ → List Row → List Row
wanted None rows = rows
wanted (Some now) rows = saved now rows

-- ---- loading

-- the line is UTF-8, the closure made a cookie of it, and this was put where it is kept
abbrev pub TakesOne : {F : Type 0} → LineReader F → Bool → ℤ → F → List Row → List ℕ → F → List Row → Type 0
TakesOne closures with_expired now closure rows line after new =
    (row : Row) × IsUtf8 line × MakesRow closures closure line row after
    × (new ≡ put_all (chosen with_expired now (row ∷ [])) rows)

-- the bytes up to the first line feed come behind what is begun; without one, all
abbrev pub Fills : List ℕ → List ℕ → List ℕ → Option (List ℕ) → Type 0
Fills begun bytes new None = (new ≡ begun ++ bytes) × All (λ b. b ≢ 10) bytes
Fills begun bytes new (Some after) =
    (front : List ℕ) × (new ≡ begun ++ front) × All (λ b. b ≢ 10) front × (bytes ≡ front ++ 10 ∷ after)

-- the whole lines of the text gave cookies, which were put where they are kept, and what is behind them is begun
abbrev pub TakesWhole : {F : Type 0} → LineReader F → Bool → ℤ → F → List Row → List ℕ → F → List Row → List ℕ → Type 0
TakesWhole closures with_expired now closure rows text after new begun =
    (whole : List (List ℕ)) × (made : List Row) × Cuts text whole begun × TakesLines closures closure whole made after
    × (new ≡ put_all (chosen with_expired now made) rows)

-- what is behind the last line feed gave a cookie where it isn't empty, and this was put where it is kept
abbrev pub TakesRest : {F : Type 0} → LineReader F → Bool → ℤ → F → List Row → List ℕ → F → List Row → Type 0
TakesRest closures with_expired now closure rows begun after new =
    (made : List Row) × TakesLines closures closure (lines begun) made after
    × (new ≡ put_all (chosen with_expired now made) rows)
