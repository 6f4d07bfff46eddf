-- The rows that a request is given (RFC 6265, 5.4, step 1).
use Rattle.std.specs.Prelude.{◌≡◌, ◌⊎◌, ◌<◌, ℕ, ℤ, List, [], ◌∷◌, map, length, false, IsSomeAnd}
use Rattle.std.specs.Borrow.{Bor}
use Rattle.cookie_text.specs.Record.{Seen}
use Rattle.store_parts.specs.DomainMatch.{CoversAt}
use Rattle.store_parts.specs.DomainText.{read_domain}
use Rattle.store_parts.specs.Expiry.{is_dead}
use Rattle.url.specs.Parts.{Parts}
use Rattle.cookie_store.specs.Giving.{GoesWith}
use Rattle.cookie_store.specs.Rows.{Row, domain_text}
use Rattle.cookie_store.specs.StoredCookie.{stored_of}
use Rattle.cookie_store.specs.declared.stored_cookie.Cookie.{Cookie}

-- it isn't dead, the text of its domain, read as a domain, covers the URL's host, its path isn't empty, and it goes
-- with the request
pub record IsGiven (row : Row) (url : Parts) (now : ℤ) : Type 0 where
  pub live : is_dead now row.death ≡ false
  pub covered : IsSomeAnd (read_domain (domain_text row)) (λ domain. CoversAt domain url)
  pub path : 0 < length row.path.text
  pub goes : GoesWith row url

-- those of a list that are so, in their order
abbrev pub ArePicked : {A : Type 0} → (A → Type 0) → List A → List A → Type 0
ArePicked Is [] picked = picked ≡ []
ArePicked {A} Is (x ∷ xs) picked =
    (later : List A) × ArePicked Is xs later
    × ((Is x × (picked ≡ x ∷ later)) ⊎ ((¬ (Is x)) × (picked ≡ later)))

-- the rows that are given, in their order
abbrev pub AreGiven : List Row → Parts → ℤ → List Row → Type 0
AreGiven rows url now given = ArePicked (λ row. IsGiven row url now) rows given

-- ---- what is shown of them

-- a cookie that a store lends
abbrev pub lent_row : Bor Cookie → Row
lent_row c = stored_of c.now

-- name and value
abbrev pub pair_of : Row → List ℕ × List ℕ
pair_of row = (row.raw.cookie.name, row.raw.cookie.value)

abbrev pub lent_pair : Bor (List ℕ) × Bor (List ℕ) → List ℕ × List ℕ
lent_pair p = (p.0.now, p.1.now)

-- the cookie as it was received
abbrev pub received_of : Row → Seen
received_of row = row.raw

abbrev pub lent_cookie : Bor Seen → Seen
lent_cookie c = c.now

-- what is shown so of the rows that are given
abbrev pub ShowsGiven : {A : Type 0} → (Row → A) → List Row → Parts → ℤ → List A → Type 0
ShowsGiven show rows url now told =
    (given : List Row) × AreGiven rows url now given × (told ≡ map show given)
