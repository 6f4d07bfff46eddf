-- A cookie as contracts see it (RFC 6265, sections 4.1.1 and 5.2).
use Rattle.std.specs.Prelude.{◌≡◌, ◌≢◌, ◌⊎◌, ℕ, ◌==◌, Bool, List, [], ◌∷◌, ◌++◌, Option, Some, None, option_map, ℤ}
use Rattle.std.specs.Prelude.{if◌then◌else◌}
use Rattle.std.specs.Str.{str_to_ascii_lowercase}
use Rattle.cookie_text.specs.declared.draft.SameSite.{SameSite}
use Rattle.cookie_text.specs.declared.expiration.Expiration.{Expiration}
use Rattle.cookie_text.specs.declared.expiration.Expiration.TheVariants.{DateTime as At, Session}
use Rattle.jiff.specs.Types.{DateTime}
use Rattle.cookie_text.specs.Pieces.{full_stop, double_quote}

-- max_age is in nanoseconds
pub record Record : Type 0 where
  pub name : List ℕ
  pub value : List ℕ
  pub http_only : Option Bool
  pub secure : Option Bool
  pub partitioned : Option Bool
  pub same_site : Option SameSite
  pub max_age : Option ℤ
  pub path : Option (List ℕ)
  pub domain : Option (List ℕ)
  pub expires : Option Expiration

-- the slices of the source that the parts are; none is for a part that is no slice of it
pub record Raw : Type 0 where
  pub name : Option (List ℕ)
  pub value : Option (List ℕ)
  pub path : Option (List ℕ)
  pub domain : Option (List ℕ)

-- a cookie, and which of its parts are slices of its source
pub record Seen : Type 0 where
  pub cookie : Record
  pub raw : Raw

-- a cookie with no attribute
abbrev pub bare : List ℕ → List ℕ → Record
bare name value = record {
  name = name;
  value = value;
  http_only = None;
  secure = None;
  partitioned = None;
  same_site = None;
  max_age = None;
  path = None;
  domain = None;
  expires = None;
}

-- no part is a slice of a source
abbrev pub no_slices : Raw
no_slices = record { name = None; value = None; path = None; domain = None }

-- a cookie of which no part is a slice of a source
abbrev pub unsliced : Record → Seen
unsliced r = record { cookie = r; raw = no_slices }

-- the text without one pair of double quotes round it: `1` of `"1"`, and `"1` of `"1`
abbrev pub IsUnquoted : List ℕ → List ℕ → Type 0
IsUnquoted text inner =
    (text ≡ double_quote ∷ inner ++ double_quote ∷ [])
    ⊎ (((middle : List ℕ) → text ≢ double_quote ∷ middle ++ double_quote ∷ []) × (inner ≡ text))

-- the text without one leading dot: `.com` of `..com`
abbrev pub without_dot : List ℕ → List ℕ
without_dot [] = []
without_dot (b ∷ bs) = if b == full_stop then bs else b ∷ bs

-- what `domain()` answers
abbrev pub domain_of : Record → Option (List ℕ)
domain_of r = option_map without_dot r.domain

-- the moment of an expiry, which the end of the session has not
abbrev pub moment_of : Option Expiration → Option DateTime
moment_of (Some (At d)) = Some d
moment_of (Some Session) = None
moment_of None = None

-- what `==` compares: all but same_site, path and domain without the case of ASCII letters
abbrev pub compared : Record → Record
compared r = record r {
  same_site = None;
  path = option_map str_to_ascii_lowercase r.path;
  domain = option_map str_to_ascii_lowercase (domain_of r);
}
