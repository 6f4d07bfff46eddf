-- The cookie that is left of a store's, to be handed on by itself.
use Rattle.std.specs.Prelude.{◌≡◌, ℕ, ℤ, List, Option, Some, None, if◌then◌else◌}
use Rattle.std.specs.Int.{int_min}
use Rattle.cookie_text.specs.Record.{Seen, bare, unsliced}
use Rattle.cookie_text.specs.Setting.{latest_end}
use Rattle.cookie_text.specs.declared.expiration.Expiration.{Expiration}
use Rattle.cookie_text.specs.declared.expiration.Expiration.TheVariants.{DateTime as At}
use Rattle.jiff.specs.Types.{DateTime}
use Rattle.jiff.specs.Words.{civil_nanos}
use Rattle.store_parts.specs.DomainMatch.{Domain, host_only, suffix, not_present, empty}
use Rattle.store_parts.specs.PathMatch.{Path}
use Rattle.cookie_store.specs.StoredCookie.{StoredCookie}

-- the path, where an attribute gave it
abbrev pub given_path : Path → Option (List ℕ)
given_path path = if path.from_attribute then Some path.text else None

-- the domain, where it is a suffix
abbrev pub given_domain : Domain → Option (List ℕ)
given_domain (host_only text) = None
given_domain (suffix text) = Some text
given_domain not_present = None
given_domain empty = None

-- an Expires of the death, at most the latest that a cookie keeps
abbrev pub IsEndOf : Option ℤ → Option Expiration → Type 0
IsEndOf None expires = expires ≡ None
IsEndOf (Some death) expires =
    (moment : DateTime) × (expires ≡ Some (At moment))
    × (civil_nanos moment ≡ int_min death latest_end)

-- name, value, and what tells where and until when; no part is a slice of a source
pub record IsStripped (c : StoredCookie) (raw : Seen) : Type 0 where
  pub expires : IsEndOf c.death raw.cookie.expires
  pub rest : raw ≡ unsliced (record (bare c.raw.cookie.name c.raw.cookie.value) {
    path = given_path c.path;
    domain = given_domain c.domain;
    expires = raw.cookie.expires;
  })
