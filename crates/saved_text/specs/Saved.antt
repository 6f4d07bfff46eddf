-- Rows, what is shown of them in a text, and what is read from what a text shows.
use Rattle.std.specs.Prelude.{◌≡◌, ℕ, List, Option, Some, None, string_bytes}
use Rattle.cookie_text.specs.Reading.{IsPair, first_piece}
use Rattle.jiff.specs.Words.{civil_nanos}
use Rattle.saved_text.specs.Row.{Shown, Domain, host_only, suffix, not_present, empty}
use Rattle.saved_text.specs.Rfc3339.{date_text}
use Rattle.saved_text.specs.DateReading.{IsDateOf}
use Rattle.saved_text.specs.declared.row.SavedRow.{SavedRow}
use Rattle.saved_text.specs.declared.row.SavedDomain.{SavedDomain}
use Rattle.saved_text.specs.declared.row.SavedDomain.TheVariants as domain
use Rattle.saved_text.specs.declared.row.SavedExpiration.{SavedExpiration}
use Rattle.saved_text.specs.declared.row.SavedExpiration.TheVariants as expiration

abbrev pub domain_shown : SavedDomain → Domain
domain_shown (domain.HostOnly t) = host_only (string_bytes t)
domain_shown (domain.Suffix t) = suffix (string_bytes t)
domain_shown domain.NotPresent = not_present
domain_shown domain.Empty = empty

abbrev pub expires_shown : SavedExpiration → Option (List ℕ)
expires_shown (expiration.AtUtc d) = Some (date_text d)
expires_shown expiration.SessionEnd = None

-- what is written of a row
abbrev pub shown : SavedRow → Shown
shown r = record {
  raw = string_bytes r.raw_cookie;
  path = string_bytes r.path;
  from_attribute =
      r.is_from_path_attr;
  domain = domain_shown r.domain;
  expires = expires_shown r.expires;
}

-- the text reads as a cookie, as `ReadsPlain` accepts it: what stands before its first semicolon is a pair (RFC 6265,
-- section 5.2)
abbrev pub IsCookieText : List ℕ → Type 0
IsCookieText text = IsPair (first_piece text)

-- the date is of this moment
abbrev pub IsDeath : Option (List ℕ) → SavedExpiration → Type 0
IsDeath (Some text) (expiration.AtUtc d) = IsDateOf text (civil_nanos d)
IsDeath (Some text) expiration.SessionEnd = ⊥
IsDeath None (expiration.AtUtc d) = ⊥
IsDeath None expiration.SessionEnd = Unit {0}

-- A row is what a text shows: its cookie's text and its date read.
pub record IsShown (t : Shown) (r : SavedRow) : Type 0 where
  pub raw : string_bytes r.raw_cookie ≡ t.raw
  pub cookie : IsCookieText t.raw
  pub path : string_bytes r.path ≡ t.path
  pub from_attribute : r.is_from_path_attr ≡ t.from_attribute
  pub domain : domain_shown r.domain ≡ t.domain
  pub expires : IsDeath t.expires r.expires
