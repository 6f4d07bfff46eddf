-- What a cookie that is received from a URL becomes in a store (RFC 6265, 5.3, steps 3 to 10).
use Rattle.std.specs.Prelude.{◌≡◌, ◌⊎◌, ℕ, ℤ, List, true, Option, Some, None, IsSomeAnd, option_and_then, option_map}
use Rattle.std.specs.Prelude.{unwrap_or, Result, Err, MatchResult}
use Rattle.cookie_text.specs.Reading.{ReadsPlain}
use Rattle.cookie_text.specs.Record.{Record, Seen, domain_of as domain_attribute}
use Rattle.cookie_text.specs.declared.error.ParseError.{ParseError}
use Rattle.store_parts.specs.DomainMatch.{Domain, host_only, suffix, not_present, empty, CoversAt}
use Rattle.store_parts.specs.DomainText.{attribute_domain}
use Rattle.store_parts.specs.Expiry.{death}
use Rattle.store_parts.specs.PathMatch.{Path, default_path_at, read_path}
use Rattle.store_parts.specs.Schemes.{IsHttpScheme, host_of}
use Rattle.store_parts.specs.declared.error.CookieError.{CookieError}
use Rattle.store_parts.specs.declared.error.CookieError.TheVariants.{NonHttpScheme, NonRelativeScheme, DomainMismatch}
use Rattle.store_parts.specs.declared.error.CookieError.TheVariants.{Expired, Parse, PublicSuffix, UnspecifiedDomain}
use Rattle.store_parts.specs.declared.error.CookieError.TheVariants.{OutOfMemory}
use Rattle.url.specs.Parts.{Parts}
use Rattle.cookie_store.specs.StoredCookie.{StoredCookie}

-- the cookie is HttpOnly, and the URL's scheme is none of HTTP (step 10)
abbrev pub IsBarred : Record → Parts → Type 0
IsBarred cookie url = (cookie.http_only ≡ Some true) × (¬ (IsHttpScheme url))

-- the domain that the Domain attribute asks for: none where it has no IDNA form
abbrev pub asked_domain : Record → Option Domain
asked_domain cookie = attribute_domain (domain_attribute cookie)

-- the attribute is not there, or empty, which counts as none (step 4)
abbrev pub AsksForNone : Domain → Type 0
AsksForNone asked = (asked ≡ not_present) ⊎ (asked ≡ empty)

-- the attribute asks for a suffix, which does not cover the URL's host (step 6)
abbrev pub IsUncovered : Domain → Parts → Type 0
IsUncovered asked url =
    ((text : List ℕ) × (asked ≡ suffix text)) × (¬ (CoversAt asked url))

-- the cookie's domain: the suffix that is asked for and covers the URL's host, or that host alone
-- where none is asked for (step 6)
abbrev pub IsDomainFor : Domain → Parts → Domain → Type 0
IsDomainFor (host_only text) url domain = ⊥
IsDomainFor (suffix text) url domain = (domain ≡ suffix text) × CoversAt domain url
IsDomainFor not_present url domain = option_map host_only (host_of url) ≡ Some domain
IsDomainFor empty url domain = option_map host_only (host_of url) ≡ Some domain

-- why a cookie has no domain at the URL
abbrev pub HasNoDomain : Record → Parts → CookieError → Type 0
HasNoDomain cookie url Parse = asked_domain cookie ≡ None
HasNoDomain cookie url DomainMismatch =
    IsSomeAnd (asked_domain cookie) (λ asked. IsUncovered asked url)
HasNoDomain cookie url NonRelativeScheme =
    IsSomeAnd (asked_domain cookie) AsksForNone × (host_of url ≡ None)
HasNoDomain cookie url OutOfMemory = Unit {0}
HasNoDomain cookie url NonHttpScheme = ⊥
HasNoDomain cookie url Expired = ⊥
HasNoDomain cookie url PublicSuffix = ⊥
HasNoDomain cookie url UnspecifiedDomain = ⊥

-- the cookie's path: that of its Path attribute where it gives one, else the default-path (step 7)
abbrev pub path_at : Record → Parts → Path
path_at cookie url = unwrap_or (option_and_then read_path cookie.path) (default_path_at url)

-- what becomes of a cookie that is received from the URL at the moment
pub record IsMade (received : Seen) (url : Parts) (now : ℤ) (made : StoredCookie) : Type 0 where
  pub allowed : ¬ (IsBarred received.cookie url)
  pub raw : made.raw ≡ received
  pub path : made.path ≡ path_at received.cookie url
  pub domain : IsSomeAnd (asked_domain received.cookie)
      (λ asked. IsDomainFor asked url made.domain)
  pub ends : made.death ≡ death received.cookie now

-- why a cookie is refused: the first cause that there is
abbrev pub IsRefused : Record → Parts → CookieError → Type 0
IsRefused cookie url NonHttpScheme = IsBarred cookie url
IsRefused cookie url cause = (¬ (IsBarred cookie url)) × HasNoDomain cookie url cause

-- the answer is the store's cookie, or why there is none; want of memory aside, which comes only where the scheme is
-- allowed
abbrev pub Makes : Seen → Parts → ℤ → Result StoredCookie CookieError → Type 0
Makes received url now answer = MatchResult answer (IsMade received url now) (IsRefused received.cookie url)

-- the same of a text, which is `Parse` where it reads as no cookie
abbrev pub ReadsStored : List ℕ → Parts → ℤ → Result StoredCookie CookieError → Type 0
ReadsStored text url now answer =
    (read : Result Seen ParseError) × ReadsPlain text read
    × MatchResult read (λ received. Makes received url now answer) (λ _. answer ≡ Err Parse)
