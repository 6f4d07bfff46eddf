-- The domain of a cookie and the hosts that it covers (RFC 6265, 5.1.3).
use Rattle.std.specs.Prelude.{◌≡◌, ℕ, List, [], Option, Some, None, IsSomeAnd, string_bytes, unwrap_or}
pub use Rattle.matching.specs.Domains.{dot, IsIpv4, IsHostName, EndsAfterDot, DomainMatches}
use Rattle.publicsuffix.specs.Prevailing.{Listed}
use Rattle.publicsuffix.specs.Rules.{Rule}
use Rattle.url.specs.Parts.{Parts}
use Rattle.store_parts.specs.declared.cookie_domain.CookieDomain.{CookieDomain}
use Rattle.store_parts.specs.declared.cookie_domain.CookieDomain.TheVariants.{HostOnly, Suffix, NotPresent, Empty}
use Rattle.store_parts.specs.Schemes.{host_of}

-- a cookie's domain: one host alone, a host with those below it, or none, by an attribute that is
-- not there or one that is empty
pub data Domain : Type 0 where
  host_only : List ℕ → Domain
  suffix : List ℕ → Domain
  not_present : Domain
  empty : Domain

-- what contracts see of a `CookieDomain`
abbrev pub domain_of : CookieDomain → Domain
domain_of (HostOnly host) = host_only (string_bytes host)
domain_of (Suffix domain) = suffix (string_bytes domain)
domain_of NotPresent = not_present
domain_of Empty = empty

-- the domain's text, where it has one
abbrev pub text_of : Domain → Option (List ℕ)
text_of (host_only host) = Some host
text_of (suffix domain) = Some domain
text_of not_present = None
text_of empty = None

-- the domain's text, empty where it has none
abbrev pub text_or_empty : Domain → List ℕ
text_or_empty domain = unwrap_or (text_of domain) []

-- the domain covers the host: a host alone its own, a suffix those that domain-match it
abbrev pub Covers : Domain → List ℕ → Type 0
Covers (host_only text) host = host ≡ text
Covers (suffix text) host = DomainMatches host text
Covers not_present host = ⊥
Covers empty host = ⊥

-- the domain covers the URL's host, which there is
abbrev pub CoversAt : Domain → Parts → Type 0
CoversAt domain url = IsSomeAnd (host_of url) (Covers domain)

-- the URL's host is the domain's text
abbrev pub IsHostOf : Domain → Parts → Type 0
IsHostOf domain url = IsSomeAnd (host_of url) (λ host. text_of domain ≡ Some host)

-- the domain has a text, and the rule of the list that prevails for it covers all of it
abbrev pub IsListedIn : Domain → List Rule → Type 0
IsListedIn domain rules = IsSomeAnd (text_of domain) (Listed rules)
