-- Sites, and requests that a page of another site starts (the draft that follows RFC 6265, version 15, section 5.2).
use Rattle.std.specs.Prelude.{◌≡◌, ◌⊎◌, ◌&&◌, ℕ, Bool, List, IsSomeAnd}
use Rattle.publicsuffix.specs.Rules.{Rule}
use Rattle.store_parts.specs.DomainMatch.{IsHostName}
use Rattle.store_parts.specs.Schemes.{host_of}
use Rattle.url.specs.Parts.{Parts}
use Rattle.publicsuffix.specs.Registrable.{IsRegistrable}
use Rattle.user_agent.specs.declared.sites.Initiator.{Initiator}

-- a site: a scheme and a domain
pub record Site : Type 0 where
  pub scheme : List ℕ
  pub domain : List ℕ

-- the host is a name that has a registrable domain: it is no address, and no public suffix itself
pub record HasDomain (list : List Rule) (host domain : List ℕ) : Type 0 where
  pub is_host_name : IsHostName host
  pub registrable : IsRegistrable list host domain

-- the domain of a host's site: its registrable domain; a host that has none is its own
abbrev pub IsSiteDomain : List Rule → List ℕ → List ℕ → Type 0
IsSiteDomain list host domain =
    HasDomain list host domain
    ⊎ (((other : List ℕ) → ¬ (HasDomain list host other)) × (domain ≡ host))

-- the site of a URL that has a host
abbrev pub IsSiteOf : List Rule → Parts → Site → Type 0
IsSiteOf list url site =
    (site.scheme ≡ url.scheme) × IsSomeAnd (host_of url) (λ host. IsSiteDomain list host site.domain)

-- both URLs are of one site
abbrev pub AreSameSite : List Rule → Parts → Parts → Type 0
AreSameSite list one other = (site : Site) × IsSiteOf list one site × IsSiteOf list other site

-- a page starts the request, and is not of the site of the request's URL
abbrev pub IsCrossSite : List Rule → Parts → Initiator → Type 0
IsCrossSite list url initiator = IsSomeAnd initiator.page (λ page. ¬ (AreSameSite list page.now url))

-- it navigates the top level, by a safe method (RFC 9110, 9.2.1)
abbrev pub is_safe_navigation : Initiator → Bool
is_safe_navigation initiator = initiator.is_navigation && initiator.is_safe
