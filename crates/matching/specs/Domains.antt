-- The hosts that a domain covers by its text, and the texts of addresses, of which it covers none (RFC 6265, 5.1.3).
use Rattle.std.specs.Prelude.{◌≡◌, ◌⊎◌, ◌++◌, ℕ, List, ◌∷◌}
use Rattle.std.specs.Net.Grammar.{IsDotted, IsColonHex}

-- `b'.'`
abbrev pub dot : ℕ
dot = 46

-- four decimal numbers to 255, without leading zeros, parted by dots: `127.0.0.1`
abbrev pub IsIpv4 : List ℕ → Type 0
IsIpv4 text = (octets : List ℕ) × IsDotted text octets

-- groups of hexadecimal digits parted by colons, without brackets and zone: `::1` (RFC 4291, 2.2)
abbrev pub IsIpv6 : List ℕ → Type 0
IsIpv6 text = (segments : List ℕ) × IsColonHex text segments

-- a text that is no address
pub record IsHostName (text : List ℕ) : Type 0 where
  pub no_ipv4 : ¬ (IsIpv4 text)
  pub no_ipv6 : ¬ (IsIpv6 text)

-- the string ends with a dot and the domain string
abbrev pub EndsAfterDot : List ℕ → List ℕ → Type 0
EndsAfterDot string domain = (before : List ℕ) × (string ≡ before ++ dot ∷ domain)

-- domain-match: the string is the domain string, or is a host name that ends with a dot and it
abbrev pub DomainMatches : List ℕ → List ℕ → Type 0
DomainMatches string domain =
    (string ≡ domain) ⊎ (IsHostName string × EndsAfterDot string domain)
