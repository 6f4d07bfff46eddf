-- URLs of texts, hosts of https URLs (RFC 6265, section 5.4), and the reach of a host.
use Rattle.std.specs.Prelude.{ℕ, List, Option, None, codes, if◌then◌else◌}
use Rattle.std.specs.Str.{bytes_eq}
use Rattle.std.specs.Result.{result_ok}
use Rattle.url.specs.Parts.{Parts}
use Rattle.url.specs.Parser.{parse_url}
use Rattle.store_parts.specs.DomainMatch.{DomainMatches}
use Rattle.store_parts.specs.Schemes.{host_of}

-- the URL of a text, where it parses
unfoldable pub url_of : List ℕ → Option Parts
url_of text = result_ok (parse_url None text)

-- the host of a URL whose scheme is https
abbrev pub secure_host : Parts → Option (List ℕ)
secure_host url = if bytes_eq url.scheme (codes "https") then host_of url else None

-- the reach of a host: the texts that it domain-matches, itself and, of a host name, what stands behind its dots
abbrev pub IsInReach : List ℕ → List ℕ → Type 0
IsInReach host text = DomainMatches host text
