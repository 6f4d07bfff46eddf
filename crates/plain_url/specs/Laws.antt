-- What holds of every plain text (this repository's own).
use Rattle.std.specs.Prelude.{◌+◌, ◌++◌, ℕ, List, [], codes, decimal, drop, is_some, length, option_map, take}
use Rattle.std.specs.Prelude.{unwrap_or}
use Rattle.url.specs.Host.{host_text}
use Rattle.url.specs.Input.{when}
use Rattle.url.specs.Parts.{IsValid, Parts, host_or_empty}
use Rattle.plain_url.specs.Authority.{authority_of}
use Rattle.plain_url.specs.Plain.{IsOwnText, IsTargetOf, SameInAnyCase}

-- the host, and the port if it is not the scheme's own, as the URL's text has them
abbrev pub host_and_port : Parts → List ℕ
host_and_port url =
    host_text (host_or_empty url) ++ (when (is_some url.port) (codes ":") ++ unwrap_or (option_map decimal url.port) [])

-- how many bytes stand before the authority
abbrev pub authority_at : Parts → ℕ
authority_at url = length url.scheme + 3

-- RFC 3986 reads in the text what the URL has: the scheme and `://`, then the host and the port as its authority, and
-- behind that the path, the query and the fragment.
pub record IsReadAlike (text : List ℕ) (url : Parts) : Type 0 where
  pub scheme : SameInAnyCase (take (authority_at url) text) (url.scheme ++ codes "://")
  pub authority : SameInAnyCase (authority_of (drop (authority_at url) text)) (host_and_port url)
  pub target : IsTargetOf (drop (authority_at url + length (authority_of (drop (authority_at url) text))) text) url

-- so it is of every text that is a URL's own
abbrev pub OwnTextsAreReadAlike : Type 0
OwnTextsAreReadAlike = (text : List ℕ) (url : Parts) → IsValid url → IsOwnText text url → IsReadAlike text url
