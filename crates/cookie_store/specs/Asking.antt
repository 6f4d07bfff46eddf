-- How many questions a request puts to the index of the rows (own: docs/DEFINITIONS.md).
use Rattle.std.specs.Prelude.{◌+◌, ◌*◌, ℕ, List, Bool, length, filter, option_map, unwrap_or}
use Rattle.std.specs.List.{list_any}
use Rattle.std.specs.Str.{bytes_eq}
use Rattle.place_index.specs.Candidates.{count_of, domains_of}
use Rattle.store_parts.specs.DomainMatch.{dot}
use Rattle.store_parts.specs.PathMatch.{slash}
use Rattle.store_parts.specs.Schemes.{host_of}
use Rattle.url.specs.Parts.{Parts}
use Rattle.cookie_store.specs.Rows.{Row, domain_text}

-- a row has the domain's text
abbrev pub has_row : List Row → List ℕ → Bool
has_row rows domain = list_any (λ row. bytes_eq domain (domain_text row)) rows

-- how many have a row of the host's text and the texts after its dots
abbrev pub domains_with_rows : List ℕ → List Row → ℕ
domains_with_rows host rows = length (filter (has_row rows) (domains_of host))

-- one for the host's text and for that after each of its dots, and for each of these that has a row one for the path
-- and two for each of its slashes
abbrev pub looks_at_host : List Row → List ℕ → List ℕ → ℕ
looks_at_host rows path host =
    1 + count_of dot host + domains_with_rows host rows * (1 + 2 * count_of slash path)

-- those of a request to the URL: none where it has no host
abbrev pub looks_at_url : List Row → Parts → ℕ
looks_at_url rows url = unwrap_or (option_map (looks_at_host rows url.path) (host_of url)) 0
