-- What a request finds by the index: the parts that can have a row of it, and how many questions that takes.
use Rattle.std.specs.Prelude.{◌≡◌, ◌↔◌, ◌^◌, IfSome, ◌<◌, ◌≤◌, ◌+◌, ◌*◌, ◌&&◌, ℕ, List, [], ◌∷◌, length, Bool, true}
use Rattle.std.specs.Prelude.{Option}
use Rattle.std.specs.Prelude.{Some, None, slice_get, nat_le, nat_lt, filter, if◌then◌else◌}
use Rattle.std.specs.List.{flat_map, list_any, AllByRecursion}
use Rattle.matching.specs.Domains.{dot}
use Rattle.matching.specs.Paths.{slash}
use Rattle.place_index.specs.Places.{Place, is_at, is_of}
use Rattle.place_index.specs.Entries.{value_at}
use Rattle.place_index.specs.Candidates.{is_among, domains_of, paths_of, count_of}
use Rattle.place_index.specs.Parts.{Part}
use Rattle.place_index.specs.Index.{Index, DomainPart, Agrees, Span}

abbrev pub is_in : ℕ → Span → Bool
is_in i span = nat_le span.0 i && nat_lt i span.1

abbrev pub span_of : DomainPart → Option Part → List Span
span_of domain None = []
span_of domain (Some part) =
    (domain.start + part.start, domain.start + part.start + part.len) ∷ []

abbrev pub spans_of : List (List ℕ) → Option DomainPart → List Span
spans_of paths None = []
spans_of paths (Some domain) = flat_map (λ path. span_of domain (value_at path domain.paths)) paths

-- the parts of these domains and paths
abbrev pub spans : Index → List (List ℕ) → List (List ℕ) → List Span
spans index domains paths = flat_map (λ domain. spans_of paths (value_at domain index)) domains

-- how many questions they take: one for each domain, and one for each path in each that is found
abbrev pub path_looks : ℕ → Option DomainPart → ℕ
path_looks paths None = 0
path_looks paths (Some domain) = paths

abbrev pub looks_for : Index → List (List ℕ) → ℕ → ℕ
looks_for index [] paths = 0
looks_for index (domain ∷ domains) paths =
    1 + path_looks paths (value_at domain index) + looks_for index domains paths

abbrev pub found_domain : Option DomainPart → ℕ
found_domain None = 0
found_domain (Some domain) = 1

abbrev pub found_domains : Index → List (List ℕ) → ℕ
found_domains index [] = 0
found_domains index (domain ∷ domains) = found_domain (value_at domain index) + found_domains index domains

-- where the parts of a domain's paths end is a number of 64 bits; and so for each domain
abbrev pub Fits : DomainPart → Type 0
Fits domain =
    (text : List ℕ) → IfSome (value_at text domain.paths) (λ part. domain.start + part.start + part.len < 2 ^ 64)

abbrev pub AllFit : Index → Type 0
AllFit index = (text : List ℕ) → IfSome (value_at text index) Fits

-- ---- what is found

-- each part has a row, and ends where the next one begins or before
abbrev pub AscendFrom : ℕ → List Span → Type 0
AscendFrom start [] = Unit {0}
AscendFrom start (span ∷ spans) = (start ≤ span.0) × (span.0 < span.1) × AscendFrom span.1 spans

-- The parts are in the vector's order and within it, and in them are the rows whose domain and path are among those
-- asked for, and no others.
pub record Finds (host path : List ℕ) (places : List Place) (found : List Span) : Type 0 where
  pub ascend : AscendFrom 0 found
  pub within : AllByRecursion (λ span. span.1 ≤ length places) found
  pub exactly : (i : ℕ) (row : Place) → slice_get places i ≡ Some row
      → (list_any (is_in i) found ≡ true)
      ↔ ((is_among row.domain (domains_of host) ≡ true) × (is_among row.path (paths_of path) ≡ true))

-- how many of the domains asked for have a row
abbrev pub domains_with_rows : List ℕ → List Place → ℕ
domains_with_rows host places = length (filter (λ domain. list_any (is_of domain) places) (domains_of host))

-- one question and the host's dots, and for each domain found one and twice the path's slashes
abbrev pub looks_at : List ℕ → List ℕ → List Place → ℕ
looks_at host path places =
    1 + count_of dot host + domains_with_rows host places * (1 + 2 * count_of slash path)

-- how many questions a row's place takes: one for its domain, where that has rows one for the path, and where that has
-- some one for the name
abbrev pub looks_up : Place → List Place → ℕ
looks_up place places =
    if list_any (is_of place.domain) places
    then (if list_any (is_at place.domain place.path) places then 3 else 2)
    else 1

-- ---- laws

-- a row is in a found part exactly where its domain and its path are among those asked for
abbrev pub FindsExactly : Type 0
FindsExactly =
    (rows : List Place) (index : Index) → Agrees rows index → (host path : List ℕ) (i : ℕ) (row : Place)
    → slice_get rows i ≡ Some row
    → (list_any (is_in i) (spans index (domains_of host) (paths_of path)) ≡ true)
    ↔ ((is_among row.domain (domains_of host) ≡ true) × (is_among row.path (paths_of path) ≡ true))

-- that takes one question and the host's dots, and for each domain found at most one and twice the path's slashes
abbrev pub LooksAreFew : Type 0
LooksAreFew =
    (index : Index) (host path : List ℕ) →
    looks_for index (domains_of host) (length (paths_of path))
    ≤ 1 + count_of dot host + found_domains index (domains_of host) * (1 + 2 * count_of slash path)
