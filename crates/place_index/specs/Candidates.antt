-- The texts that `matches` asks the index for.
use Rattle.std.specs.Prelude.{◌≡◌, ◌↔◌, ◌⊎◌, ◌==◌, ◌||◌, ◌+◌, ◌*◌, ◌≤◌, ℕ, List, [], ◌∷◌, map, length, Bool, true}
use Rattle.std.specs.Prelude.{false, if◌then◌else◌}
use Rattle.std.specs.List.{list_any}
use Rattle.std.specs.Str.{bytes_eq}
use Rattle.matching.specs.Domains.{dot, EndsAfterDot}
use Rattle.matching.specs.Paths.{slash, PathMatches}

-- the text is among the texts
abbrev pub is_among : List ℕ → List (List ℕ) → Bool
is_among text texts = list_any (bytes_eq text) texts

-- the text after each dot
abbrev pub after_dots : List ℕ → List (List ℕ)
after_dots [] = []
after_dots (b ∷ bs) = if b == dot then bs ∷ after_dots bs else after_dots bs

-- the host, and the text after each of its dots
abbrev pub domains_of : List ℕ → List (List ℕ)
domains_of host = host ∷ after_dots host

-- the beginnings of a text, less than all of it, that end with a slash or that a slash follows, each once; also the
-- empty one where a slash stands before the text
abbrev pub beginnings : Bool → List ℕ → List (List ℕ)
beginnings behind [] = []
beginnings behind (b ∷ bs) =
    if behind || b == slash then [] ∷ map (λ t. b ∷ t) (beginnings (b == slash) bs)
    else map (λ t. b ∷ t) (beginnings (b == slash) bs)

-- the request-path, and such beginnings of it
abbrev pub paths_of : List ℕ → List (List ℕ)
paths_of path = path ∷ beginnings false path

-- how often the byte stands in the text
abbrev pub count_of : ℕ → List ℕ → ℕ
count_of byte [] = 0
count_of byte (b ∷ bs) = if b == byte then 1 + count_of byte bs else count_of byte bs

-- ---- laws

-- these are the host and the texts that it ends with after a dot
abbrev pub AreDomains : Type 0
AreDomains =
    (host text : List ℕ) → (is_among text (domains_of host) ≡ true) ↔ ((host ≡ text) ⊎ EndsAfterDot host text)

-- these are the paths that the request-path path-matches
abbrev pub ArePaths : Type 0
ArePaths =
    (path text : List ℕ) → (is_among text (paths_of path) ≡ true) ↔ PathMatches text path

-- one more than the dots, and at most one more than twice the slashes
pub record AreCounted : Type 0 where
  pub domains : (host : List ℕ) → length (domains_of host) ≡ 1 + count_of dot host
  pub paths : (path : List ℕ) → length (paths_of path) ≤ 1 + 2 * count_of slash path
