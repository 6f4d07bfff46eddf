-- The rows that a host may touch (RFC 6265, 5.3, steps 5 and 6).
use Rattle.std.specs.Prelude.{◌≡◌, ◌⊎◌, ℕ, List, [], ◌∷◌, Option, Some, None, filter}
use Rattle.std.specs.List.{AllByRecursion}
use Rattle.std.specs.Str.{bytes_eq}
use Rattle.publicsuffix.specs.Prevailing.{Listed}
use Rattle.publicsuffix.specs.Rules.{Rule}
use Rattle.store_parts.specs.DomainMatch.{DomainMatches, host_only}
use Rattle.cookie_store.specs.Rows.{Row, domain_text, expired}

-- a host sets under its own text, and under texts that it domain-matches and that are no public suffix
abbrev pub MaySet : List Rule → Option (List ℕ) → List ℕ → Type 0
MaySet list None text = ⊥
MaySet list (Some host) text = (text ≡ host) ⊎ (DomainMatches host text × (¬ (Listed list text)))

-- the rows whose domain has this text
abbrev pub rows_under : List ℕ → List Row → List Row
rows_under text rows = filter (λ row. bytes_eq (domain_text row) text) rows

-- a row under a public suffix is of that host alone
abbrev pub IsAlone : List Rule → Row → Type 0
IsAlone list row = Listed list (domain_text row) → row.domain ≡ host_only (domain_text row)

-- the row is one of these, as it stands or ended
abbrev pub IsOneOf : List Row → Row → Type 0
IsOneOf [] row = ⊥
IsOneOf (r ∷ rows) row = (row ≡ r) ⊎ (row ≡ expired r) ⊎ IsOneOf rows row

-- The rows under other texts stay as they were. Each row that is no old one, as it stood or ended, is of its host alone
-- where it is under a public suffix; so rows under public suffixes stay of their hosts alone, if all were.
pub record IsConfined (list : List Rule) (host : Option (List ℕ)) (old new : List Row) : Type 0 where
  pub others : (text : List ℕ) → ¬ (MaySet list host text) → rows_under text new ≡ rows_under text old
  pub each : AllByRecursion (λ row. IsOneOf old row ⊎ IsAlone list row) new
  pub alone : AllByRecursion (IsAlone list) old → AllByRecursion (IsAlone list) new
