-- The shard of a host: what hosts that can share a cookie have in common (own: docs/DEFINITIONS.md).
use Rattle.std.specs.Prelude.{◌≡◌, ◌≢◌, ◌≤◌, ◌⊎◌, ℕ, List, [], length, Option, MatchOption, IsSomeAnd}
use Rattle.std.specs.Borrow.{Bor}
use Rattle.publicsuffix.specs.Prevailing.{Listed}
use Rattle.publicsuffix.specs.Rules.{Rule}
use Rattle.store_parts.specs.DomainMatch.{EndsAfterDot}
use Rattle.store_parts.specs.Schemes.{host_of}
use Rattle.url.specs.Parts.{Parts}
use Rattle.cookie_client.specs.Hosts.{IsInReach}

-- a text that a cookie's Domain may have, by its list: it isn't empty, and no public suffix
abbrev pub IsUnlisted : List Rule → List ℕ → Type 0
IsUnlisted list text = (text ≢ []) × (¬ (Listed list text))

-- such a text in the reach of the host, which is the host itself and, of a host name, what stands behind its dots
abbrev pub IsShared : List Rule → List ℕ → List ℕ → Type 0
IsShared list host text = IsUnlisted list text × IsInReach host text

-- the shard of a host: it or one of these texts, none of which is shorter
abbrev pub IsShardOf : List Rule → List ℕ → List ℕ → Type 0
IsShardOf list host shard =
    ((shard ≡ host) ⊎ IsShared list host shard)
    × ((text : List ℕ) → IsShared list host text → length shard ≤ length text)

-- the URL has a host, of this shard
abbrev pub IsShardAt : List Rule → Parts → List ℕ → Type 0
IsShardAt list url shard = IsSomeAnd (host_of url) (λ host. IsShardOf list host shard)

-- ---- a step of the code, for a private contract alone

-- such a text behind a dot of the host
abbrev pub IsBehindDot : List Rule → List ℕ → List ℕ → Type 0
IsBehindDot list host text = IsUnlisted list text × EndsAfterDot host text

-- the shortest of these, if there is any
abbrev pub IsShortestBehindDot : List Rule → List ℕ → Option (Bor (List ℕ)) → Type 0
IsShortestBehindDot list host found =
    MatchOption found ((text : List ℕ) → ¬ (IsBehindDot list host text))
    (λ shard. IsBehindDot list host shard.now
    × ((text : List ℕ) → IsBehindDot list host text → length shard.now ≤ length text))
