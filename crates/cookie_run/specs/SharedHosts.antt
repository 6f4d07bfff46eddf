-- Hosts are related where they have one shard (own: docs/DEFINITIONS.md).
use Rattle.std.specs.Prelude.{◌≡◌, ◌⊎◌, ℕ, List, Some, true}
use Rattle.publicsuffix.specs.Rules.{Rule}
use Rattle.store_parts.specs.DomainMatch.{IsHostName}
use Rattle.store_parts.specs.Schemes.{host_of}
use Rattle.url.specs.Parts.{Parts, kind_of, IsValid}
use Rattle.url.specs.Scheme.{is_special}
use Rattle.cookie_client.specs.Hosts.{IsInReach}
use Rattle.cookie_run.specs.Headline.{AreRelated}
use Rattle.cookie_client.specs.Shard.{IsShardOf}

-- what stands behind a dot of a host name is a host name: it ends with no address, as `a.127.0.0.1` does, which can
-- share a cookie with that address and with `b.1`
abbrev pub EndsInNoAddress : List ℕ → Type 0
EndsInNoAddress host = (text : List ℕ) → IsInReach host text → (host ≡ text) ⊎ IsHostName text

-- so it is with the URL's host, if it has one
abbrev pub HasNoAddressBehind : Parts → Type 0
HasNoAddressBehind url = (host : List ℕ) → host_of url ≡ Some host → EndsInNoAddress host

-- ---- the laws

-- a host has one shard at most
abbrev pub HostsHaveOneShard : Type 0
HostsHaveOneShard =
    (list : List Rule) (host a b : List ℕ) → IsShardOf list host a → IsShardOf list host b → a ≡ b

-- related hosts have the same
abbrev pub RelatedHostsHaveOneShard : Type 0
RelatedHostsHaveOneShard =
    (list : List Rule) (host other a b : List ℕ) → EndsInNoAddress host → EndsInNoAddress other
    → AreRelated list host other → IsShardOf list host a → IsShardOf list other b → a ≡ b

-- and hosts of one shard are related, so no shard can be cut finer
abbrev pub OneShardIsRelated : Type 0
OneShardIsRelated =
    (list : List Rule) (host other shard : List ℕ) → IsShardOf list host shard → IsShardOf list other shard
    → AreRelated list host other

-- and of a URL that was parsed, of a special scheme (the URL Standard, section 4.2), as `http`, `https`, `ws`, `wss`
-- and `ftp` are, the host ends in no address
abbrev pub SpecialHostsEndInNoAddress : Type 0
SpecialHostsEndInNoAddress =
    (url : Parts) → IsValid url → is_special (kind_of url) ≡ true → HasNoAddressBehind url
