-- The shard of a host as the code finds it.
use Rattle.std.proofs.Common.{◌≤◌, ℕ, List, length, refl, ap, inl, inr, arith}
use Rattle.publicsuffix.specs.Rules.{Rule}
use Rattle.store_parts.specs.DomainMatch.{IsHostName}
use Rattle.cookie_client.specs.Shard.{IsShared, IsShardOf, IsBehindDot}

-- an address is whole
pub whole_of_address : (list : List Rule) (host : List ℕ) → ¬ (IsHostName host) → IsShardOf list host host
whole_of_address list host address = (inl refl, short)
  where
    short : (text : List ℕ) → IsShared list host text → length host ≤ length text
    short text (free, inl same) = omega (arith, ap length same)
    short text (free, inr below) = absurd (address below.0)

-- so is a host behind none of whose dots an unlisted text stands
pub whole_of_name : (list : List Rule) (host : List ℕ) → ((text : List ℕ) → ¬ (IsBehindDot list host text))
    → IsShardOf list host host
whole_of_name list host none = (inl refl, short)
  where
    short : (text : List ℕ) → IsShared list host text → length host ≤ length text
    short text (free, inl same) = omega (arith, ap length same)
    short text (free, inr below) = absurd (none text (free, below.1))
