-- The shard of a host, and of a text in its reach.
use Rattle.std.proofs.Common.{◌≡◌, ◌⊎◌, ℕ, ◌≤◌, List, length, sym, refl, ap, ◌∙◌, subst, inl, inr, arith}
use Rattle.std.proofs.lemmas.Bool.{cases_lt}
use Rattle.publicsuffix.specs.Rules.{Rule}
use Rattle.cookie_run.specs.SharedHosts.{EndsInNoAddress, HostsHaveOneShard, RelatedHostsHaveOneShard, OneShardIsRelated}
use Rattle.cookie_client.specs.Shard.{IsShared, IsShardOf}
use Rattle.cookie_run.proofs.ShardReach.{reach_within, reach_further, reach_once, reach_whole}

-- the shard of a host is that of each unlisted text in its reach
pub shard_below : (list : List Rule) (host t shard : List ℕ) → EndsInNoAddress host → IsShared list host t
    → IsShardOf list host shard → IsShardOf list t shard
shard_below list host t shard ends (free, of_t) (inl same, shortest) =
    subst (λ x. IsShardOf list x shard)
    (reach_whole host t of_t (omega (arith, ap length same, shortest t (free, of_t)))) (inl same, shortest)
shard_below list host t shard ends (free, of_t) (inr shared, shortest) = (
  inr (shared.0, reach_within host t shard ends of_t shared.1 (shortest t (free, of_t))),
  (λ text below. shortest text (below.0, reach_further host t text of_t below.1)),
)

-- and the other way round
pub shard_above : (list : List Rule) (host t shard : List ℕ) → EndsInNoAddress host → IsShared list host t
    → IsShardOf list t shard → IsShardOf list host shard
shard_above list host t shard ends (free, of_t) (is, shortest) = (inr (shared is), (λ text other. short text other))
  where
    shared : (shard ≡ t) ⊎ IsShared list t shard → IsShared list host shard
    shared (inl same) = subst (IsShared list host) (sym same) (free, of_t)
    shared (inr below) = (below.0, reach_further host t shard of_t below.1)

    short : (text : List ℕ) → IsShared list host text → length shard ≤ length text
    short text other =
        elim (cases_lt (length t) (length text)) [
          | inl longer ↦ omega (arith, longer, shortest t (free, inl refl))
          | inr within ↦ shortest text (other.0, reach_within host t text ends of_t other.1 within)
        ]

-- ---- the laws

pub shard_once : HostsHaveOneShard
shard_once list host a b (inl one, shortest) (inl other, least) = one ∙ sym other
shard_once list host a b (inl one, shortest) (inr other, least) =
    one ∙ reach_whole host b other.1 (omega (arith, ap length one, shortest b other))
shard_once list host a b (inr one, shortest) (inl other, least) =
    sym (reach_whole host a one.1 (omega (arith, ap length other, least a one))) ∙ sym other
shard_once list host a b (inr one, shortest) (inr other, least) =
    reach_once host a b one.1 other.1 (omega (arith, shortest b other, least a one))

pub related_shard : RelatedHostsHaveOneShard
related_shard list host other a b ends too (inl same) one two =
    shard_once list other a b (subst (λ x. IsShardOf list x a) same one) two
related_shard list host other a b ends too (inr (t, some, mine, theirs, free)) one two =
    shard_once list t a b
    (shard_below list host t a ends ((some, free), mine) one)
    (shard_below list other t b too ((some, free), theirs) two)

pub shard_related : OneShardIsRelated
shard_related list host other shard (inl one, shortest) (inl two, least) = inl (sym one ∙ two)
shard_related list host other shard (inl one, shortest) (inr two, least) =
    inr (shard, two.0.0, inl (sym one), two.1, two.0.1)
shard_related list host other shard (inr one, shortest) (inl two, least) =
    inr (shard, one.0.0, one.1, inl (sym two), one.0.1)
shard_related list host other shard (inr one, shortest) (inr two, least) =
    inr (shard, one.0.0, one.1, two.1, one.0.1)
