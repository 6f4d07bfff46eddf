-- The shard of a text that is UTF-8.
use Rattle.std.proofs.Common.{◌≡◌, ◌≢◌, ℕ, List, [], sym, subst}
use Rattle.std.specs.Str.{IsUtf8}
use Rattle.publicsuffix.specs.Rules.{Rule}
use Rattle.cookie_client.specs.Shard.{IsShardOf}
use Rattle.fonnalich_c.specs.Shard.{IsShardIn}

pub shard_of_text : (host read shard given : List ℕ) (rules : List Rule) → read ≡ host → IsUtf8 host
    → (read ≢ []) × IsShardOf rules read shard → given ≡ shard → IsShardIn rules host given
shard_of_text host read shard given rules same utf8 is shown = (
  utf8,
  subst (λ h. h ≢ []) same is.0,
  subst (λ h. IsShardOf rules h given) same (subst (IsShardOf rules read) (sym shown) is.1),
)
