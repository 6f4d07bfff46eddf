-- A client that is cut into one client for each shard (own: docs/DEFINITIONS.md).
use Rattle.std.specs.Prelude.{◌≡◌, ℕ, ℤ, Bool, false, List, [], ⊤}
use Rattle.publicsuffix.specs.Rules.{Rule}
use Rattle.url.specs.Parts.{Parts}
use Rattle.cookie_store.specs.Given.{ArePicked}
use Rattle.cookie_store.specs.Rows.{Row, domain_text}
use Rattle.cookie_client.specs.Steps.{Act, Visits, Answers, Asks, Restarts}
use Rattle.cookie_client.specs.Header.{IsHeader}
use Rattle.cookie_run.specs.Headline.{Each}
use Rattle.cookie_run.specs.Play.{Plays}
use Rattle.cookie_client.specs.declared.command.Reading.{Reading}
use Rattle.cookie_run.specs.SharedHosts.{HasNoAddressBehind}
use Rattle.cookie_client.specs.Shard.{IsShardOf, IsShardAt}

-- ---- the steps of a shard

-- exchanges, answers and looks at headers are of the shard of their host; restarts are of every shard
abbrev pub IsOfShard : List Rule → List ℕ → Act → Type 0
IsOfShard list shard (Visits url at commands arrival) = IsShardAt list url shard
IsOfShard list shard (Answers url lines at) = IsShardAt list url shard
IsOfShard list shard (Asks url at) = IsShardAt list url shard
IsOfShard list shard (Restarts at) = ⊤

-- the second are those of the acts that are of the shard, in their order
abbrev pub AreOfShard : List Rule → List ℕ → List Act → List Act → Type 0
AreOfShard list shard acts few = ArePicked (IsOfShard list shard) acts few

-- the act is no session's exchange of the shard, whose nonces would be drawn anew
abbrev pub IsNoExchangeOf : List Rule → List ℕ → Act → Type 0
IsNoExchangeOf list shard (Visits url at commands arrival) = ¬ (IsShardAt list url shard)
IsNoExchangeOf list shard (Answers url lines at) = ⊤
IsNoExchangeOf list shard (Asks url at) = ⊤
IsNoExchangeOf list shard (Restarts at) = ⊤

-- a host that answers ends in no address
abbrev pub AnswersByName : Act → Type 0
AnswersByName (Visits url at commands arrival) = HasNoAddressBehind url
AnswersByName (Answers url lines at) = HasNoAddressBehind url
AnswersByName (Asks url at) = ⊤
AnswersByName (Restarts at) = ⊤

-- ---- the client of a shard

-- a client that was begun empty, and given the acts of the shard alone
pub record ShardClient (list : List Rule) (key shard : List ℕ) (acts : List Act) : Type 0 where
  pub few : List Act
  pub only : AreOfShard list shard acts few
  pub told : List (List Reading)
  pub rows : List Row
  pub ran : Plays false list key [] few told rows

-- the row is of the shard: that is the shard of its domain's text
abbrev pub IsRowOf : List Rule → List ℕ → Row → Type 0
IsRowOf list shard row = IsShardOf list (domain_text row) shard

-- Beside a client with these rows after the acts: the rows of the shard's client are those of the shard, in the
-- client's order, and each header for a host of the shard is byte for byte the same; that there is none is refuted.
pub record IsCut (list : List Rule) (key : List ℕ) (acts : List Act) (rows : List Row) (shard : List ℕ)
    : Type 0 where
  pub same_rows : (alone : ShardClient list key shard acts) → ArePicked (IsRowOf list shard) rows alone.rows
  pub same_header :
      (alone : ShardClient list key shard acts) (url : Parts) (at : ℤ) (header other : List ℕ)
      → IsShardAt list url shard → HasNoAddressBehind url → IsHeader rows url at header
      → IsHeader alone.rows url at other → header ≡ other
  pub there :
      (url : Parts) (at : ℤ) (header : List ℕ) → IsShardAt list url shard → HasNoAddressBehind url
      → IsHeader rows url at header
      → ¬ (¬ ((alone : ShardClient list key shard acts) × (other : List ℕ) × IsHeader alone.rows url at other))

-- ---- the law

-- THE SHARDS ARE THE CLIENT, after any acts, whatever the bytes, the URLs and the moments, by either reading of what
-- sessions open on
abbrev pub ShardsAreTheClient : Type 0
ShardsAreTheClient =
    (shown : Bool) (list : List Rule) (key : List ℕ) (acts : List Act) (told : List (List Reading)) (rows : List Row)
    → Plays shown list key [] acts told rows → Each AnswersByName acts → (shard : List ℕ)
    → Each (IsNoExchangeOf list shard) acts → IsCut list key acts rows shard
