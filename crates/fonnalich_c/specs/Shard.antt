-- The shard of a host, by a list (own: docs/DEFINITIONS.md).
use Rattle.std.specs.Prelude.{ℕ, ◌≡◌, ◌≢◌, ◌⊎◌, List, [], None}
use Rattle.std.specs.Str.{IsUtf8}
use Rattle.publicsuffix.specs.Rules.{Rule}
use Rattle.store_parts.specs.Schemes.{host_of}
use Rattle.url.specs.Parts.{Parts}
use Rattle.cookie_client.specs.Shard.{IsShardOf, IsShardAt}
use Rattle.fonnalich_c.specs.Given.{IsListOf, IsNoListOf, IsUrl, IsNoUrl}
use Rattle.fonnalich_c.specs.declared.refusal.Refusal.{Refusal}
use Rattle.fonnalich_c.specs.declared.refusal.Refusal.TheVariants as refusal

-- ---- by rules

-- that of a host in UTF-8 that has a byte
abbrev pub IsShardIn : List Rule → List ℕ → List ℕ → Type 0
IsShardIn rules host shard = IsUtf8 host × (host ≢ []) × IsShardOf rules host shard

-- the host isn't UTF-8, or has no byte
abbrev pub HasNoShardIn : List ℕ → Refusal → Type 0
HasNoShardIn host refused =
    ((refused ≡ refusal.Text) × (¬ (IsUtf8 host))) ⊎ ((refused ≡ refusal.Host) × (host ≡ []))

-- that of the host of a text's URL
abbrev pub IsShardAtIn : List Rule → List ℕ → List ℕ → Type 0
IsShardAtIn rules page shard = (url : Parts) × IsUrl page url × IsShardAt rules url shard

-- the text is no URL, or that of one without a host, or memory was refused
abbrev pub HasNoShardAtIn : List ℕ → Refusal → Type 0
HasNoShardAtIn page refused = (refused ≡ refusal.Memory) ⊎ ((refused ≡ refusal.Url) × IsNoUrl page)
    ⊎ ((refused ≡ refusal.Host) × ((url : Parts) × IsUrl page url × (host_of url ≡ None)))

-- ---- by the rules that a text gives

abbrev pub IsShardBy : List ℕ → List ℕ → List ℕ → Type 0
IsShardBy text host shard = (rules : List Rule) × IsListOf text rules × IsShardIn rules host shard

-- the text is no list, or it is, and the host has none
abbrev pub HasNoShard : List ℕ → List ℕ → Refusal → Type 0
HasNoShard text host refused = IsNoListOf text refused
    ⊎ (((rules : List Rule) × IsListOf text rules) × HasNoShardIn host refused)

abbrev pub IsShardAtText : List ℕ → List ℕ → List ℕ → Type 0
IsShardAtText text page shard = (rules : List Rule) × IsListOf text rules × IsShardAtIn rules page shard

-- the text is no list, or it is, and the URL's host has none
abbrev pub HasNoShardAt : List ℕ → List ℕ → Refusal → Type 0
HasNoShardAt text page refused = IsNoListOf text refused
    ⊎ (((rules : List Rule) × IsListOf text rules) × HasNoShardAtIn page refused)
