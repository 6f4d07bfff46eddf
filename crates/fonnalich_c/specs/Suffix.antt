-- The public suffix of a host, by a list (own: docs/DEFINITIONS.md).
use Rattle.std.specs.Prelude.{ℕ, Bool, ◌≡◌, ◌⊎◌, List, Some, None}
use Rattle.publicsuffix.specs.Prevailing.{GivesSuffix}
use Rattle.publicsuffix.specs.Rules.{Rule}
use Rattle.fonnalich_c.specs.Given.{IsListOf, IsNoListOf}
use Rattle.fonnalich_c.specs.declared.refusal.Refusal.{Refusal}
use Rattle.fonnalich_c.specs.declared.refusal.Refusal.TheVariants as refusal

-- ---- by rules

-- what the prevailing rule gives, of these or the rule `*` behind them
abbrev pub IsSuffixBy : List Rule → List ℕ → List ℕ → Type 0
IsSuffixBy rules host suffix =
    (is_known : Bool) × GivesSuffix rules host (Some (record { text = suffix; is_known = is_known }))

abbrev pub HasNoSuffixBy : List Rule → List ℕ → Refusal → Type 0
HasNoSuffixBy rules host refused = (refused ≡ refusal.Host) × GivesSuffix rules host None

-- ---- by a text

abbrev pub IsSuffixOf : List ℕ → List ℕ → List ℕ → Type 0
IsSuffixOf text host suffix = (rules : List Rule) × IsListOf text rules × IsSuffixBy rules host suffix

-- the text is no list, or the host has none
abbrev pub HasNoSuffix : List ℕ → List ℕ → Refusal → Type 0
HasNoSuffix text host refused = IsNoListOf text refused
    ⊎ ((rules : List Rule) × IsListOf text rules × HasNoSuffixBy rules host refused)
