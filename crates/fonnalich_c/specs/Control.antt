-- Control characters (own: docs/DEFINITIONS.md).
use Rattle.std.specs.Prelude.{ℕ, Bool, List}
use Rattle.std.specs.List.{list_any}
use Rattle.user_agent.specs.Refusals.{is_control}

-- the text has one: a byte below 32 but the tab, or 127
abbrev pub has_control : List ℕ → Bool
has_control text = list_any is_control text
