-- The items of a list, one by one.
use Rattle.std.proofs.Common.{ℕ, List, ◌++◌, Option}
use Rattle.std.specs.Prelude.{option_map}

-- items, and more behind them
abbrev pub with_more : List (List ℕ) → Option (List (List ℕ)) → Option (List (List ℕ))
with_more items more = option_map (λ others. items ++ others) more
