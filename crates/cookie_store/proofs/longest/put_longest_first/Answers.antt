use Rattle.std.proofs.lemmas.Fn.{always_returns_same}
use Rattle.std.proofs.lemmas.Result.{on_ok_weaker}
use Rattle.std.proofs.Common.{rules, ap}
use Rattle.cookie_store.proofs.LongestLemmas.{comes_first, comes_in_order, sorted_longest}
use Rattle.cookie_store.proofs.longest.put_longest_first.Goals as goal

pub returns : goal.returns
returns c =
    on_ok_weaker c.sort_by.result
    (λ sorted.
    sorted_longest _ _ c.sort_by.ensures.permutation
    (sorted comes_first comes_in_order (always_returns_same _ _ _ (λ a r f k. search rules)))
    (c.sort_by.ensures.stable comes_first comes_in_order (always_returns_same _ _ _ (λ a r f k. search rules))))
    c.sort_by.ensures.sorted
