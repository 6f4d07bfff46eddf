use Rattle.std.proofs.Common.{◌∙◌, rules, sym}
use Rattle.std.proofs.lemmas.List.Sorted.{IsNonDecreasingBy-from_sort_by_key, list_any-IsPermutation}
use Rattle.place_index.specs.Found.{is_in}
use Rattle.place_index.proofs.order.put_in_order.Goals as goal

pub merge-requires : goal.merge-requires
merge-requires c =
    IsNonDecreasingBy-from_sort_by_key (λ part. part.0) _ c.sort_unstable_by_key.ensures.sorted
    (λ a r q k. search rules)

pub returns-clause-same : goal.returns-clause-same
returns-clause-same c i =
    c.merge.ensures.same i
    ∙ sym (list_any-IsPermutation (is_in i) _ _ c.sort_unstable_by_key.ensures.permutation)
