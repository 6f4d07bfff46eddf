-- What holds of each row holds of those that are picked, and of those that are ordered.
use Rattle.std.proofs.Common.{List, [], ◌∷◌, sym, subst, inl, inr}
use Rattle.std.specs.List.{AllByRecursion}
use Rattle.std.proofs.lemmas.List.Elements.{All-from_recursion, recursion_from_All}
use Rattle.std.proofs.lemmas.List.Sorted.{All-permutation}
use Rattle.cookie_store.specs.Rows.{Row}
use Rattle.cookie_store.specs.Given.{ArePicked}
use Rattle.cookie_store.specs.Longest.{AreLongestFirst}

pub picked_all : (P Is : Row → Type 0) (rows picked : List Row) → AllByRecursion P rows → ArePicked Is rows picked
    → AllByRecursion P picked
picked_all P Is [] picked all p = subst (AllByRecursion P) (sym p) tt
picked_all P Is (r ∷ rs) picked all (later, p, inl is) =
    subst (AllByRecursion P) (sym is.1) (all.0, picked_all P Is rs later all.1 p)
picked_all P Is (r ∷ rs) picked all (later, p, inr is) =
    subst (AllByRecursion P) (sym is.1) (picked_all P Is rs later all.1 p)

pub all_longest : (P : Row → Type 0) (rows ordered : List Row) → AreLongestFirst rows ordered
    → AllByRecursion P rows → AllByRecursion P ordered
all_longest P rows ordered first all =
    recursion_from_All P ordered (All-permutation P rows ordered first.permutation (All-from_recursion P rows all))
