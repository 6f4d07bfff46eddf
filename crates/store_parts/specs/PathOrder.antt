-- How the paths of cookies compare and hash: by text and by whether an attribute gave them.
use Rattle.std.specs.Prelude.{◌==◌, ◌++◌, ℕ, List, Bool}
use Rattle.std.specs.declared.cmp.Ordering.{Ordering}
use Rattle.std.specs.Bool.{beq}
use Rattle.std.specs.Cmp.Lexicographic.{pointwise, slice_cmp}
use Rattle.std.specs.Hash as fed
use Rattle.std.specs.Ordering.{nat_cmp, bool_cmp, on, then_cmp, eq_of_both}
use Rattle.store_parts.specs.declared.cookie_path.CookiePath.{CookiePath}
use Rattle.store_parts.specs.PathMatch.{path_of}

-- by text, then the one that no attribute gave first
abbrev pub path_cmp : CookiePath → CookiePath → Ordering
path_cmp =
    then_cmp (on (λ p. (path_of p).text) (slice_cmp nat_cmp))
    (on (λ p. (path_of p).from_attribute) bool_cmp)

-- equal in both
abbrev pub path_eq : CookiePath → CookiePath → Bool
path_eq =
    eq_of_both (on (λ p. (path_of p).text) (pointwise ◌==◌))
    (on (λ p. (path_of p).from_attribute) beq)

-- what a hasher is fed
abbrev pub path_input : CookiePath → List (List ℕ)
path_input p = fed.str (path_of p).text ++ fed.bool (path_of p).from_attribute
