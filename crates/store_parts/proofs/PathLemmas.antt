-- Where a uri-path is cut at its right-most `/`.
use Rattle.std.proofs.Common.{◌≡◌, ◌≢◌, ◌+◌, ◌-◌, ◌<◌, ℕ, List, [], ◌∷◌, length, take, get_or, eqb}
use Rattle.std.proofs.Common.{true, false, not, refl, ap, ◌∙◌, arith, zero, suc}
use Rattle.std.specs.List.{before_last, suffix_len}
use Rattle.std.specs.Prelude.{Option, Some, None, unwrap_or}
use Rattle.std.specs.Option.{MatchOption}
use Rattle.std.specs.Str.{IsCharBoundary}
use Rattle.std.proofs.lemmas.Str.{IsCharBoundary-before_ascii}
use Rattle.std.proofs.lemmas.Grind.{common_steps}
use Rattle.std.proofs.lemmas.List.Sums.{suffix_len_is}
use Rattle.store_parts.specs.PathMatch.{slash, or_root, default_path}

-- the right-most slash
pub record IsLastSlash (path : List ℕ) (k : ℕ) : Type 0 where
  pub within : k < length path
  pub at : get_or path k 0 ≡ 47
  pub after : (i : ℕ) → k < i → i < length path → get_or path i 0 ≢ 47

is_other : (b : ℕ) → b ≢ 47 → not (eqb b 47) ≡ true
is_other b other = grind (arith, common_steps)

is_slash : (b : ℕ) → b ≡ 47 → not (eqb b 47) ≡ false
is_slash b same = grind (arith, common_steps)

pub before_last-slash : (path : List ℕ) (k : ℕ) → IsLastSlash path k
    → before_last (λ b. eqb b 47) path ≡ take k path
before_last-slash path k last =
    let within = last.within in
    let back : k + 1 - 1 ≡ k = omega arith in
    let here = ap (λ i. get_or path i 0) back in
    let n : suffix_len (λ b. not (eqb b 47)) path ≡ length path - (k + 1) =
    suffix_len_is (λ b. not (eqb b 47)) path (k + 1) 0 (omega arith)
    (λ i low high. is_other _ (last.after i (omega arith) high))
    (λ _. is_slash _ (here ∙ last.at)) in
    let front : length path - suffix_len (λ b. not (eqb b 47)) path - 1 ≡ k = omega arith in
    ap (λ m. take m path) front

pub before_last-none : (path : List ℕ) → ((i : ℕ) → i < length path → get_or path i 0 ≢ 47)
    → before_last (λ b. eqb b 47) path ≡ []
before_last-none path none =
    let n : suffix_len (λ b. not (eqb b 47)) path ≡ length path - 0 =
    suffix_len_is (λ b. not (eqb b 47)) path 0 0 (omega arith)
    (λ i low high. is_other _ (none i high)) (λ h. absurd (omega arith)) in
    let here : length path - suffix_len (λ b. not (eqb b 47)) path - 1 ≡ 0 = omega arith in
    ap (λ m. take m path) here

or_root-take : (path : List ℕ) (k : ℕ) → 0 < k → k < length path
    → or_root (take k path) ≡ take k path
or_root-take [] k pos within = absurd (omega arith)
or_root-take (b ∷ bs) zero pos within = absurd (omega arith)
or_root-take (b ∷ bs) (suc k) pos within = refl

pub default_path-last : (path : List ℕ) (k : ℕ) → IsLastSlash path k → 0 < k
    → default_path path ≡ take k path
default_path-last path k last pos =
    ap or_root (before_last-slash path k last) ∙ or_root-take path k pos last.within

pub default_path-first : (path : List ℕ) (k : ℕ) → IsLastSlash path k → k ≡ 0
    → default_path path ≡ slash ∷ []
default_path-first path k last zero_is =
    ap or_root (before_last-slash path k last ∙ ap (λ n. take n path) zero_is)

pub default_path-none : (path : List ℕ) → ((i : ℕ) → i < length path → get_or path i 0 ≢ 47)
    → default_path path ≡ slash ∷ []
default_path-none path none = ap or_root (before_last-none path none)

-- what a search for a slash from the end finds
abbrev pub FindsLastSlash : List ℕ → Option ℕ → Type 0
FindsLastSlash path found =
    MatchOption found ((i : ℕ) → i < length path → get_or path i 0 ≢ 47)
    (λ k. (k < length path) × (get_or path k 0 ≡ 47)
    × ((i : ℕ) → k < i → i < length path → get_or path i 0 ≢ 47))

pub default_path-found : (path : List ℕ) (found : Option ℕ) → FindsLastSlash path found
    → 0 < unwrap_or found 0 → default_path path ≡ take (unwrap_or found 0) path
default_path-found path None none pos = absurd (omega arith)
default_path-found path (Some k) last pos =
    default_path-last path k (record { within = last.0; at = last.1; after = last.2 }) pos

pub default_path-not_found : (path : List ℕ) (found : Option ℕ) → FindsLastSlash path found
    → unwrap_or found 0 ≡ 0 → default_path path ≡ slash ∷ []
default_path-not_found path None none first = default_path-none path none
default_path-not_found path (Some k) last first =
    default_path-first path k (record { within = last.0; at = last.1; after = last.2 }) first

pub IsCharBoundary-found : (path : List ℕ) (found : Option ℕ) → FindsLastSlash path found
    → 0 < unwrap_or found 0 → IsCharBoundary path (unwrap_or found 0)
IsCharBoundary-found path None none pos = absurd (omega arith)
IsCharBoundary-found path (Some k) last pos =
    let at = last.1 in IsCharBoundary-before_ascii path k last.0 (omega arith)
