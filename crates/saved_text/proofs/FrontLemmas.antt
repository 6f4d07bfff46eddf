-- Where a reader is stuck, there the longest front ends.
use Rattle.std.specs.Prelude.{take, drop}
use Rattle.std.proofs.Common.{◌≡◌, ℕ, zero, suc, ◌+◌, ◌-◌, ◌≤◌, ◌<◌, ◌++◌, List, [], ◌∷◌, length, refl, sym, ap, ◌∙◌}
use Rattle.std.proofs.Common.{arith, length-append, subst}
use Rattle.std.specs.Str.{IsUtf8, IsCharBoundary}
use Rattle.std.proofs.lemmas.Str.{IsCharBoundary-at_seam}
use Rattle.saved_text.specs.Grammar.{Grammar, Word, IsOf, IsFront, IsLongestFront}
use Rattle.saved_text.specs.Reads.{Stuck}

take_front : (x r : List ℕ) → take (length x) (x ++ r) ≡ x
take_front [] r = refl
take_front (b ∷ x) r = ap (λ q. b ∷ q) (take_front x r)

split_at : (k : ℕ) (r : List ℕ) → r ≡ take k r ++ drop k r
split_at zero r = refl
split_at (suc k) [] = refl
split_at (suc k) (b ∷ r) = ap (λ q. b ∷ q) (split_at k r)

-- a beginning that is longer than x has x and one byte more
longer : (x r : List ℕ) (m : ℕ) → length x < m → m ≤ length (x ++ r)
    → (b : ℕ) × (y z : List ℕ) × (r ≡ b ∷ (y ++ z)) × (take m (x ++ r) ≡ x ++ b ∷ y)
longer [] [] m l f = absurd (omega (arith, l, f))
longer [] (b ∷ r) zero l f = absurd (omega (arith, l))
longer [] (b ∷ r) (suc k) l f = (b, take k r, drop k r, ap (λ q. b ∷ q) (split_at k r), refl)
longer (a ∷ x) r zero l f = absurd (omega (arith, l))
longer (a ∷ x) r (suc m) l f = let p = longer x r m (omega (arith, l)) (omega (arith, f))
    in (p.0, p.1, p.2, p.3, ap (λ q. a ∷ q) p.4)

at_most : (a b : ℕ) → (b < a → ⊥) → a ≤ b
at_most a b h = omega (arith, h)

longest_at : (G : Grammar) (x rest : List ℕ) → IsFront G x
    → ((b : ℕ) (y z : List ℕ) → rest ≡ b ∷ (y ++ z) → ¬ IsFront G (x ++ b ∷ y))
    → IsLongestFront G (x ++ rest) (length x)
longest_at G x rest front far = record {
  fits = let e = length-append x rest in omega (arith, e);
  front = subst (IsFront G) (sym (take_front x rest)) front;
  longest = λ m f g. at_most m (length x)
      (λ l. let p = longer x rest m l f in far p.0 p.1 p.2 p.3 (subst (IsFront G) p.4 g));
}

pub longest_where_stuck : (G : Grammar) (text rest : List ℕ) (n : ℕ) → Stuck G text rest
    → n + length rest ≡ length text → IsLongestFront G text n
longest_where_stuck G text rest n s e =
    let all : length text ≡ length s.x + length rest = ap length s.split ∙ length-append s.x rest in
    let same : length s.x ≡ n = omega (arith, all, e) in
    subst (IsLongestFront G text) same
    (subst (λ t. IsLongestFront G t (length s.x)) (sym s.split) (longest_at G s.x rest s.front s.far))

pub no_longer : (G : Grammar) (text rest : List ℕ) → Stuck G text rest → length rest ≤ length text
no_longer G text rest s =
    let all : length text ≡ length s.x + length rest = ap length s.split ∙ length-append s.x rest in
    omega (arith, all)

-- what a fault at a place says
pub fault_at : (G : Grammar) (text rest : List ℕ) → Stuck G text rest → IsUtf8 rest
    → ((w : List Word) → ¬ IsOf G text w) × IsLongestFront G text (length text - length rest)
    × IsCharBoundary text (length text - length rest)
fault_at G text rest s u =
    let fits = no_longer G text rest s in
    let all : length text ≡ length s.x + length rest = ap length s.split ∙ length-append s.x rest in (
      s.none,
      longest_where_stuck G text rest (length text - length rest) s (omega (arith, fits)),
      subst (IsCharBoundary text) (omega (arith, all)) (IsCharBoundary-at_seam text s.x rest s.split u),
    )
