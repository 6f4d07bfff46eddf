-- What stands before the first byte of a kind: loops over bytes.
use Rattle.std.specs.Prelude.{IsTrue}
use Rattle.std.proofs.Common.{◌≡◌, ℕ, ◌++◌, List, [], ◌∷◌, sym, ap, ◌∙◌, append_assoc}
use Rattle.std.specs.List.{AllByRecursion}
use Rattle.saved_text.specs.Letters.{is_space, AreSpaces}

all_push : (P : ℕ → Type 0) (xs : List ℕ) (x : ℕ) → AllByRecursion P xs → P x → AllByRecursion P (xs ++ x ∷ [])
all_push P [] x a p = (p, tt)
all_push P (y ∷ xs) x a p = (a.0, all_push P xs x a.1 p)

-- one more byte of white space is passed
pub spaces_more : (text rest next : List ℕ) → (p : List ℕ) × AreSpaces p × (text ≡ p ++ rest)
    → (b : ℕ) × IsTrue (is_space b) × (rest ≡ b ∷ next)
    → (p : List ℕ) × AreSpaces p × (text ≡ p ++ next)
spaces_more text rest next h e = (
  h.0 ++ e.0 ∷ [],
  all_push (λ b. IsTrue (is_space b)) h.0 e.0 h.1 e.1,
  h.2 ∙ ap (λ r. h.0 ++ r) e.2
      ∙ sym (append_assoc h.0 (e.0 ∷ []) next),
)
