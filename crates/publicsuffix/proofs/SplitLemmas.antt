-- The last label of a text.
use Rattle.std.proofs.Common.{◌≡◌, ℕ, ◌<◌, ◌≤◌, ◌+◌, Bool, true, false, List, [], ◌∷◌, ◌++◌, All, length, take, drop}
use Rattle.std.proofs.Common.{slice_index_or, refl, sym, ap, ◌∙◌, inl, inr, arith}
use Rattle.std.specs.List.{slice_split, onto_first}
use Rattle.std.proofs.lemmas.Bool.{cases_Bool}
use Rattle.std.proofs.lemmas.List.{drop_all, drop_more, take-append-drop}
use Rattle.std.proofs.lemmas.List.Elements.{All-cons, All-nil}
use Rattle.std.proofs.lemmas.List.Splits.{length-slice_split, slice_split-cons_no, slice_split-cons_yes}
use Rattle.std.proofs.lemmas.List.Splits.{slice_split_none}

onto_append : {X : Type 0} (x : X) (a b : List (List X)) → 0 < length a → onto_first x (a ++ b) ≡ onto_first x a ++ b
onto_append x [] b some = absurd (omega arith)
onto_append x (a ∷ rest) b some = refl

pub split_append : (p : ℕ → Bool) (xs : List ℕ) (y : ℕ) (ys : List ℕ) → p y ≡ true
    → slice_split p (xs ++ y ∷ ys) ≡ slice_split p xs ++ slice_split p ys
split_append p [] y ys is = slice_split-cons_yes p y ys is
split_append p (x ∷ xs) y ys is =
    elim (cases_Bool (p x)) [
      | inl hit ↦ slice_split-cons_yes p x (xs ++ y ∷ ys) hit ∙ ap (λ r. [] ∷ r) (split_append p xs y ys is)
          ∙ ap (λ r. r ++ slice_split p ys) (sym (slice_split-cons_yes p x xs hit))
      | inr miss ↦
          slice_split-cons_no p x (xs ++ y ∷ ys) miss ∙ ap (onto_first x) (split_append p xs y ys is)
          ∙ onto_append x (slice_split p xs) (slice_split p ys) (omega (arith, length-slice_split p xs))
          ∙ ap (λ r. r ++ slice_split p ys) (sym (slice_split-cons_no p x xs miss))
    ]

-- the text is cut at a place after which nothing passes
pub split_at : (p : ℕ → Bool) (text : List ℕ) (at : ℕ) (d : ℕ) → at < length text
    → p (slice_index_or text at d) ≡ true → All (λ b. p b ≡ false) (drop (at + 1) text)
    → slice_split p text ≡ slice_split p (take at text) ++ drop (at + 1) text ∷ []
split_at p text at d within is none =
    ap (slice_split p) (sym (take-append-drop at text) ∙ ap (λ r. take at text ++ r) (drop_more text at d within))
    ∙ split_append p (take at text) (slice_index_or text at d) (drop (at + 1) text) is
    ∙ ap (λ r. slice_split p (take at text) ++ r) (slice_split_none p (drop (at + 1) text) none)

pub none_more : (p : ℕ → Bool) (text : List ℕ) (at : ℕ) (d : ℕ) → at < length text
    → p (slice_index_or text at d) ≡ false → All (λ b. p b ≡ false) (drop (at + 1) text)
    → All (λ b. p b ≡ false) (drop at text)
none_more p text at d within is none =
    rw (drop_more text at d within) (All-cons (λ b. p b ≡ false) (slice_index_or text at d)
    (drop (at + 1) text) is none)

pub none_yet : (p : ℕ → Bool) (text : List ℕ) (at : ℕ) → length text ≤ at → All (λ b. p b ≡ false) (drop at text)
none_yet p text at past = rw (drop_all at text past) (All-nil (λ b. p b ≡ false))
