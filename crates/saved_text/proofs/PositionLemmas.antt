-- What stands behind the last line feed of a text.
use Rattle.std.proofs.Common.{
  ℕ,
  ◌≡◌,
  ◌≢◌,
  List,
  [],
  ◌∷◌,
  ◌++◌,
  ◌∙◌,
  refl,
  sym,
  ap,
  inl,
  inr,
  lit<,
  arith,
  All,
  get_or,
  take,
  drop,
  take-append-drop,
  subst,
  ◌==◌,
  Some,
}
use Rattle.std.specs.Str.{NoCharPasses}
use Rattle.std.specs.Str.Pattern.{RFindsChar, SplitsAroundMatch}
use Rattle.std.proofs.lemmas.Grind.{common_steps}
use Rattle.std.proofs.lemmas.List.{append_assoc}
use Rattle.std.proofs.lemmas.Str.Pattern.{NoCharPasses-char, drop_at_char}
use Rattle.saved_text.specs.Position.{IsLastLine}

unended : (text : List ℕ) → NoCharPasses (λ d. d == 10) text → All (λ b. b ≢ 10) text
unended text none k d l =
    let far : get_or text k 0 ≢ 10 = NoCharPasses-char 10 text k none (lit< tt) l in
    grind (arith, common_steps)

-- where no line feed is
pub last_line-whole : (text : List ℕ) → NoCharPasses (λ d. d == 10) text → IsLastLine text text
last_line-whole text none = record { before = []; split = refl; ended = inl refl; unended = unended text none }

-- behind the last one
pub last_line-behind : (text front back : List ℕ) → SplitsAroundMatch (RFindsChar 10) text front back →
    IsLastLine text back
last_line-behind text front back found =
    let i = found.0 in
    let j = found.1 in
    let is : RFindsChar 10 text (Some (i, j)) = found.2 in
    let back_is : back ≡ drop j text = found.4 in
    let step : drop i text ≡ 10 ∷ back = drop_at_char 10 text i j is.1 (lit< tt) ∙ ap (λ l. 10 ∷ l) (sym back_is) in
    record {
      before = take i text ++ 10 ∷ [];
      split =
          sym (take-append-drop i text) ∙ ap (λ l. take i text ++ l) step
          ∙ sym (append_assoc (take i text) (10 ∷ []) back);
      ended = inr (take i text, refl);
      unended = unended back (subst (NoCharPasses (λ d. d == 10)) (sym back_is) is.0);
    }
