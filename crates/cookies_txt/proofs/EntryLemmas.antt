-- What the lines gave that were read by themselves.
use Rattle.std.proofs.Common.{◌≡◌, ◌+◌, ℕ, true, false, List, [], ◌∷◌, ◌++◌, length, Some, None, Result, Ok, Err, refl}
use Rattle.std.proofs.Common.{sym, ap, subst, ◌∙◌, append_assoc, append-nil, arith}
use Rattle.std.specs.Str.{IsUtf8, is_utf8}
use Rattle.std.specs.Str.Lines.{lines}
use Rattle.std.proofs.lemmas.Bool.{cond-false, cond-true, false_from_ne_true}
use Rattle.std.proofs.lemmas.List.{length_push}
use Rattle.std.proofs.lemmas.Str.{IsUtf8-from_is_utf8, is_utf8-from_IsUtf8}
use Rattle.cookie_text.specs.ReadingBack.{Pairwise}
use Rattle.cookie_store.specs.Rows.{Row}
use Rattle.cookies_txt.specs.Entries.{AnswersLine, IsEntry, entries_behind, given_by, numbered, with_idna}
use Rattle.cookies_txt.specs.Layout.{CookieLine}
use Rattle.cookies_txt.specs.Reading.{is_passed_over, read_line}
use Rattle.cookies_txt.specs.declared.error.LineFault.{LineFault}
use Rattle.cookies_txt.specs.declared.error.LineFault.TheVariants.{NotText}

-- what a line gives that is UTF-8
pub given_text : (line : List ℕ) → IsUtf8 line → given_by line ≡ with_idna (read_line line)
unfolding given_by
given_text line text = cond-true _ _ _ (is_utf8-from_IsUtf8 line text)

no_text : (line : List ℕ) → ¬ (IsUtf8 line) → is_utf8 line ≡ false
no_text line none = false_from_ne_true (is_utf8 line) (λ text. none (IsUtf8-from_is_utf8 line text))

-- one that isn't, and is passed over
pub given_over : (line : List ℕ) → ¬ (IsUtf8 line) → is_passed_over line ≡ true → given_by line ≡ Ok None
unfolding given_by
given_over line none over = cond-false _ _ _ (no_text line none) ∙ cond-true _ _ _ over

-- any other that isn't
pub given_fault : (line : List ℕ) → ¬ (IsUtf8 line) → is_passed_over line ≡ false → given_by line ≡ Err NotText
unfolding given_by
given_fault line none other = cond-false _ _ _ (no_text line none) ∙ cond-false _ _ _ other

entries_push : (n : ℕ) (done : List (List ℕ)) (line : List ℕ)
    → entries_behind n (done ++ line ∷ []) ≡ entries_behind n done ++ numbered (n + length done + 1) (given_by line)
entries_push n [] line =
    let same : n + 1 ≡ n + length {A = List ℕ} [] + 1 = omega arith in
    append-nil (numbered (n + 1) (given_by line)) ∙ ap (λ k. numbered k (given_by line)) same
entries_push n (d ∷ ds) line =
    let same : (n + 1) + length ds + 1 ≡ n + length (d ∷ ds) + 1 = omega arith in
    ap (λ es. numbered (n + 1) (given_by d) ++ es)
    (entries_push (n + 1) ds line
    ∙ ap (λ k. entries_behind (n + 1) ds ++ numbered k (given_by line)) same)
    ∙ sym (append_assoc (numbered (n + 1) (given_by d)) (entries_behind (n + 1) ds) _)

pairs_append : (xs : List (ℕ × Result CookieLine LineFault)) (answers : List (ℕ × Result Row LineFault))
    (ys : List (ℕ × Result CookieLine LineFault)) (more : List (ℕ × Result Row LineFault)) → Pairwise IsEntry xs answers
    → Pairwise IsEntry ys more → Pairwise IsEntry (xs ++ ys) (answers ++ more)
pairs_append [] [] ys more h k = k
pairs_append [] (r ∷ rs) ys more h k = absurd h
pairs_append (x ∷ xs) [] ys more h k = absurd h
pairs_append (x ∷ xs) (r ∷ rs) ys more h k = (h.0, pairs_append xs rs ys more h.1 k)

-- what the lines so far gave
abbrev pub EntersSoFar : List (List ℕ) → List (ℕ × Result Row LineFault) → Type 0
EntersSoFar done answered = Pairwise IsEntry (entries_behind 0 done) answered

-- a line that gives an entry
pub enters : (done : List (List ℕ)) (answered : List (ℕ × Result Row LineFault)) (line : List ℕ) (n : ℕ)
    (answer : Result Row LineFault) → EntersSoFar done answered → n ≡ length done → AnswersLine line (Some answer)
    → EntersSoFar (done ++ line ∷ []) (answered ++ (n + 1, answer) ∷ [])
enters done answered line n answer far counted is =
    let number : n + 1 ≡ 0 + length done + 1 = omega (arith, counted) in
    subst (λ given. Pairwise IsEntry given (answered ++ (n + 1, answer) ∷ [])) (sym (entries_push 0 done line))
    (pairs_append (entries_behind 0 done) answered _ ((n + 1, answer) ∷ []) far (one answer is number))
  where
    one : (answer : Result Row LineFault) → AnswersLine line (Some answer) → n + 1 ≡ 0 + length done + 1
        → Pairwise IsEntry (numbered (0 + length done + 1) (given_by line)) ((n + 1, answer) ∷ [])
    one (Ok row) (said, gives, row_is) number =
        subst (λ g. Pairwise IsEntry (numbered (0 + length done + 1) g) ((n + 1, Ok row) ∷ [])) (sym gives)
        ((number, row_is), tt)
    one (Err fault) gives number =
        subst (λ g. Pairwise IsEntry (numbered (0 + length done + 1) g) ((n + 1, Err fault) ∷ [])) (sym gives)
        ((number, refl), tt)

-- a line that is passed over
pub enters_none : (done : List (List ℕ)) (answered : List (ℕ × Result Row LineFault)) (line : List ℕ)
    → EntersSoFar done answered → given_by line ≡ Ok None → EntersSoFar (done ++ line ∷ []) answered
enters_none done answered line far is =
    subst (λ given. Pairwise IsEntry given answered)
    (sym (entries_push 0 done line
    ∙ (ap (λ g. entries_behind 0 done ++ numbered (0 + length done + 1) g) is ∙ append-nil (entries_behind 0 done))))
    far

-- what the lines gave of which so many are counted, before what is left of a text
pub record EntersUpTo (text rest : List ℕ) (number : ℕ) (answered : List (ℕ × Result Row LineFault)) : Type 0 where
  pub done : List (List ℕ)
  pub split : lines text ≡ done ++ lines rest
  pub counted : number ≡ length done
  pub gives : EntersSoFar done answered

pub up_to_none : (text : List ℕ) → EntersUpTo text text 0 []
up_to_none text = record { done = []; split = refl; counted = refl; gives = tt }

one_more : (text rest line behind : List ℕ) (done : List (List ℕ)) → lines text ≡ done ++ lines rest
    → lines rest ≡ line ∷ lines behind → lines text ≡ (done ++ line ∷ []) ++ lines behind
one_more text rest line behind done split is =
    split ∙ (ap (λ ls. done ++ ls) is ∙ sym (append_assoc done (line ∷ []) (lines behind)))

-- a line more that gives an entry
pub up_to_more : (text rest line behind : List ℕ) (n : ℕ) (answered : List (ℕ × Result Row LineFault))
    (answer : Result Row LineFault) → EntersUpTo text rest n answered → lines rest ≡ line ∷ lines behind
    → AnswersLine line (Some answer) → EntersUpTo text behind (n + 1) (answered ++ (n + 1, answer) ∷ [])
up_to_more text rest line behind n answered answer far is says = record {
  done = far.done ++ line ∷ [];
  split = one_more text rest line behind far.done far.split is;
  counted = ap (λ k. k + 1) far.counted ∙ sym (length_push far.done line);
  gives = enters far.done answered line n answer far.gives far.counted says;
}

-- a line more that is passed over
pub up_to_over : (text rest line behind : List ℕ) (n : ℕ) (answered : List (ℕ × Result Row LineFault))
    → EntersUpTo text rest n answered → lines rest ≡ line ∷ lines behind → AnswersLine line None
    → EntersUpTo text behind (n + 1) answered
up_to_over text rest line behind n answered far is over = record {
  done = far.done ++ line ∷ [];
  split = one_more text rest line behind far.done far.split is;
  counted = ap (λ k. k + 1) far.counted ∙ sym (length_push far.done line);
  gives = enters_none far.done answered line far.gives over;
}

-- no line more
pub up_to_end : (text rest : List ℕ) (n : ℕ) (answered : List (ℕ × Result Row LineFault))
    → EntersUpTo text rest n answered → lines rest ≡ [] → EntersSoFar (lines text) answered
up_to_end text rest n answered far none =
    subst (λ ls. EntersSoFar ls answered)
    (sym (far.split ∙ (ap (λ ls. far.done ++ ls) none ∙ append-nil far.done))) far.gives
