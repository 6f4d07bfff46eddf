-- The words of a status line.
use Rattle.std.proofs.Common.{◌≡◌, ◌+◌, ◌-◌, ◌<◌, ℕ, Bool, false, List, [], ◌∷◌, length, take, drop, Some, None}
use Rattle.std.proofs.Common.{All, sym, ap, subst, ◌∙◌, arith}
use Rattle.std.specs.Prelude.{◌==◌, nat_lt, position}
use Rattle.std.specs.List.{slice_split, position_or_len}
use Rattle.std.proofs.lemmas.Bool.Decides.{nat_tests}
use Rattle.std.proofs.lemmas.List.{take_rest}
use Rattle.std.proofs.lemmas.List.Elements.{All-from_get_or}
use Rattle.std.proofs.lemmas.List.Sums.{fails_before_first}
use Rattle.std.proofs.lemmas.List.Splits.{slice_split_first, slice_split_none}
use Rattle.text_lines.proofs.LineLemmas.{found, missed}
use Rattle.response_heads.specs.Lines.{words}

abbrev is_space : ℕ → Bool
is_space b = b == 32

pub words_cut : (text : List ℕ) (i : ℕ) → position (λ b. b == 32) text ≡ Some i
    → words text ≡ take i text ∷ words (take (length text - (i + 1)) (drop (i + 1) text))
unfolding words
words_cut text i e =
    let f = found (nat_lt (position_or_len is_space text) (length text)) (position_or_len is_space text) i e in
    let below : position_or_len is_space text < length text = grind (arith, nat_tests) in
    subst (λ n. slice_split is_space text ≡ take n text ∷ slice_split is_space (drop (n + 1) text)) f.1
    (slice_split_first is_space text 0 below)
    ∙ ap (λ rest. take i text ∷ slice_split is_space rest) (sym (take_rest text (i + 1)))

pub words_one : (text : List ℕ) → position (λ b. b == 32) text ≡ None → words text ≡ text ∷ []
unfolding words
words_one text e =
    let m = missed (nat_lt (position_or_len is_space text) (length text)) (position_or_len is_space text) e in
    let none : All (λ x. is_space x ≡ false) text = All-from_get_or (λ x. is_space x ≡ false) text 0
    (λ k h. fails_before_first is_space text k 0 (grind (arith, nat_tests))) in
    slice_split_none is_space text none
