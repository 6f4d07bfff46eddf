-- A text is cut piece by piece.
use Rattle.std.proofs.Common.{◌≡◌, ◌≢◌, ℕ, ◌+◌, ◌-◌, ◌<◌, ◌==◌, Bool, true, false, not, cond, length, List, ◌∷◌, map}
use Rattle.std.proofs.Common.{Option, Some, None, sym, ap, ◌∙◌, arith}
use Rattle.std.specs.List.{after_first, position_or_len, filter}
use Rattle.std.specs.Str.{trim}
use Rattle.std.proofs.lemmas.Bool.Decides.{nat_tests}
use Rattle.std.proofs.lemmas.List.{length-drop}
use Rattle.std.proofs.lemmas.List.Splits.{slice_split_first, slice_split_none}
use Rattle.std.proofs.lemmas.List.Sums.{fails_before_first}
use Rattle.std.proofs.lemmas.List.Elements.{All-from_get_or}
use Rattle.cookie_text.specs.Pieces.{pieces, semicolon}
use Rattle.cookie_text.specs.Reading.{first_piece}
use Rattle.cookie_text.specs.Splitting.{IsCut, texts_left, is_some_text}

pub cut_some : (text piece rest : List ℕ) → position_or_len (λ b. b == semicolon) text < length text
    → piece ≡ first_piece text → rest ≡ after_first (λ b. b == semicolon) text → IsCut text piece (Some rest)
cut_some text piece rest holds is_piece is_rest =
    let n : ℕ = position_or_len (λ b. b == semicolon) text in
    let size : length rest ≡ length text - (n + 1) = ap length is_rest ∙ length-drop (n + 1) text in
    (slice_split_first (λ b. b == semicolon) text 0 holds ∙ (λ i. sym is_piece i ∷ pieces (sym is_rest i)), omega arith)

pub cut_none : (text : List ℕ) → position_or_len (λ b. b == semicolon) text ≡ length text → IsCut text text None
cut_none text none =
    let is_cut : ℕ → Bool = λ b. b == semicolon in
    slice_split_none is_cut text (All-from_get_or (λ b. is_cut b ≡ false) text 0
    (λ i within. fails_before_first is_cut text i 0 (omega arith)))

-- the texts of a piece and of what comes after it
texts_of : (text piece : List ℕ) (rest : Option (List ℕ)) → IsCut text piece rest
    → texts_left (Some text) ≡ cond (is_some_text (trim piece)) (trim piece ∷ texts_left rest) (texts_left rest)
texts_of text piece None h = ap (λ ps. filter is_some_text (map trim ps)) h
texts_of text piece (Some rest) h = ap (λ ps. filter is_some_text (map trim ps)) h.0

pub texts_of_blank : (text piece : List ℕ) (rest : Option (List ℕ)) → IsCut text piece rest → length (trim piece) ≡ 0
    → texts_left (Some text) ≡ texts_left rest
texts_of_blank text piece rest h none =
    let blank : is_some_text (trim piece) ≡ false = ap (λ n. not (n == 0)) none in
    texts_of text piece rest h ∙ ap (λ b. cond b (trim piece ∷ texts_left rest) (texts_left rest)) blank

pub texts_of_some : (text piece : List ℕ) (rest : Option (List ℕ)) → IsCut text piece rest → length (trim piece) ≢ 0
    → texts_left (Some text) ≡ trim piece ∷ texts_left rest
texts_of_some text piece rest h some =
    let there : is_some_text (trim piece) ≡ true = grind (arith, nat_tests) in
    texts_of text piece rest h ∙ ap (λ b. cond b (trim piece ∷ texts_left rest) (texts_left rest)) there

-- how much text is left
abbrev pub left_size : Option (List ℕ) → ℕ
left_size None = 0
left_size (Some text) = length text + 1

pub left_size-cut : (text piece : List ℕ) (rest : Option (List ℕ)) → IsCut text piece rest
    → left_size rest < left_size (Some text)
left_size-cut text piece None h = omega arith
left_size-cut text piece (Some rest) h = omega arith
