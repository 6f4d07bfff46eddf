-- The lines of a text.
use Rattle.std.proofs.Common.{◌≡◌, ℕ, ◌+◌, ◌-◌, ◌<◌, false, List, [], ◌∷◌, length, take, drop}
use Rattle.std.proofs.Common.{Some, None, sym, refl, ap, ◌∙◌, subst, arith, All}
use Rattle.std.specs.Prelude.{nat_lt, position}
use Rattle.std.specs.List.{slice_split, position_or_len}
use Rattle.std.specs.Str.Lines.{strip_carriage_return}
use Rattle.std.proofs.lemmas.Bool.Decides.{nat_tests}
use Rattle.std.proofs.lemmas.List.{length-drop, take_rest}
use Rattle.std.proofs.lemmas.List.Elements.{All-from_get_or}
use Rattle.std.proofs.lemmas.List.Sums.{fails_before_first}
use Rattle.std.proofs.lemmas.List.Splits.{slice_split_first, slice_split_none}
use Rattle.text_lines.proofs.LineLemmas.{found, is_line_feed, missed, some_parts}
use Rattle.response_heads.specs.Lines.{cut_end, last_piece, whole_lines, whole_pieces}

-- a piece with others behind it is a whole line
pieces_more : (x : List ℕ) (pieces : List (List ℕ)) → 0 < length pieces
    → (whole_pieces (x ∷ pieces) ≡ strip_carriage_return x ∷ whole_pieces pieces)
    × (last_piece (x ∷ pieces) ≡ last_piece pieces)
pieces_more x [] h = absurd (omega (arith, h))
pieces_more x (y ∷ pieces) h = (refl, refl)

pub cut_some : (text line : List ℕ) (i : ℕ) → position is_line_feed text ≡ Some i
    → line ≡ strip_carriage_return (take i text)
    → (whole_lines text ≡ line ∷ whole_lines (take (length text - (i + 1)) (drop (i + 1) text)))
    × (cut_end (take (length text - (i + 1)) (drop (i + 1) text)) ≡ cut_end text)
    × (length (take (length text - (i + 1)) (drop (i + 1) text)) < length text)
cut_some text line i e is =
    let f = found (nat_lt (position_or_len is_line_feed text) (length text)) (position_or_len is_line_feed text) i e in
    let below : position_or_len is_line_feed text < length text = grind (arith, nat_tests) in
    let within : i < length text = subst (λ n. n < length text) f.1 below in
    let split : slice_split is_line_feed text ≡ take i text ∷ slice_split is_line_feed (drop (i + 1) text) =
    subst (λ n. slice_split is_line_feed text ≡ take n text ∷ slice_split is_line_feed (drop (n + 1) text)) f.1
    (slice_split_first is_line_feed text 0 below) in
    let more = pieces_more (take i text) _ (some_parts (drop (i + 1) text)) in
    let rest = take_rest text (i + 1) in (
      ap whole_pieces split ∙ more.0 ∙ ap (λ l. l ∷ whole_lines (drop (i + 1) text)) (sym is)
          ∙ ap (λ left. line ∷ whole_lines left) (sym rest),
      ap cut_end rest ∙ sym (ap last_piece split ∙ more.1),
      subst (λ left. length left < length text) (sym rest) (omega (arith, within, length-drop (i + 1) text)),
    )

pub cut_none : (text : List ℕ) → position is_line_feed text ≡ None
    → (whole_lines text ≡ []) × (cut_end text ≡ text)
cut_none text e =
    let m = missed (nat_lt (position_or_len is_line_feed text) (length text)) (position_or_len is_line_feed text) e in
    let none : All (λ x. is_line_feed x ≡ false) text = All-from_get_or (λ x. is_line_feed x ≡ false) text 0
    (λ k h. fails_before_first is_line_feed text k 0 (grind (arith, nat_tests))) in
    let one = slice_split_none is_line_feed text none in
    (ap whole_pieces one, ap last_piece one)
