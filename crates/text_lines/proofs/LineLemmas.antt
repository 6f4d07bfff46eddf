-- The lines of a text.
use Rattle.std.proofs.Common.{◌≡◌, ℕ, ◌+◌, ◌-◌, ◌<◌, Bool, true, false, cond, List, [], ◌∷◌, ◌++◌, length, take, drop}
use Rattle.std.proofs.Common.{Option, Some, None, sym, refl, ap, ◌∙◌, subst, arith, All}
use Rattle.std.specs.Prelude.{◌==◌, nat_lt, position}
use Rattle.std.specs.List.{slice_split, position_or_len}
use Rattle.std.specs.Str.Lines.{lines, lines_of_parts, strip_carriage_return}
use Rattle.std.proofs.lemmas.Bool.{cond-false}
use Rattle.std.proofs.lemmas.Bool.Decides.{nat_tests}
use Rattle.std.proofs.lemmas.List.{append-nil, length-drop, nil_from_length, take_rest}
use Rattle.std.proofs.lemmas.List.Elements.{All-from_get_or}
use Rattle.std.proofs.lemmas.List.Sums.{fails_before_first}
use Rattle.std.proofs.lemmas.List.Splits.{slice_split_first, slice_split_none, length-slice_split}

abbrev pub is_line_feed : ℕ → Bool
is_line_feed b = b == 10

-- what `position` says
pub found : (t : Bool) (n i : ℕ) → cond t (Some n) None ≡ Some i → (t ≡ true) × (n ≡ i)
found true n i e = (refl, cc)
found false n i e = absurd (none_some None i refl e)
  where
    none_some : (o : Option ℕ) (i : ℕ) → o ≡ None → o ≡ Some i → ⊥
    none_some o i e f = cc

pub missed : (t : Bool) (n : ℕ) → cond t (Some n) None ≡ None → t ≡ false
missed true n e = absurd (some_none n e)
  where
    some_none : (n : ℕ) → Some n ≡ None → ⊥
    some_none n e = cc
missed false n e = refl

-- a part with others behind it is a line
parts_more : (x : List ℕ) (parts : List (List ℕ)) → 0 < length parts
    → lines_of_parts (x ∷ parts) ≡ strip_carriage_return x ∷ lines_of_parts parts
parts_more x [] h = absurd (omega (arith, h))
parts_more x (y ∷ parts) h = refl

pub some_parts : (text : List ℕ) → 0 < length (slice_split is_line_feed text)
some_parts text = omega (arith, length-slice_split is_line_feed text)

-- a line that a line feed ends
pub cut_some : (text line : List ℕ) (i : ℕ) → position is_line_feed text ≡ Some i
    → line ≡ strip_carriage_return (take i text)
    → (lines text ≡ line ∷ lines (take (length text - (i + 1)) (drop (i + 1) text)))
    × (length (take (length text - (i + 1)) (drop (i + 1) text)) < length text)
cut_some text line i e is =
    let f = found (nat_lt (position_or_len is_line_feed text) (length text)) (position_or_len is_line_feed text) i e in
    let below : position_or_len is_line_feed text < length text = grind (arith, nat_tests) in
    let within : i < length text = subst (λ n. n < length text) f.1 below in
    let split : slice_split is_line_feed text ≡ take i text ∷ slice_split is_line_feed (drop (i + 1) text) =
    subst (λ n. slice_split is_line_feed text ≡ take n text ∷ slice_split is_line_feed (drop (n + 1) text)) f.1
    (slice_split_first is_line_feed text 0 below) in
    let more = parts_more (take i text) _ (some_parts (drop (i + 1) text)) in
    let rest = take_rest text (i + 1) in (
      ap lines_of_parts split ∙ more ∙ ap (λ l. l ∷ lines (drop (i + 1) text)) (sym is)
          ∙ ap (λ left. line ∷ lines left) (sym rest),
      subst (λ left. length left < length text) (sym rest) (omega (arith, within, length-drop (i + 1) text)),
    )

-- a text without a line feed is one line, or none
pub cut_none : (text : List ℕ) → position is_line_feed text ≡ None
    → lines text ≡ cond (length text == 0) [] (text ∷ [])
cut_none text e =
    let m = missed (nat_lt (position_or_len is_line_feed text) (length text)) (position_or_len is_line_feed text) e in
    let none : All (λ x. is_line_feed x ≡ false) text = All-from_get_or (λ x. is_line_feed x ≡ false) text 0
    (λ k h. fails_before_first is_line_feed text k 0 (grind (arith, nat_tests))) in
    ap lines_of_parts (slice_split_none is_line_feed text none)

-- such a line that isn't empty, and nothing behind it
pub only_cut : (text front back : List ℕ) → position is_line_feed text ≡ None → (length text == 0) ≡ false
    → text ≡ front ++ back → length back + length text ≡ length text
    → (lines text ≡ front ∷ lines back) × (length back < length text)
only_cut text front back e some split rest =
    let long : 0 < length text = grind (arith, nat_tests) in
    let empty : back ≡ [] = nil_from_length back (omega (arith, rest)) in
    let whole : text ≡ front = split ∙ (ap (λ b. front ++ b) empty ∙ append-nil front) in (
      cut_none text e ∙ (cond-false (length text == 0) [] (text ∷ []) some
          ∙ (ap (λ t. t ∷ []) whole ∙ ap (λ b. front ∷ lines b) (sym empty))),
      omega (arith, long, ap length empty),
    )
