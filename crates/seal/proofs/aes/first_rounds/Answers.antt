use Rattle.std.proofs.Common.{◌≡◌, ℕ, ◌<◌, ◌^◌, List, [], ◌∷◌, ◌++◌, get_or, take, refl, ap}
use Rattle.std.proofs.Common.{sym, ◌∙◌, arith, bit_xor}
use Rattle.std.proofs.lemmas.Nat.{xor_lt}
use Rattle.seal.specs.Bytes.{xor_bytes}
use Rattle.seal.specs.Words.{bytes_of}
use Rattle.seal.specs.Aes.{of_row_3, mixed_column, sub_bytes, shift_rows, mix_columns, round_key, rounds}
use Rattle.seal.specs.Rounds.{with_column}
use Rattle.seal.specs.declared.tables.TheConstants.{ROWS}
use Rattle.seal.proofs.TableFacts.{row_3_is}
use Rattle.seal.proofs.RoundLemmas.{last_byte, added_later}
use Rattle.seal.proofs.WordLemmas.{le_is, listed, four, round_of, round_key_words}
use Rattle.seal.proofs.aes.first_rounds.Goals as goal

none : (w block : List ℕ) → xor_bytes block (round_key w 0) ≡ rounds w block 0
unfolding rounds
none w block = refl

one : (w block : List ℕ)
    → xor_bytes (mix_columns (shift_rows (sub_bytes (rounds w block 0)))) (round_key w 1) ≡ rounds w block 1
unfolding rounds
one w block = refl

two : (w block : List ℕ)
    → xor_bytes (mix_columns (shift_rows (sub_bytes (rounds w block 1)))) (round_key w 2) ≡ rounds w block 2
unfolding rounds
two w block = refl

pub returns : goal.returns
unfolding xor_bytes
returns c b within =
    let w : List ℕ = c.args.w.now in
    let s : List ℕ = c.first_state-s.result in
    let block : List ℕ = take 15 c.args.block.now ++ b ∷ [] in
    let y : ℕ = bit_xor b (get_or w 15 0) in
    let small : y < 2 ^ 8 = xor_lt 8 b (get_or w 15 0) within (c.fits-w 15) in
    let A : List ℕ = c.to_le_bytes.result in
    let B : List ℕ = c.to_le_bytes-2.result in
    let C : List ℕ = c.to_le_bytes-3.result in
    let D : List ℕ = c.to_le_bytes-4.result in
    let hA : A ≡ bytes_of (get_or s 0 0) = c.to_le_bytes.ensures ∙ le_is _ in
    let hB : B ≡ bytes_of (get_or s 1 0) = c.to_le_bytes-2.ensures ∙ le_is _ in
    let hC : C ≡ bytes_of (get_or s 2 0) = c.to_le_bytes-3.ensures ∙ le_is _ in
    let hD : D ≡ bytes_of (get_or s 3 0) = c.to_le_bytes-4.ensures ∙ le_is _ in
    let last : List ℕ → List ℕ = λ (l : List ℕ). get_or l 0 0 ∷ get_or l 1 0 ∷ get_or l 2 0 ∷ y ∷ [] in
    let begun : four (listed A) (listed B) (listed C) (last D) ≡ rounds w block 0 =
    (λ i. four (listed (hA i)) (listed (hB i)) (listed (hC i)) (last (hD i)))
    ∙ last_byte s c.args.block.now w b (omega arith) (omega arith) c.first_state-s.ensures ∙ none w block in
    let u : ℕ = get_or (get_or ROWS 3 []) y 0 in
    let a : ℕ = bit_xor c.but_row_3-first.result u in
    let column : xor_bytes (bytes_of c.but_row_3-first.result) (of_row_3 y) ≡ bytes_of a =
    added_later c.but_row_3-first.result u a _ (row_3_is y small) refl in
    let round_1 : four (bytes_of a) (bytes_of c.column-b.result) (bytes_of c.column-c.result)
    (bytes_of c.column-d.result)
    ≡ rounds w block 1 =
    ap (λ (q : List ℕ). four q (bytes_of c.column-b.result) (bytes_of c.column-c.result) (bytes_of c.column-d.result))
    (sym column)
    ∙ round_of (get_or A 0 0) (get_or A 1 0) (get_or A 2 0) (get_or A 3 0) (get_or B 0 0) (get_or B 1 0) (get_or B 2 0)
    (get_or B 3 0) (get_or C 0 0) (get_or C 1 0) (get_or C 2 0) (get_or C 3 0) (get_or D 0 0) (get_or D 1 0)
    (get_or D 2 0) y 4 w _ _ _ _
    (c.but_row_3-first.ensures y small ∙ ap (xor_bytes (mixed_column _ _ _ _)) c.word.ensures)
    (c.column-b.ensures ∙ ap (xor_bytes (mixed_column _ _ _ _)) c.word-2.ensures)
    (c.column-c.ensures ∙ ap (xor_bytes (mixed_column _ _ _ _)) c.word-3.ensures)
    (c.column-d.ensures ∙ ap (xor_bytes (mixed_column _ _ _ _)) c.word-4.ensures)
    ∙ (λ i. xor_bytes (mix_columns (shift_rows (sub_bytes (begun i))))
    (sym (round_key_words w 1 (omega arith) (omega arith)) i))
    ∙ one w block in
    ap (with_column c.second_columns.result) column ∙ c.second_columns.ensures a
    ∙ ap (λ (q : List ℕ). xor_bytes (mix_columns (shift_rows (sub_bytes q))) (round_key w 2)) round_1
    ∙ two w block
