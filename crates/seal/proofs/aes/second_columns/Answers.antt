use Rattle.std.proofs.Common.{◌≡◌, ℕ, List, get_or, ap, sym, ◌∙◌, arith}
use Rattle.seal.specs.Bytes.{xor_bytes}
use Rattle.seal.specs.Words.{bytes_of}
use Rattle.seal.specs.Aes.{mixed_column, sub_bytes, shift_rows, mix_columns}
use Rattle.seal.proofs.WordLemmas.{le_is, listed, four, round_of, round_key_words}
use Rattle.seal.proofs.aes.second_columns.Goals as goal

pub returns : goal.returns
unfolding xor_bytes
returns c a =
    let w : List ℕ = c.args.w.now in
    let A : List ℕ = bytes_of a in
    let B : List ℕ = c.to_le_bytes.result in
    let C : List ℕ = c.to_le_bytes-2.result in
    let D : List ℕ = c.to_le_bytes-3.result in
    let hB : B ≡ bytes_of c.args.b = c.to_le_bytes.ensures ∙ le_is c.args.b in
    let hC : C ≡ bytes_of c.args.c = c.to_le_bytes-2.ensures ∙ le_is c.args.c in
    let hD : D ≡ bytes_of c.args.d = c.to_le_bytes-3.ensures ∙ le_is c.args.d in
    round_of (get_or A 0 0) (get_or A 1 0) (get_or A 2 0) (get_or A 3 0) (get_or B 0 0) (get_or B 1 0) (get_or B 2 0)
    (get_or B 3 0) (get_or C 0 0) (get_or C 1 0) (get_or C 2 0) (get_or C 3 0) (get_or D 0 0) (get_or D 1 0)
    (get_or D 2 0) (get_or D 3 0) 8 w _ _ _ _
    (c.but_row_0.ensures (get_or A 0 0) (omega arith) ∙ ap (xor_bytes (mixed_column _ _ _ _)) c.word.ensures)
    (c.but_row_3.ensures (get_or A 3 0) (omega arith) ∙ ap (xor_bytes (mixed_column _ _ _ _)) c.word-2.ensures)
    (c.but_row_2.ensures (get_or A 2 0) (omega arith) ∙ ap (xor_bytes (mixed_column _ _ _ _)) c.word-3.ensures)
    (c.but_row_1.ensures (get_or A 1 0) (omega arith) ∙ ap (xor_bytes (mixed_column _ _ _ _)) c.word-4.ensures)
    ∙ (λ i. xor_bytes
    (mix_columns (shift_rows (sub_bytes (four A (listed (hB i)) (listed (hC i)) (listed (hD i))))))
    (sym (round_key_words w 2 (omega arith) (omega arith)) i))
