use Rattle.std.proofs.Common.{◌≡◌, ℕ, List, get_or, ap, ◌∙◌}
use Rattle.seal.specs.Bytes.{xor_bytes}
use Rattle.seal.specs.Words.{bytes_of}
use Rattle.seal.specs.Rounds.{first_column, with_column}
use Rattle.seal.proofs.WordLemmas.{le_is, bytes_of_xor, four}
use Rattle.seal.proofs.aes.after_two.Goals as goal

pub returns : goal.returns
unfolding xor_bytes
returns c =
    let second : List ℕ = c.args.kept.now.second in
    let A : List ℕ = c.to_le_bytes.result in
    let column : A ≡ first_column c.args.kept.now c.args.last =
    c.to_le_bytes.ensures ∙ le_is _ ∙ bytes_of_xor c.args.kept.now.first c.row_3.result
    ∙ ap (xor_bytes (bytes_of c.args.kept.now.first)) c.row_3.ensures in
    (λ i. four (bytes_of_xor (get_or second 0 0) c.row_0.result i) (bytes_of_xor (get_or second 1 0) c.row_3-2.result i)
    (bytes_of_xor (get_or second 2 0) c.row_2.result i) (bytes_of_xor (get_or second 3 0) c.row_1.result i))
    ∙ (λ i. four (xor_bytes (bytes_of (get_or second 0 0)) (c.row_0.ensures i))
    (xor_bytes (bytes_of (get_or second 1 0)) (c.row_3-2.ensures i))
    (xor_bytes (bytes_of (get_or second 2 0)) (c.row_2.ensures i))
    (xor_bytes (bytes_of (get_or second 3 0)) (c.row_1.ensures i)))
    ∙ ap (with_column second) column
