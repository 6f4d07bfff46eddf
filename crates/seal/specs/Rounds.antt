-- The first two rounds of AES (FIPS 197, 5.1), kept for all blocks that differ in their last byte alone: it stands in
-- row 3 of the last column, ShiftRows brings it to the first column, and the next one brings a byte of that to each.
use Rattle.std.specs.Prelude.{◌≡◌, ℕ, ◌^◌, ◌<◌, List, [], ◌∷◌, ◌++◌, bit_xor, slice_index}
use Rattle.seal.specs.Bytes.{xor_bytes}
use Rattle.seal.specs.Aes.{of_row_0, of_row_1, of_row_2, of_row_3, rounds}
use Rattle.seal.specs.Words.{bytes_of}
use Rattle.seal.specs.declared.aes.FirstRounds.{FirstRounds}

-- the first column after a round, where y is the last byte with the key's byte added
abbrev pub first_column : FirstRounds → ℕ → List ℕ
first_column kept y = xor_bytes (bytes_of kept.first) (of_row_3 y)

-- the state of these columns, to which the bytes of the first column of the round before are added
abbrev pub with_column : List ℕ → List ℕ → List ℕ
with_column columns s =
    xor_bytes (bytes_of (slice_index columns 0)) (of_row_0 (slice_index s 0))
    ++ xor_bytes (bytes_of (slice_index columns 1)) (of_row_3 (slice_index s 3))
    ++ xor_bytes (bytes_of (slice_index columns 2)) (of_row_2 (slice_index s 2))
    ++ xor_bytes (bytes_of (slice_index columns 3)) (of_row_1 (slice_index s 1))

-- the state after two rounds
abbrev pub after_two : FirstRounds → ℕ → List ℕ
after_two kept y = with_column kept.second (first_column kept y)

-- it is kept under the schedule w of the blocks that begin so
abbrev pub KeepsRounds : FirstRounds → List ℕ → List ℕ → Type 0
KeepsRounds kept w front =
    (b : ℕ) → b < 2 ^ 8 → after_two kept (bit_xor b (slice_index w 15)) ≡ rounds w (front ++ b ∷ []) 2
