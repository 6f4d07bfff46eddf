-- Texts in an answer, each behind its length (own: docs/DEFINITIONS.md).
use Rattle.std.specs.Prelude.{ℕ, ◌-◌, ◌^◌, ◌++◌, List, length, Option, Some, None}
use Rattle.std.specs.Int.{to_le_bytes, w64}

-- eight bytes, the lowest first, and the text
abbrev pub item : List ℕ → List ℕ
item text = to_le_bytes w64 (length text) ++ text

-- the item of a value, or eight bytes 255 where there is none
abbrev pub reading_text : Option (List ℕ) → List ℕ
reading_text None = to_le_bytes w64 (2 ^ 64 - 1)
reading_text (Some value) = item value

-- the item of a value and that of the place of its key, in eight bytes, the lowest first; where there is no value, of
-- neither
abbrev pub placed_text : Option (List ℕ × ℕ) → List ℕ
placed_text None = reading_text None ++ reading_text None
placed_text (Some read) = item read.0 ++ item (to_le_bytes w64 read.1)
