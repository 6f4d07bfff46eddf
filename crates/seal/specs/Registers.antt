-- A look-up within a register of 16 bytes.
use Rattle.std.specs.Prelude.{ℕ, List, if◌then◌else◌, nat_le, slice_index, bit_and}

-- the entry at the low four bits of a place, and 0 where its top bit is set
abbrev pub looked_up : List ℕ → ℕ → ℕ
looked_up table place = if nat_le 128 (bit_and place 0x8F) then 0 else slice_index table (bit_and place 0x8F)
