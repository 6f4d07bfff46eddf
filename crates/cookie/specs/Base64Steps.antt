-- Words that private contracts alone cite: the steps of base64 (RFC 4648, section 4).
use Rattle.std.specs.Prelude.{ℕ, ◌+◌, ◌*◌, ◌/◌, ◌%◌, if◌then◌else◌, List, [], ◌∷◌, ltb, slice_index}
use Rattle.base64.specs.Engines.{standard}

-- the 6-bit groups of each three bytes
unfoldable pub sextets : List ℕ → List ℕ
sextets (a ∷ b ∷ c ∷ rest) = (a / 4) ∷ (a % 4 * 16 + b / 16) ∷ (b % 16 * 4 + c / 64) ∷ (c % 64) ∷ sextets rest
sextets (a ∷ b ∷ []) = []
sextets (a ∷ []) = []
sextets [] = []

-- the symbol of a 6-bit group, in the standard alphabet
abbrev pub symbol : ℕ → ℕ
symbol n = slice_index standard.encode_table n

-- eight ones where a 6-bit group is over the last one, else eight zeros
abbrev pub over : ℕ → ℕ → ℕ
over last n = if ltb last n then 255 else 0
