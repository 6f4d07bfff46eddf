-- Bytes of a string that stand in JSON as they are (RFC 8259, section 7).
use Rattle.std.specs.Prelude.{◌≡◌, ℕ, List, [], ◌∷◌}
use Rattle.std.specs.List.{AllByRecursion}
use Rattle.json.specs.Print.{escape_byte}

abbrev pub AreUnescaped : List ℕ → Type 0
AreUnescaped bytes = AllByRecursion (λ b. escape_byte b ≡ b ∷ []) bytes
