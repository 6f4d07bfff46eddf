-- The pieces of an owned text that are left.
use Rattle.std.specs.Prelude.{ℕ, List, [], Option, Some, None, map, string_bytes}
use Rattle.std.specs.declared.collections.VecDeque.{VecDeque}
use Rattle.std.specs.declared.string.String.{String}

abbrev pub owned_left : {Y Z : Type 0} → Option (VecDeque (String Y) Z) → List (List ℕ)
owned_left None = []
owned_left (Some pieces) = map string_bytes pieces.items
