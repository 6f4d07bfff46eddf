use denote.Shadow.{shadow}
use denote.Text.{Utf8}
use Rattle.std.proofs.Common.{◌≡◌, ◌++◌, ◌∷◌, [], length, string_bytes, flat_map}
use Rattle.saved_text.specs.Written.{written_byte}
use Rattle.saved_text.proofs.ron_write.push_quoted.Given as goal

abbrev pub invariant-loop-b : goal.invariant-loop-b
invariant-loop-b l = shadow (Utf8 l.rest)
    × (string_bytes l.out ++ flat_map written_byte l.rest ≡ (string_bytes l.fn.out ++ 34 ∷ []) ++ flat_map written_byte
    l.fn.text)

abbrev pub decreases-loop-b : goal.decreases-loop-b
decreases-loop-b l = length l.rest
