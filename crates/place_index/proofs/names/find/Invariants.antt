use Rattle.std.proofs.Common.{◌≡◌, false, take}
use Rattle.std.specs.Prelude.{All, string_bytes}
use Rattle.std.specs.Str.{bytes_eq}
use Rattle.place_index.proofs.names.find.Given as goal

-- none of those before is it
abbrev pub invariant-loop-i : goal.invariant-loop-i
invariant-loop-i l = All (λ t. bytes_eq l.name (string_bytes t) ≡ false) (take l.i l.texts)
