use Rattle.std.proofs.Common.{◌≡◌, ◌+◌, ◌++◌, length, map}
use Rattle.response_heads.specs.Read.{field_text, located, location_text}
use Rattle.response_heads.proofs.head.Head.locations.Given as goal

-- what was found, and what is left to be looked at
abbrev pub invariant-loop-left : goal.invariant-loop-left
invariant-loop-left l = record {
  found : map location_text l.found.items ++ located l.line (map field_text l.left)
      ≡ located (l.self.number + 1) (map field_text l.self.fields.items);
  counted : l.line + length l.left ≡ l.self.number + 1 + length l.self.fields.items;
}

abbrev pub decreases-loop-left : goal.decreases-loop-left
decreases-loop-left l = length l.left
