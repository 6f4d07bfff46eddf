use Rattle.std.proofs.Common.{◌≡◌, ◌++◌, take, map}
use Rattle.std.specs.Prelude.{string_bytes}
use Rattle.std.specs.List.{flat_map}
use Rattle.fonnalich_c.specs.Items.{item}
use Rattle.fonnalich_c.proofs.exchange.push_lines.Given as goal

abbrev pub invariant-loop-line : goal.invariant-loop-line
invariant-loop-line l = l.answer.items
    ≡ l.fn.answer.items ++ flat_map item (map string_bytes (take l.line-index l.lines))
