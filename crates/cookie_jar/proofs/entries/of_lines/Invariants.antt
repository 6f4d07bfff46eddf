use Rattle.std.specs.Prelude.{◌≡◌, map}
use Rattle.cookies_txt.specs.Entries.{entry_text as line_text}
use Rattle.cookie_jar.specs.Entries.{entry_row, line_row}
use Rattle.cookie_jar.proofs.entries.of_lines.Given as goal

abbrev pub invariant-loop-line : goal.invariant-loop-line
invariant-loop-line l = map entry_row l.entries.items ≡ map line_row (map line_text l.yielded)
