use Rattle.std.proofs.Common.{◌≤◌, ◌+◌, length, map}
use Rattle.cookies_txt.specs.Entries.{entry_text, without_mark}
use Rattle.cookies_txt.proofs.EntryLemmas.{EntersUpTo}
use Rattle.cookies_txt.proofs.entries.read_entries.Given as goal

abbrev pub invariant-loop-line : goal.invariant-loop-line
invariant-loop-line l = record {
  gives : EntersUpTo (without_mark l.text) l.rest l.number (map entry_text l.entries.items);
  room : l.number + length l.rest ≤ length l.initial.rest;
}

abbrev pub decreases-loop-line : goal.decreases-loop-line
decreases-loop-line l = length l.rest
