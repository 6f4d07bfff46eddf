use Rattle.std.proofs.Common.{◌≤◌, length, map}
use Rattle.response_heads.specs.Read.{field_text}
use Rattle.response_heads.proofs.HeadLemmas.{FieldsSoFar}
use Rattle.response_heads.proofs.head.read_fields.Given as goal

abbrev pub invariant-loop-line : goal.invariant-loop-line
invariant-loop-line l = record {
  reads : FieldsSoFar l.initial.lines.rest.now l.initial.lines.taken l.lines.rest.now l.lines.taken
      (map field_text l.fields.items);
  shorter : length l.lines.rest.now ≤ length l.initial.lines.rest.now;
}

abbrev pub decreases-loop-line : goal.decreases-loop-line
decreases-loop-line l = length l.lines.rest.now
