use Rattle.std.specs.Prelude.{◌↔◌}
use Rattle.jiff.specs.Words.{civil_nanos}
use Rattle.user_agent.specs.Refusals.{HasOne, IsOverlaid}
use Rattle.user_agent.proofs.judging.overlies_one.Given as goal

abbrev pub invariant-loop-row : goal.invariant-loop-row
invariant-loop-row l =
    HasOne (IsOverlaid l.name l.domain l.path (civil_nanos l.now)) l.store.rows
    ↔ HasOne (IsOverlaid l.name l.domain l.path (civil_nanos l.now)) l.row-iterator
