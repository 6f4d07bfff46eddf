use Rattle.std.proofs.Common.{◌≡◌, take}
use Rattle.std.specs.Prelude.{map}
use Rattle.jiff.specs.Words.{civil_nanos}
use Rattle.response_heads.specs.Visits.{visit_text}
use Rattle.jar_commands.specs.Receiving.{TakesVisits}
use Rattle.jar_commands.proofs.receiving.receive_visits.Given as goal

abbrev pub invariant-loop-visit : goal.invariant-loop-visit
invariant-loop-visit l = record {
  takes : TakesVisits l.plan.form l.plan.rules l.start l.fn.jar.suffixes l.fn.jar.rows (civil_nanos l.plan.at)
      (take l.visit-index (map visit_text l.visits)) l.received.is_any_refused l.jar.rows;
  list : l.jar.suffixes ≡ l.fn.jar.suffixes;
}
