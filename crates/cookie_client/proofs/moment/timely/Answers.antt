use Rattle.std.proofs.Common.{arith}
use Rattle.jiff.proofs.SpanFacts.{signed_arith}
use Rattle.cookie_client.proofs.MomentText.{late_enough}
use Rattle.cookie_client.proofs.moment.timely.Goals as goal

pub invariant_of-result : goal.invariant_of-result
invariant_of-result c = record {
  from = late_enough c.in_ok-date.date
      (omega (arith, signed_arith, c.if-year-lt1971.false, c.year.ensures));
}
