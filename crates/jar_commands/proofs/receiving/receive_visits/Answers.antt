use Rattle.std.proofs.Common.{rules, subst, ◌≡◌, ◌||◌, ◌∷◌, [], Bool}
use Rattle.jiff.specs.Words.{civil_nanos}
use Rattle.response_heads.specs.Visits.{visit_text}
use Rattle.jar_commands.specs.Receiving.{TakesVisits}
use Rattle.jar_commands.proofs.VisitLemmas.{takes_next}
use Rattle.jar_commands.proofs.receiving.receive_visits.Goals as goal

pub loop-visit-preserved : goal.loop-visit-preserved
loop-visit-preserved c =
    let form = c.args.plan.now.form in
    let rules_on = c.args.plan.now.rules in
    let now = civil_nanos c.args.plan.now.at in
    record {
      takes = takes_next visit_text form rules_on c.args.start.now c.args.jar.now.suffixes
          c.loop-visit.jar.suffixes c.args.jar.now.rows c.loop-visit.jar.rows c.receive_visit.new.jar.rows now
          c.args.visits.now c.loop-visit.visit-index c.visit-item.result
          c.loop-visit.received.is_any_refused c.receive_visit.new.received.is_any_refused c.loop-visit-test.true
          c.loop-visit.invariant.takes c.loop-visit.invariant.list
          (subst (λ visit. (more : Bool) × TakesVisits form rules_on c.args.start.now c.loop-visit.jar.suffixes
          c.loop-visit.jar.rows now (visit_text visit ∷ []) more c.receive_visit.new.jar.rows
          × (c.receive_visit.new.received.is_any_refused ≡ (c.loop-visit.received.is_any_refused || more)))
          c.visit-item.is c.in_ok-receive_visit.ensures.ok);
      list = search rules;
    }
