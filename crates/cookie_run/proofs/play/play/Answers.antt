use Rattle.std.proofs.Common.{false, [], ap, sym, subst, refl, ◌∙◌}
use Rattle.std.specs.List.{AllByRecursion}
use Rattle.cookie_run.specs.Acts.{act_of, acts_of}
use Rattle.cookie_run.specs.Readings.{MayRead, ActNeedsNoNonce}
use Rattle.jiff.specs.Words.{civil_nanos}
use Rattle.cookie_run.proofs.Runs.{act_at}
use Rattle.cookie_run.proofs.Ends.{follow_all, run_all, run_until, before_any, before_more, stops_from}
use Rattle.cookie_run.proofs.Ends.{run_by, run_until_by}
use Rattle.cookie_run.proofs.play.play.Goals as goal

pub loop-i-init : goal.loop-i-init
loop-i-init g c = record {
  before = record {
    drawn = [];
    fills = refl;
    told = [];
    read = c.new-readings.ensures.items;
    ran = (ap (λ s. s.rows) c.new-client.ensures, refl);
    moments = tt;
    last = c.beginning-last.ensures;
  };
  list = ap (λ s. s.suffixes) c.new-client.ensures;
  failed = subst (AllByRecursion (MayRead g.row.R-Error.Denot)) (sym c.new-readings.ensures.items) tt;
  unasked = λ h. refl;
}

pub returns-in-Err-clause-run_until : goal.returns-in-Err-clause-run_until
returns-in-Err-clause-run_until g c =
    run_until c.args.list c.args.key.now c.args.steps.now c.loop-i.i c.index-steps-i.result c.loop-i.client.rows
    c.loop-i.readings.items
    c.act.new.readings.items (civil_nanos c.loop-i.last) c.in-Err.kind
    c.loop-i-test.true c.index-steps-i.is (before_any g.R.TryRng.may_fill g.row.R-Error.Denot c.args.rng.now
    c.loop-i.rng c.args.list c.args.key.now c.args.steps.now c.loop-i.i c.loop-i.client.rows c.loop-i.readings.items _
    c.loop-i.invariant.before)
    (stops_from c.in-Err.ensures.err.0 c.args.key.now c.loop-i.client.rows c.in-Err.kind (civil_nanos c.loop-i.last)
    (act_of c.index-steps-i.result) c.loop-i.readings.items c.act.new.readings.items c.in-Err.ensures.err.2)

pub returns-in-Err-clause-sites_until : goal.returns-in-Err-clause-sites_until
returns-in-Err-clause-sites_until g c =
    c.sites_read_their_own.ensures.until false c.args.list (acts_of c.args.steps.now) _ _ _
    (run_until c.args.list c.args.key.now c.args.steps.now c.loop-i.i c.index-steps-i.result c.loop-i.client.rows
    c.loop-i.readings.items c.act.new.readings.items (civil_nanos c.loop-i.last) c.in-Err.kind
    c.loop-i-test.true c.index-steps-i.is (before_any g.R.TryRng.may_fill g.row.R-Error.Denot c.args.rng.now
    c.loop-i.rng c.args.list c.args.key.now c.args.steps.now c.loop-i.i c.loop-i.client.rows c.loop-i.readings.items _
    c.loop-i.invariant.before)
    (stops_from c.in-Err.ensures.err.0 c.args.key.now c.loop-i.client.rows c.in-Err.kind (civil_nanos c.loop-i.last)
    (act_of c.index-steps-i.result) c.loop-i.readings.items c.act.new.readings.items c.in-Err.ensures.err.2))

pub returns-in-Err-clause-hosts_until : goal.returns-in-Err-clause-hosts_until
returns-in-Err-clause-hosts_until g c =
    c.hosts_read_their_own.ensures.until false c.args.list (acts_of c.args.steps.now) _ _ _
    (run_until c.args.list c.args.key.now c.args.steps.now c.loop-i.i c.index-steps-i.result c.loop-i.client.rows
    c.loop-i.readings.items c.act.new.readings.items (civil_nanos c.loop-i.last) c.in-Err.kind
    c.loop-i-test.true c.index-steps-i.is (before_any g.R.TryRng.may_fill g.row.R-Error.Denot c.args.rng.now
    c.loop-i.rng c.args.list c.args.key.now c.args.steps.now c.loop-i.i c.loop-i.client.rows c.loop-i.readings.items _
    c.loop-i.invariant.before)
    (stops_from c.in-Err.ensures.err.0 c.args.key.now c.loop-i.client.rows c.in-Err.kind (civil_nanos c.loop-i.last)
    (act_of c.index-steps-i.result) c.loop-i.readings.items c.act.new.readings.items c.in-Err.ensures.err.2))

pub loop-i-preserved : goal.loop-i-preserved
loop-i-preserved g c =
    record {
      before = before_more g.R.TryRng.may_fill g.row.R-Error.Denot c.args.rng.now c.loop-i.rng c.act.new.rng c.args.list
          c.args.key.now c.args.steps.now c.loop-i.i c.index-steps-i.result c.loop-i.client.rows c.act.new.client.rows
          c.loop-i.readings.items c.act.new.readings.items (civil_nanos c.loop-i.last) (civil_nanos c.act.new.last)
          c.loop-i-test.true c.index-steps-i.is c.loop-i.invariant.before c.loop-i.client.suffixes
          c.loop-i.invariant.list c.in_default.ensures.step c.in_default.ensures.moments;
      list = c.in_default.ensures.list ∙ c.loop-i.invariant.list;
      failed = c.act.ensures.failed c.loop-i.invariant.failed;
      unasked = λ all. c.act.ensures.unasked (act_at ActNeedsNoNonce c.args.steps.now c.loop-i.i c.index-steps-i.result
          c.loop-i-test.true c.index-steps-i.is all)
          ∙ c.loop-i.invariant.unasked all;
    }

pub returns-clause-run : goal.returns-clause-run
returns-clause-run g c = run_all c.args.list c.args.key.now c.args.steps.now c.loop-i.i c.loop-i.client.rows
    c.loop-i.readings.items _ c.loop-i-test.false (before_any g.R.TryRng.may_fill g.row.R-Error.Denot c.args.rng.now
    c.loop-i.rng c.args.list c.args.key.now c.args.steps.now c.loop-i.i c.loop-i.client.rows c.loop-i.readings.items _
    c.loop-i.invariant.before)

pub returns-clause-moments : goal.returns-clause-moments
returns-clause-moments g c = follow_all c.args.list c.args.key.now c.args.steps.now c.loop-i.i c.loop-i.client.rows
    c.loop-i.readings.items _ c.loop-i-test.false (before_any g.R.TryRng.may_fill g.row.R-Error.Denot c.args.rng.now
    c.loop-i.rng c.args.list c.args.key.now c.args.steps.now c.loop-i.i c.loop-i.client.rows c.loop-i.readings.items _
    c.loop-i.invariant.before)

pub returns-clause-sites : goal.returns-clause-sites
returns-clause-sites g c =
    c.sites_read_their_own.ensures.whole false c.args.list (acts_of c.args.steps.now) _
    (follow_all c.args.list c.args.key.now c.args.steps.now c.loop-i.i c.loop-i.client.rows
    c.loop-i.readings.items _ c.loop-i-test.false (before_any g.R.TryRng.may_fill g.row.R-Error.Denot c.args.rng.now
    c.loop-i.rng c.args.list c.args.key.now c.args.steps.now c.loop-i.i c.loop-i.client.rows c.loop-i.readings.items _
    c.loop-i.invariant.before))
    (run_all c.args.list c.args.key.now c.args.steps.now c.loop-i.i c.loop-i.client.rows
    c.loop-i.readings.items _ c.loop-i-test.false (before_any g.R.TryRng.may_fill g.row.R-Error.Denot c.args.rng.now
    c.loop-i.rng c.args.list c.args.key.now c.args.steps.now c.loop-i.i c.loop-i.client.rows c.loop-i.readings.items _
    c.loop-i.invariant.before))

pub returns-clause-hosts : goal.returns-clause-hosts
returns-clause-hosts g c =
    c.hosts_read_their_own.ensures.whole false c.args.list (acts_of c.args.steps.now) _
    (follow_all c.args.list c.args.key.now c.args.steps.now c.loop-i.i c.loop-i.client.rows
    c.loop-i.readings.items _ c.loop-i-test.false (before_any g.R.TryRng.may_fill g.row.R-Error.Denot c.args.rng.now
    c.loop-i.rng c.args.list c.args.key.now c.args.steps.now c.loop-i.i c.loop-i.client.rows c.loop-i.readings.items _
    c.loop-i.invariant.before))
    (run_all c.args.list c.args.key.now c.args.steps.now c.loop-i.i c.loop-i.client.rows
    c.loop-i.readings.items _ c.loop-i-test.false (before_any g.R.TryRng.may_fill g.row.R-Error.Denot c.args.rng.now
    c.loop-i.rng c.args.list c.args.key.now c.args.steps.now c.loop-i.i c.loop-i.client.rows c.loop-i.readings.items _
    c.loop-i.invariant.before))

pub returns-in-Err-clause-unasked : goal.returns-in-Err-clause-unasked
returns-in-Err-clause-unasked g c =
    λ all. c.act.ensures.unasked (act_at ActNeedsNoNonce c.args.steps.now c.loop-i.i c.index-steps-i.result
    c.loop-i-test.true c.index-steps-i.is all)
    ∙ c.loop-i.invariant.unasked all

pub returns-clause-strangers : goal.returns-clause-strangers
returns-clause-strangers g c =
    c.strangers_dont_show.ensures.whole false c.args.list c.args.key.now (acts_of c.args.steps.now) _
    (run_all c.args.list c.args.key.now c.args.steps.now c.loop-i.i c.loop-i.client.rows
    c.loop-i.readings.items _ c.loop-i-test.false (before_any g.R.TryRng.may_fill g.row.R-Error.Denot c.args.rng.now
    c.loop-i.rng c.args.list c.args.key.now c.args.steps.now c.loop-i.i c.loop-i.client.rows c.loop-i.readings.items _
    c.loop-i.invariant.before))

pub returns-in-Err-clause-strangers_until : goal.returns-in-Err-clause-strangers_until
returns-in-Err-clause-strangers_until g c =
    c.strangers_dont_show.ensures.until false c.args.list c.args.key.now (acts_of c.args.steps.now) _ _ _
    (run_until c.args.list c.args.key.now c.args.steps.now c.loop-i.i c.index-steps-i.result c.loop-i.client.rows
    c.loop-i.readings.items c.act.new.readings.items (civil_nanos c.loop-i.last) c.in-Err.kind
    c.loop-i-test.true c.index-steps-i.is (before_any g.R.TryRng.may_fill g.row.R-Error.Denot c.args.rng.now
    c.loop-i.rng c.args.list c.args.key.now c.args.steps.now c.loop-i.i c.loop-i.client.rows c.loop-i.readings.items _
    c.loop-i.invariant.before)
    (stops_from c.in-Err.ensures.err.0 c.args.key.now c.loop-i.client.rows c.in-Err.kind (civil_nanos c.loop-i.last)
    (act_of c.index-steps-i.result) c.loop-i.readings.items c.act.new.readings.items c.in-Err.ensures.err.2))

pub returns-clause-draws : goal.returns-clause-draws
returns-clause-draws g c = run_by g.R.TryRng.may_fill g.row.R-Error.Denot c.args.rng.now c.loop-i.rng c.args.list
    c.args.key.now c.args.steps.now c.loop-i.i c.loop-i.client.rows c.loop-i.readings.items _ c.loop-i-test.false
    c.loop-i.invariant.before

pub returns-in-Err-clause-draws_until : goal.returns-in-Err-clause-draws_until
returns-in-Err-clause-draws_until g c = run_until_by g.R.TryRng.may_fill g.row.R-Error.Denot c.args.rng.now c.loop-i.rng
    c.act.new.rng c.args.list c.args.key.now c.args.steps.now c.loop-i.i c.index-steps-i.result c.loop-i.client.rows
    c.loop-i.readings.items c.act.new.readings.items (civil_nanos c.loop-i.last) c.in-Err.kind c.loop-i-test.true
    c.index-steps-i.is c.loop-i.invariant.before c.in-Err.ensures.err
