use Rattle.std.proofs.Common.{◌≡◌, ◌+◌, ◌++◌, [], ap, refl, subst, sym, ◌∙◌, arith}
use Rattle.std.specs.Prelude.{string_bytes, OnOk}
use Rattle.std.specs.Str.Lines.{lines}
use Rattle.std.specs.Io.KnownBytes.{Appends}
use Rattle.std.proofs.KnownBytes.{Appends-kept}
use Rattle.jiff.specs.Words.{civil_nanos}
use Rattle.devices.specs.Device.{one_more}
use Rattle.cookie_run.specs.ScriptText.{after_line, fault_text}
use Rattle.cookie_run.specs.Standing.{Goes, Halts}
use Rattle.cookie_run.specs.declared.script.ended.Ended.TheVariants.{Faulty}
use Rattle.cookie_run.proofs.DrawnRuns.{fills_more}
use Rattle.cookie_run.proofs.ScriptRun.{Come, Ends, come_first, come_more, come_whole, come_fault, for_one, fails_any}
use Rattle.cookie_run.proofs.ScriptRun.{leaves_now, leaves_more, leaves_fault, up_to_any}
use Rattle.cookie_run.proofs.ScriptRun.{script_whole, script_cut, script_more, script_fault}
use Rattle.std.proofs.lemmas.List.{nil_from_length}
use Rattle.std.proofs.lemmas.Bool.Decides.{nat_tests}
use Rattle.cookie_run.proofs.script.run.play_text.Goals as goal

pub loop-rest-init : goal.loop-rest-init
loop-rest-init g c =
    let list = c.args.client.now.suffixes in
    let rows = c.args.client.now.rows in
    let first = civil_nanos c.args.last.now in
    let text = c.args.text.now in
    let written = g.W.Sink.written c.args.writer.now in
    record {
      come = (
        [],
        refl,
        subst (λ visit. Come [] list c.args.ring.now rows first text text c.args.ring.now rows first visit 0 written
            written)
            (sym c.requires) (come_first list c.args.ring.now rows first text written),
      );
      failures = refl;
      flushes = refl;
      list = refl;
      room = omega arith;
    }

pub returns-in-Err-clause-flushed : goal.returns-in-Err-clause-flushed
returns-in-Err-clause-flushed g c = subst (λ n. OnOk c.stop_at.result
    (g.W.Sink.flushes c.stop_at.new.writer ≡ one_more n)) c.loop-rest.invariant.flushes c.stop_at.ensures.flushed

pub returns-in-Err-clause-text : goal.returns-in-Err-clause-text
returns-in-Err-clause-text g c =
    let list = c.args.client.now.suffixes in
    let origin = c.args.ring.now in
    let start = c.args.client.now.rows in
    let first = civil_nanos c.args.last.now in
    let text = c.args.text.now in
    let old = g.W.Sink.written c.args.writer.now in
    let mid = g.W.Sink.written c.loop-rest.writer in
    let drawn = c.loop-rest.invariant.come.0 in
    let come = c.loop-rest.invariant.come.2 in
    let line = c.cut_line.result.0.now in
    let more = c.cut_line.result.1.now in
    let new = g.W.Sink.written c.stop_at.new.writer in
    let done = c.loop-rest.done in
    let last = civil_nanos c.follow.new.last in
    let halts = subst (λ l. Halts c.in-Err.ensures.err.0 l (λ r. after_line r line) c.loop-rest.ring
    c.loop-rest.client.rows
    (civil_nanos c.loop-rest.last) c.loop-rest.visit c.in-Err.cause c.follow.new.client.rows)
    c.loop-rest.invariant.list c.in-Err.ensures.err.2 in
    let said = halts origin start come.r come.output drawn come.stands in
    let fails = fails_any g.G.TryRng.may_fill g.row.G-Error.Denot c.loop-rest.rng c.follow.new.rng drawn
    c.in-Err.ensures.err.0 list origin start come.r (after_line come.r line) c.in-Err.cause come.output
    c.follow.new.client.rows c.in-Err.ensures.err.1 said in
    for_one c.stop_at.result (Ends g.row.G-Error.Denot list origin start first text old new c.follow.new.client.rows
    last)
    (Appends mid new (fault_text (done + 1) c.in-Err.cause)) (Faulty (done + 1)) c.stop_at.ensures.text
    c.stop_at.ensures.ended (λ written. come_fault drawn g.row.G-Error.Denot list origin start first text
    c.loop-rest.rest.now line more c.loop-rest.ring c.loop-rest.client.rows c.follow.new.client.rows (civil_nanos
    c.loop-rest.last) last
    c.loop-rest.visit done old mid new c.in-Err.cause come c.cut_line.ensures.line fails c.in-Err.ensures.asks
    (ap civil_nanos c.in-Err.ensures.last) written)

pub loop-rest-preserved : goal.loop-rest-preserved
loop-rest-preserved g c =
    let list = c.args.client.now.suffixes in
    let origin = c.args.ring.now in
    let start = c.args.client.now.rows in
    let first = civil_nanos c.args.last.now in
    let text = c.args.text.now in
    let old = g.W.Sink.written c.args.writer.now in
    let mid = g.W.Sink.written c.loop-rest.writer in
    let drawn = c.loop-rest.invariant.come.0 in
    let come = c.loop-rest.invariant.come.2 in
    let line = c.cut_line.result.0.now in
    let more = c.cut_line.result.1.now in
    let new = g.W.Sink.written c.write_all.new.writer in
    let printed = string_bytes c.in-Ok.printed in
    let leads_on = subst (λ l. Goes c.in-Ok.ensures.ok.0 l (λ r. after_line r line) c.loop-rest.ring
    c.loop-rest.client.rows
    (civil_nanos c.loop-rest.last) c.loop-rest.visit c.follow.new.ring c.follow.new.client.rows (civil_nanos
    c.follow.new.last)
    c.follow.new.visit printed) c.loop-rest.invariant.list c.in-Ok.ensures.ok.2 in
    let goes = leads_on origin start come.r come.output drawn come.stands in
    let same : c.as_bytes.result.now ≡ printed = cc in
    record {
      come = (
        drawn ++ c.in-Ok.ensures.ok.0,
        fills_more g.G.TryRng.may_fill g.row.G-Error.Denot c.args.rng.now c.loop-rest.rng c.follow.new.rng drawn
            c.in-Ok.ensures.ok.0 c.loop-rest.invariant.come.1 c.in-Ok.ensures.ok.1,
        come_more drawn c.in-Ok.ensures.ok.0 list origin start first text c.loop-rest.rest.now line more
            c.loop-rest.ring c.follow.new.ring c.loop-rest.client.rows c.follow.new.client.rows (civil_nanos
            c.loop-rest.last)
            (civil_nanos c.follow.new.last) c.loop-rest.visit c.follow.new.visit c.loop-rest.done old mid new printed
            come c.cut_line.ensures.line goes
            (subst (Appends mid new) same c.in_ok-write_all-in-Ok.ensures.bytes),
      );
      failures = c.in_ok-write_all-in-Ok.ensures.failures ∙ c.loop-rest.invariant.failures;
      flushes = c.write_all.ensures.flushes ∙ c.loop-rest.invariant.flushes;
      list = c.in-Ok.ensures.list ∙ c.loop-rest.invariant.list;
      room = omega (arith, c.loop-rest.invariant.room, c.cut_line.ensures.shorter);
    }

pub returns-clause-text : goal.returns-clause-text
returns-clause-text g c =
    let list = c.args.client.now.suffixes in
    let origin = c.args.ring.now in
    let start = c.args.client.now.rows in
    let first = civil_nanos c.args.last.now in
    let text = c.args.text.now in
    let old = g.W.Sink.written c.args.writer.now in
    let mid = g.W.Sink.written c.loop-rest.writer in
    let drawn = c.loop-rest.invariant.come.0 in
    let come = c.loop-rest.invariant.come.2 in
    let none = nil_from_length c.loop-rest.rest.now
    (grind (arith, nat_tests, c.is_empty.ensures, c.loop-rest-test.false)) in
    let new = g.W.Sink.written c.flush.new.writer in
    let ends = come_whole drawn g.row.G-Error.Denot list origin start first text c.loop-rest.rest.now
    c.loop-rest.ring c.loop-rest.client.rows (civil_nanos c.loop-rest.last) c.loop-rest.visit c.loop-rest.done old mid
    come none in
    (ends.0, Appends-kept old mid new ends.0 ends.1 c.in_ok-flush.ensures.bytes, ends.2)

pub returns-clause-flushed : goal.returns-clause-flushed
returns-clause-flushed g c = c.flush.ensures.flushes ∙ ap one_more c.loop-rest.invariant.flushes

pub returns-in-Err-clause-leaves : goal.returns-in-Err-clause-leaves
returns-in-Err-clause-leaves g c =
    let list = c.args.client.now.suffixes in
    let origin = c.args.ring.now in
    let start = c.args.client.now.rows in
    let first = civil_nanos c.args.last.now in
    let text = c.args.text.now in
    let old = g.W.Sink.written c.args.writer.now in
    let mid = g.W.Sink.written c.loop-rest.writer in
    let drawn = c.loop-rest.invariant.come.0 in
    let come = c.loop-rest.invariant.come.2 in
    let line = c.cut_line.result.0.now in
    let more = c.cut_line.result.1.now in
    let halts = subst (λ l. Halts c.in-Err.ensures.err.0 l (λ r. after_line r line) c.loop-rest.ring
    c.loop-rest.client.rows
    (civil_nanos c.loop-rest.last) c.loop-rest.visit c.in-Err.cause c.follow.new.client.rows)
    c.loop-rest.invariant.list c.in-Err.ensures.err.2 in
    let said = halts origin start come.r come.output drawn come.stands in
    let fails = fails_any g.G.TryRng.may_fill g.row.G-Error.Denot c.loop-rest.rng c.follow.new.rng drawn
    c.in-Err.ensures.err.0 list origin start come.r (after_line come.r line) c.in-Err.cause come.output
    c.follow.new.client.rows c.in-Err.ensures.err.1 said in
    leaves_fault drawn g.row.G-Error.Denot list origin start first text c.loop-rest.rest.now line more
    c.loop-rest.ring c.loop-rest.client.rows c.follow.new.client.rows (civil_nanos c.loop-rest.last) (civil_nanos
    c.follow.new.last)
    c.loop-rest.visit c.loop-rest.done old mid c.in-Err.cause c.stop_at.result c.stop_at.ensures.ended come
    c.cut_line.ensures.line fails (ap civil_nanos c.in-Err.ensures.last)

pub returns-clause-leaves : goal.returns-clause-leaves
returns-clause-leaves g c =
    let list = c.args.client.now.suffixes in
    let origin = c.args.ring.now in
    let start = c.args.client.now.rows in
    let first = civil_nanos c.args.last.now in
    let text = c.args.text.now in
    let old = g.W.Sink.written c.args.writer.now in
    let mid = g.W.Sink.written c.loop-rest.writer in
    let drawn = c.loop-rest.invariant.come.0 in
    let come = c.loop-rest.invariant.come.2 in
    let none = nil_from_length c.loop-rest.rest.now
    (grind (arith, nat_tests, c.is_empty.ensures, c.loop-rest-test.false)) in
    leaves_now drawn list origin start first text come.r come.before (lines c.loop-rest.rest.now) c.loop-rest.ring
    c.loop-rest.client.rows
    (civil_nanos c.loop-rest.last) c.loop-rest.visit come.output _ come.leads come.whole come.stands (ap lines none)

pub returns-in_err-flush-clause-leaves : goal.returns-in_err-flush-clause-leaves
returns-in_err-flush-clause-leaves g c =
    let list = c.args.client.now.suffixes in
    let origin = c.args.ring.now in
    let start = c.args.client.now.rows in
    let first = civil_nanos c.args.last.now in
    let text = c.args.text.now in
    let old = g.W.Sink.written c.args.writer.now in
    let mid = g.W.Sink.written c.loop-rest.writer in
    let drawn = c.loop-rest.invariant.come.0 in
    let come = c.loop-rest.invariant.come.2 in
    leaves_now drawn list origin start first text come.r come.before (lines c.loop-rest.rest.now) c.loop-rest.ring
    c.loop-rest.client.rows
    (civil_nanos c.loop-rest.last) c.loop-rest.visit come.output c.from_residual-in_err-flush.result come.leads
    come.whole come.stands (up_to_any _ _ _ _ c.from_residual-in_err-flush.ensures.1)

pub returns-in_err-write_all-in-Ok-clause-leaves : goal.returns-in_err-write_all-in-Ok-clause-leaves
returns-in_err-write_all-in-Ok-clause-leaves g c =
    let list = c.args.client.now.suffixes in
    let origin = c.args.ring.now in
    let start = c.args.client.now.rows in
    let first = civil_nanos c.args.last.now in
    let text = c.args.text.now in
    let old = g.W.Sink.written c.args.writer.now in
    let mid = g.W.Sink.written c.loop-rest.writer in
    let drawn = c.loop-rest.invariant.come.0 in
    let come = c.loop-rest.invariant.come.2 in
    let line = c.cut_line.result.0.now in
    let more = c.cut_line.result.1.now in
    let printed = string_bytes c.in-Ok.printed in
    let leads_on = subst (λ l. Goes c.in-Ok.ensures.ok.0 l (λ r. after_line r line) c.loop-rest.ring
    c.loop-rest.client.rows
    (civil_nanos c.loop-rest.last) c.loop-rest.visit c.follow.new.ring c.follow.new.client.rows (civil_nanos
    c.follow.new.last)
    c.follow.new.visit printed) c.loop-rest.invariant.list c.in-Ok.ensures.ok.2 in
    let goes = leads_on origin start come.r come.output drawn come.stands in
    leaves_more drawn c.in-Ok.ensures.ok.0 list origin start first text c.loop-rest.rest.now line more
    c.loop-rest.ring c.follow.new.ring c.loop-rest.client.rows c.follow.new.client.rows (civil_nanos c.loop-rest.last)
    (civil_nanos c.follow.new.last)
    c.loop-rest.visit c.follow.new.visit c.loop-rest.done old mid printed c.from_residual.result _
    c.from_residual.ensures.1 come c.cut_line.ensures.line goes

pub returns-clause-draws : goal.returns-clause-draws
returns-clause-draws g c =
    let list = c.args.client.now.suffixes in
    let origin = c.args.ring.now in
    let start = c.args.client.now.rows in
    let first = civil_nanos c.args.last.now in
    let text = c.args.text.now in
    let old = g.W.Sink.written c.args.writer.now in
    let mid = g.W.Sink.written c.loop-rest.writer in
    let drawn = c.loop-rest.invariant.come.0 in
    let come = c.loop-rest.invariant.come.2 in
    let none = nil_from_length c.loop-rest.rest.now
    (grind (arith, nat_tests, c.is_empty.ensures, c.loop-rest-test.false)) in
    let new = g.W.Sink.written c.flush.new.writer in (
      drawn,
      c.loop-rest.invariant.come.1,
      script_whole drawn list origin start first text c.loop-rest.rest.now c.loop-rest.ring c.loop-rest.client.rows
          (civil_nanos c.loop-rest.last) c.loop-rest.visit c.loop-rest.done old mid new come none
          (Appends-kept old mid new come.output come.written c.in_ok-flush.ensures.bytes),
    )

pub returns-in_err-flush-clause-draws : goal.returns-in_err-flush-clause-draws
returns-in_err-flush-clause-draws g c =
    let list = c.args.client.now.suffixes in
    let origin = c.args.ring.now in
    let start = c.args.client.now.rows in
    let first = civil_nanos c.args.last.now in
    let text = c.args.text.now in
    let old = g.W.Sink.written c.args.writer.now in
    let mid = g.W.Sink.written c.loop-rest.writer in
    let drawn = c.loop-rest.invariant.come.0 in
    let come = c.loop-rest.invariant.come.2 in
    let new = g.W.Sink.written c.flush.new.writer in (
      drawn,
      c.loop-rest.invariant.come.1,
      script_cut drawn list origin start first text come.r come.before (lines c.loop-rest.rest.now)
          c.loop-rest.ring c.loop-rest.client.rows (civil_nanos c.loop-rest.last) c.loop-rest.visit come.output old new
          c.from_residual-in_err-flush.result _ c.from_residual-in_err-flush.ensures.1 come.leads come.whole
          come.stands,
    )

pub returns-in_err-write_all-in-Ok-clause-draws : goal.returns-in_err-write_all-in-Ok-clause-draws
returns-in_err-write_all-in-Ok-clause-draws g c =
    let list = c.args.client.now.suffixes in
    let origin = c.args.ring.now in
    let start = c.args.client.now.rows in
    let first = civil_nanos c.args.last.now in
    let text = c.args.text.now in
    let old = g.W.Sink.written c.args.writer.now in
    let mid = g.W.Sink.written c.loop-rest.writer in
    let drawn = c.loop-rest.invariant.come.0 in
    let come = c.loop-rest.invariant.come.2 in
    let line = c.cut_line.result.0.now in
    let more = c.cut_line.result.1.now in
    let new = g.W.Sink.written c.write_all.new.writer in
    let printed = string_bytes c.in-Ok.printed in
    let leads_on = subst (λ l. Goes c.in-Ok.ensures.ok.0 l (λ r. after_line r line) c.loop-rest.ring
    c.loop-rest.client.rows
    (civil_nanos c.loop-rest.last) c.loop-rest.visit c.follow.new.ring c.follow.new.client.rows (civil_nanos
    c.follow.new.last)
    c.follow.new.visit printed) c.loop-rest.invariant.list c.in-Ok.ensures.ok.2 in
    let goes = leads_on origin start come.r come.output drawn come.stands in (
      drawn ++ c.in-Ok.ensures.ok.0,
      fills_more g.G.TryRng.may_fill g.row.G-Error.Denot c.args.rng.now c.loop-rest.rng c.follow.new.rng drawn
          c.in-Ok.ensures.ok.0 c.loop-rest.invariant.come.1 c.in-Ok.ensures.ok.1,
      script_more drawn c.in-Ok.ensures.ok.0 list origin start first text c.loop-rest.rest.now line more
          c.loop-rest.ring c.follow.new.ring c.loop-rest.client.rows c.follow.new.client.rows (civil_nanos
          c.loop-rest.last)
          (civil_nanos c.follow.new.last) c.loop-rest.visit c.follow.new.visit c.loop-rest.done old mid new printed
          c.from_residual.result _ c.from_residual.ensures.1 come c.cut_line.ensures.line goes,
    )

pub returns-in-Err-clause-draws : goal.returns-in-Err-clause-draws
returns-in-Err-clause-draws g c =
    let list = c.args.client.now.suffixes in
    let origin = c.args.ring.now in
    let start = c.args.client.now.rows in
    let first = civil_nanos c.args.last.now in
    let text = c.args.text.now in
    let old = g.W.Sink.written c.args.writer.now in
    let mid = g.W.Sink.written c.loop-rest.writer in
    let drawn = c.loop-rest.invariant.come.0 in
    let come = c.loop-rest.invariant.come.2 in
    let line = c.cut_line.result.0.now in
    let more = c.cut_line.result.1.now in
    let new = g.W.Sink.written c.stop_at.new.writer in
    let halts = subst (λ l. Halts c.in-Err.ensures.err.0 l (λ r. after_line r line) c.loop-rest.ring
    c.loop-rest.client.rows
    (civil_nanos c.loop-rest.last) c.loop-rest.visit c.in-Err.cause c.follow.new.client.rows)
    c.loop-rest.invariant.list c.in-Err.ensures.err.2 in
    let said = halts origin start come.r come.output drawn come.stands in (
      drawn ++ c.in-Err.ensures.err.0,
      fills_more g.G.TryRng.may_fill g.row.G-Error.Denot c.args.rng.now c.loop-rest.rng c.follow.new.rng drawn
          c.in-Err.ensures.err.0 c.loop-rest.invariant.come.1 c.in-Err.ensures.err.1,
      script_fault drawn c.in-Err.ensures.err.0 list origin start first text c.loop-rest.rest.now line more
          c.loop-rest.ring c.loop-rest.client.rows c.follow.new.client.rows (civil_nanos c.loop-rest.last)
          (civil_nanos c.follow.new.last) c.loop-rest.visit c.loop-rest.done old mid new c.in-Err.cause
          c.stop_at.result come c.cut_line.ensures.line said (ap civil_nanos c.in-Err.ensures.last)
          c.stop_at.ensures.text c.stop_at.ensures.ended,
    )
