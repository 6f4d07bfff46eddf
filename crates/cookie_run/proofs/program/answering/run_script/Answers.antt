use Rattle.std.proofs.Common.{sym, subst}
use Rattle.jiff.specs.Words.{civil_nanos}
use Rattle.saved_text.specs.RonLayout.{ron_layout}
use Rattle.cookie_store.specs.Placing.{saved}
use Rattle.cookie_store.specs.SavedTexts.{Saves}
use Rattle.cookie_run.specs.Program as spec
use Rattle.cookie_run.specs.ProgramRead.{asked_for}
use Rattle.cookie_run.specs.declared.script.ended.Ended.TheVariants.{Whole, Faulty}
use Rattle.cookie_run.proofs.ProgramFacts.{gives_failure, script_ends, unsaved}
use Rattle.cookie_run.proofs.program.answering.run_script.Goals as goal

-- src/program/answering.rt:169:37
pub returns-in_err-saved_text-in-Ok-Whole-clause-gives :
    goal.returns-in_err-saved_text-in-Ok-Whole-clause-gives
returns-in_err-saved_text-in-Ok-Whole-clause-gives g c =
    let io : spec.Devices = record {
      left = g.R.Source.left c.args.reader.now;
      reads = g.R.Source.reads c.run.new.reader;
      unread = (g.R.Failing.failures c.args.reader.now, g.R.Failing.failures c.run.new.reader);
      written = (g.W.Sink.written c.args.writer.now, g.W.Sink.written c.run.new.writer);
      unwritten = (g.W.Failing.failures c.args.writer.now, g.W.Failing.failures c.run.new.writer);
    } in
    let rules = c.args.client.now.suffixes in
    let rows = c.args.client.now.rows in
    let asked = asked_for c.args.asked.now in
    gives_failure io asked rules rows (λ text. text.items) c.from_residual.result c.from_residual.ensures.1
    (λ failure is. subst (λ f. spec.ScriptFails io asked rules rows f) (sym is)
    (unsaved io asked rules rows _ c.run.new.client.rows (civil_nanos c.run.new.last)
    (λ Is so. script_ends io asked rules rows Whole c.in-Ok-Whole.field-0 Is _ _ c.run.new.client.rows
    (civil_nanos c.run.new.last) c.run.new.rng c.in-Ok-Whole.field-0-is c.seeded-key.ensures.key
    c.seeded-key.ensures.generator c.in-Ok-Whole.ensures.text c.in-Ok-Whole.ensures.draws so)
    c.in_err-saved_text-in-Ok-Whole.ensures.err))

-- src/program/answering.rt:145:1
pub returns-in_ok-saved_text-in-Ok-Whole-clause-gives :
    goal.returns-in_ok-saved_text-in-Ok-Whole-clause-gives
returns-in_ok-saved_text-in-Ok-Whole-clause-gives g c =
    let io : spec.Devices = record {
      left = g.R.Source.left c.args.reader.now;
      reads = g.R.Source.reads c.run.new.reader;
      unread = (g.R.Failing.failures c.args.reader.now, g.R.Failing.failures c.run.new.reader);
      written = (g.W.Sink.written c.args.writer.now, g.W.Sink.written c.run.new.writer);
      unwritten = (g.W.Failing.failures c.args.writer.now, g.W.Failing.failures c.run.new.writer);
    } in
    let rules = c.args.client.now.suffixes in
    let rows = c.args.client.now.rows in
    script_ends io (asked_for c.args.asked.now) rules rows Whole c.in-Ok-Whole.field-0
    (λ new end. Saves ron_layout (saved end new) c.in_ok-saved_text-in-Ok-Whole.field-0.items) _ _
    c.run.new.client.rows (civil_nanos c.run.new.last) c.run.new.rng c.in-Ok-Whole.field-0-is
    c.seeded-key.ensures.key c.seeded-key.ensures.generator c.in-Ok-Whole.ensures.text c.in-Ok-Whole.ensures.draws
    c.in_ok-saved_text-in-Ok-Whole.ensures.ok

-- src/program/answering.rt:145:1
pub returns-in-Ok-Faulty-clause-gives : goal.returns-in-Ok-Faulty-clause-gives
returns-in-Ok-Faulty-clause-gives g c =
    let io : spec.Devices = record {
      left = g.R.Source.left c.args.reader.now;
      reads = g.R.Source.reads c.run.new.reader;
      unread = (g.R.Failing.failures c.args.reader.now, g.R.Failing.failures c.run.new.reader);
      written = (g.W.Sink.written c.args.writer.now, g.W.Sink.written c.run.new.writer);
      unwritten = (g.W.Failing.failures c.args.writer.now, g.W.Failing.failures c.run.new.writer);
    } in
    let rules = c.args.client.now.suffixes in
    let rows = c.args.client.now.rows in (
      c.in-Ok-Faulty.field-0-0,
      script_ends io (asked_for c.args.asked.now) rules rows (Faulty c.in-Ok-Faulty.field-0-0) c.in-Ok-Faulty.field-0
          (λ new end. Unit {0}) _ _ c.run.new.client.rows (civil_nanos c.run.new.last) c.run.new.rng
          c.in-Ok-Faulty.field-0-is c.seeded-key.ensures.key
          c.seeded-key.ensures.generator c.in-Ok-Faulty.ensures.text c.in-Ok-Faulty.ensures.draws tt,
    )
