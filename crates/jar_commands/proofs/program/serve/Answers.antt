use Rattle.std.proofs.Common.{◌≡◌, option_map, refl}
use Rattle.std.specs.Option.{option_copied}
use Rattle.jar_commands.specs.Outcomes.{outcome_text}
use Rattle.jar_commands.specs.Performing.{read_by}
use Rattle.jar_commands.specs.Plans.{plan_text}
use Rattle.jar_commands.specs.Program.{reads_input, written_by}
use Rattle.jar_commands.specs.ProgramKept.{changes}
use Rattle.jar_commands.proofs.KeptLemmas.{brought_as, first_not_brought, keeps_err, keeps_not, keeps_ok, list_not_read}
use Rattle.jar_commands.proofs.KeptLemmas.{serves_err, serves_not, serves_ok}
use Rattle.jar_commands.proofs.program.serve.Goals as goal

pub returns-in-Err-clause-serves_err : goal.returns-in-Err-clause-serves_err
returns-in-Err-clause-serves_err g c =
    let reader = read_by g.R.Source.left g.R.Source.reads g.R.Failing.failures c.args.reader.now
    c.bring-given.new.reader in
    let writer = written_by g.W.Sink.written g.W.Failing.failures c.args.writer.now c.args.writer.now in
    list_not_read (c.bring-given.new.reader ≡ c.args.reader.now) (c.args.writer.now ≡ c.args.writer.now) reader writer
    (plan_text c.args.plan.now)
    (λ brought. option_map (λ text. text.items) brought)
    c.bring-given.result c.in-Err.stopped.failure c.bring-given.ensures.ok
    c.bring-given.ensures.err c.in-Err.ensures refl

pub returns-in-Err-given-clause-serves_err : goal.returns-in-Err-given-clause-serves_err
returns-in-Err-given-clause-serves_err g c =
    let reader = read_by g.R.Source.left g.R.Source.reads g.R.Failing.failures c.args.reader.now
    c.bring-given.new.reader in
    let writer = written_by g.W.Sink.written g.W.Failing.failures c.args.writer.now c.args.writer.now in
    first_not_brought (c.bring-given.new.reader ≡ c.args.reader.now) (c.args.writer.now ≡ c.args.writer.now) reader
    writer (plan_text c.args.plan.now)
    c.in-Err-given.stopped.failure c.first_of.result.failure
    c.in-Err-given.ensures.err c.first_of.ensures refl

pub returns-in-Ok-outcome_of-clause-serves_ok : goal.returns-in-Ok-outcome_of-clause-serves_ok
returns-in-Ok-outcome_of-clause-serves_ok g c =
    let reader = read_by g.R.Source.left g.R.Source.reads g.R.Failing.failures c.args.reader.now
    c.bring-given.new.reader in
    let writer = written_by g.W.Sink.written g.W.Failing.failures c.args.writer.now c.finish.new.writer in
    let given = c.in-Ok-given.ensures.ok in
    serves_ok (c.bring-given.new.reader ≡ c.args.reader.now) reader writer (plan_text c.args.plan.now)
    c.deref.result.now given.0 (option_copied c.as_deref.result)
    (g.K.Keeper.lock c.args.kept.now, g.K.Keeper.lock c.outcome_of.new.kept) (changes c.args.plan.now.command)
    (outcome_text c.in-Ok-outcome_of.outcome) c.finish.result
    (brought_as (c.bring-given.new.reader ≡ c.args.reader.now) reader
    (reads_input c.args.plan.now.command) given.0 c.as_deref.result _ c.as_deref.ensures.value given.1)
    c.in-Ok-outcome_of.ensures c.finish.ensures.ok

pub returns-in-Ok-outcome_of-clause-serves_err : goal.returns-in-Ok-outcome_of-clause-serves_err
returns-in-Ok-outcome_of-clause-serves_err g c =
    let reader = read_by g.R.Source.left g.R.Source.reads g.R.Failing.failures c.args.reader.now
    c.bring-given.new.reader in
    let writer = written_by g.W.Sink.written g.W.Failing.failures c.args.writer.now c.finish.new.writer in
    let given = c.in-Ok-given.ensures.ok in
    serves_err (c.bring-given.new.reader ≡ c.args.reader.now) (c.finish.new.writer ≡ c.args.writer.now) reader writer
    (plan_text c.args.plan.now)
    c.deref.result.now given.0
    (option_copied c.as_deref.result) (g.K.Keeper.lock c.args.kept.now, g.K.Keeper.lock c.outcome_of.new.kept)
    (changes c.args.plan.now.command) (outcome_text c.in-Ok-outcome_of.outcome) c.finish.result
    (brought_as (c.bring-given.new.reader ≡ c.args.reader.now) reader
    (reads_input c.args.plan.now.command) given.0 c.as_deref.result _ c.as_deref.ensures.value given.1)
    c.in-Ok-outcome_of.ensures c.finish.ensures.err

pub returns-in-Ok-outcome_of-clause-keeps_ok : goal.returns-in-Ok-outcome_of-clause-keeps_ok
returns-in-Ok-outcome_of-clause-keeps_ok g c =
    let reader = read_by g.R.Source.left g.R.Source.reads g.R.Failing.failures c.args.reader.now
    c.bring-given.new.reader in
    let writer = written_by g.W.Sink.written g.W.Failing.failures c.args.writer.now c.finish.new.writer in
    let given = c.in-Ok-given.ensures.ok in
    keeps_ok (c.bring-given.new.reader ≡ c.args.reader.now) reader writer (plan_text c.args.plan.now)
    c.deref.result.now given.0 (option_copied c.as_deref.result)
    (g.K.Keeper.lock c.args.kept.now, g.K.Keeper.lock c.outcome_of.new.kept)
    (outcome_text c.in-Ok-outcome_of.outcome) c.finish.result
    (brought_as (c.bring-given.new.reader ≡ c.args.reader.now) reader
    (reads_input c.args.plan.now.command) given.0 c.as_deref.result _ c.as_deref.ensures.value given.1)
    c.in-Ok-outcome_of.ensures c.finish.ensures.ok

pub returns-in-Ok-outcome_of-clause-keeps_err : goal.returns-in-Ok-outcome_of-clause-keeps_err
returns-in-Ok-outcome_of-clause-keeps_err g c =
    let reader = read_by g.R.Source.left g.R.Source.reads g.R.Failing.failures c.args.reader.now
    c.bring-given.new.reader in
    let given = c.in-Ok-given.ensures.ok in
    keeps_err (c.bring-given.new.reader ≡ c.args.reader.now) reader (plan_text c.args.plan.now)
    c.deref.result.now given.0 (option_copied c.as_deref.result)
    (g.K.Keeper.lock c.args.kept.now, g.K.Keeper.lock c.outcome_of.new.kept)
    (outcome_text c.in-Ok-outcome_of.outcome) c.finish.result
    (brought_as (c.bring-given.new.reader ≡ c.args.reader.now) reader
    (reads_input c.args.plan.now.command) given.0 c.as_deref.result _ c.as_deref.ensures.value given.1)
    c.in-Ok-outcome_of.ensures

pub returns-clause-serves_err : goal.returns-clause-serves_err
returns-clause-serves_err g c =
    let reader = read_by g.R.Source.left g.R.Source.reads g.R.Failing.failures c.args.reader.now
    c.bring-given.new.reader in
    let writer = written_by g.W.Sink.written g.W.Failing.failures c.args.writer.now c.args.writer.now in
    let given = c.in-Ok-given.ensures.ok in
    serves_not (c.bring-given.new.reader ≡ c.args.reader.now) (c.args.writer.now ≡ c.args.writer.now) reader writer
    (plan_text c.args.plan.now)
    c.deref.result.now given.0
    (option_copied c.as_deref.result) (g.K.Keeper.lock c.args.kept.now, g.K.Keeper.lock c.outcome_of.new.kept)
    (changes c.args.plan.now.command) c.in-Err-outcome_of.stopped.failure
    (brought_as (c.bring-given.new.reader ≡ c.args.reader.now) reader
    (reads_input c.args.plan.now.command) given.0 c.as_deref.result _ c.as_deref.ensures.value given.1)
    c.in-Err-outcome_of.ensures refl

pub returns-clause-keeps_err : goal.returns-clause-keeps_err
returns-clause-keeps_err g c =
    let reader = read_by g.R.Source.left g.R.Source.reads g.R.Failing.failures c.args.reader.now
    c.bring-given.new.reader in
    let given = c.in-Ok-given.ensures.ok in
    keeps_not (c.bring-given.new.reader ≡ c.args.reader.now) reader (plan_text c.args.plan.now)
    c.deref.result.now given.0 (option_copied c.as_deref.result)
    (g.K.Keeper.lock c.args.kept.now, g.K.Keeper.lock c.outcome_of.new.kept)
    c.in-Err-outcome_of.stopped.failure
    (brought_as (c.bring-given.new.reader ≡ c.args.reader.now) reader
    (reads_input c.args.plan.now.command) given.0 c.as_deref.result _ c.as_deref.ensures.value given.1)
    c.in-Err-outcome_of.ensures
