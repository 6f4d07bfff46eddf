use Rattle.std.proofs.Common.{◌≡◌, map, refl}
use Rattle.std.specs.Prelude.{string_bytes}
use Rattle.cookie_run.specs.Program.{Devices}
use Rattle.cookie_run.specs.ProgramRead.{asked_for}
use Rattle.cookie_run.proofs.ProgramFacts.{keeps_store, on_err, store_unread}
use Rattle.cookie_run.proofs.program.serve.Goals as goal

pub returns-in-Ok-begin-clause-keeps_err : goal.returns-in-Ok-begin-clause-keeps_err
returns-in-Ok-begin-clause-keeps_err g c =
    let io : Devices = record {
      left = g.R.Source.left c.args.reader.now;
      reads = g.R.Source.reads c.serve_held-ended.new.reader;
      unread = (g.R.Failing.failures c.args.reader.now, g.R.Failing.failures c.serve_held-ended.new.reader);
      written = (g.W.Sink.written c.args.writer.now, g.W.Sink.written c.serve_held-ended.new.writer);
      unwritten = (g.W.Failing.failures c.args.writer.now, g.W.Failing.failures c.serve_held-ended.new.writer);
    } in
    let held = c.in-Ok-begin.ensures.ok in
    on_err c.serve_held-ended.result (keeps_store
    ((c.serve_held-ended.new.reader ≡ c.args.reader.now) × (c.serve_held-ended.new.writer ≡ c.args.writer.now)) io
    (map (λ word. string_bytes word) c.args.words.now) (asked_for c.in-Ok.asked) c.deref.result.now held.0
    (g.K.Keeper.lock c.args.kept.now) (g.K.Keeper.lock c.begin.new.kept) (g.K.Keeper.lock c.serve_held-ended.new.kept)
    (g.K.Keeper.lock c.give.new.self) 2 c.in-Ok.ensures held.1 c.give.ensures) c.serve_held-ended.ensures.keeps_err

pub returns-clause-err : goal.returns-clause-err
returns-clause-err g c =
    let io : Devices = record {
      left = g.R.Source.left c.args.reader.now;
      reads = g.R.Source.reads c.args.reader.now;
      unread = (g.R.Failing.failures c.args.reader.now, g.R.Failing.failures c.args.reader.now);
      written = (g.W.Sink.written c.args.writer.now, g.W.Sink.written c.args.writer.now);
      unwritten = (g.W.Failing.failures c.args.writer.now, g.W.Failing.failures c.args.writer.now);
    } in
    store_unread ((c.args.reader.now ≡ c.args.reader.now) × (c.args.writer.now ≡ c.args.writer.now)) io
    (map (λ word. string_bytes word) c.args.words.now) (asked_for c.in-Ok.asked) c.deref-in-Err-begin.result.now
    c.in-Err-begin.failure c.first_of.result c.in-Ok.ensures (refl, refl) c.in-Err-begin.ensures.err.0
    c.first_of.ensures
