use Rattle.std.proofs.Common.{◌≡◌, Err, ap, inl, inr, map, option_map, refl, subst}
use Rattle.std.specs.Prelude.{string_bytes}
use Rattle.std.specs.Option.{option_copied}
use Rattle.cookie_run.specs.Program.{Devices, RunGives}
use Rattle.cookie_run.proofs.ProgramFacts.{store_unwritten, tells_whole}
use Rattle.cookie_run.proofs.program.serve_held.Goals as goal

pub returns-in-Ok-clause-ok : goal.returns-in-Ok-clause-ok
returns-in-Ok-clause-ok g c =
    let io : Devices = record {
      left = g.R.Source.left c.args.reader.now;
      reads = g.R.Source.reads c.answer.new.reader;
      unread = (g.R.Failing.failures c.args.reader.now, g.R.Failing.failures c.answer.new.reader);
      written = (g.W.Sink.written c.args.writer.now, g.W.Sink.written c.answer.new.writer);
      unwritten = (g.W.Failing.failures c.args.writer.now, g.W.Failing.failures c.answer.new.writer);
    } in
    tells_whole ((c.answer.new.reader ≡ c.args.reader.now) × (c.answer.new.writer ≡ c.args.writer.now)) io
    (map (λ word. string_bytes word) c.args.words.now) c.args.suffixes.now (option_copied c.bytes.result)
    (option_map (λ text. text.items) c.in-Ok-Some.field-0) c.in-Ok-Some.text.items
    (ap (option_map (λ text. text.items)) c.in-Ok-Some.field-0-is) c.in-Ok-Some.ensures.gives

pub returns-in-Err-Memory-clause-err : goal.returns-in-Err-Memory-clause-err
returns-in-Err-Memory-clause-err g c =
    let io : Devices = record {
      left = g.R.Source.left c.args.reader.now;
      reads = g.R.Source.reads c.answer.new.reader;
      unread = (g.R.Failing.failures c.args.reader.now, g.R.Failing.failures c.answer.new.reader);
      written = (g.W.Sink.written c.args.writer.now, g.W.Sink.written c.answer.new.writer);
      unwritten = (g.W.Failing.failures c.args.writer.now, g.W.Failing.failures c.answer.new.writer);
    } in
    store_unwritten ((c.answer.new.reader ≡ c.args.reader.now) × (c.answer.new.writer ≡ c.args.writer.now)) io
    (map (λ word. string_bytes word) c.args.words.now) c.args.suffixes.now (option_copied c.bytes.result)
    (option_map (λ text. text.items) c.in-Ok-Some.field-0) c.in-Ok-Some.text.items _
    (ap (option_map (λ text. text.items)) c.in-Ok-Some.field-0-is) c.in-Ok-Some.ensures.gives (inr refl)

pub returns-in-Err-Failed-clause-err : goal.returns-in-Err-Failed-clause-err
returns-in-Err-Failed-clause-err g c =
    let io : Devices = record {
      left = g.R.Source.left c.args.reader.now;
      reads = g.R.Source.reads c.answer.new.reader;
      unread = (g.R.Failing.failures c.args.reader.now, g.R.Failing.failures c.answer.new.reader);
      written = (g.W.Sink.written c.args.writer.now, g.W.Sink.written c.answer.new.writer);
      unwritten = (g.W.Failing.failures c.args.writer.now, g.W.Failing.failures c.answer.new.writer);
    } in
    store_unwritten ((c.answer.new.reader ≡ c.args.reader.now) × (c.answer.new.writer ≡ c.args.writer.now)) io
    (map (λ word. string_bytes word) c.args.words.now) c.args.suffixes.now (option_copied c.bytes.result)
    (option_map (λ text. text.items) c.in-Ok-Some.field-0) c.in-Ok-Some.text.items _
    (ap (option_map (λ text. text.items)) c.in-Ok-Some.field-0-is) c.in-Ok-Some.ensures.gives (inl refl)

pub returns-in-Err-clause-keeps_err : goal.returns-in-Err-clause-keeps_err
returns-in-Err-clause-keeps_err g c =
    let io : Devices = record {
      left = g.R.Source.left c.args.reader.now;
      reads = g.R.Source.reads c.answer.new.reader;
      unread = (g.R.Failing.failures c.args.reader.now, g.R.Failing.failures c.answer.new.reader);
      written = (g.W.Sink.written c.args.writer.now, g.W.Sink.written c.answer.new.writer);
      unwritten = (g.W.Failing.failures c.args.writer.now, g.W.Failing.failures c.answer.new.writer);
    } in (
      Err c.in-Err.failure,
      subst (λ stored. RunGives
          ((c.answer.new.reader ≡ c.args.reader.now) × (c.answer.new.writer ≡ c.args.writer.now)) io
          (map (λ word. string_bytes word) c.args.words.now) c.args.suffixes.now stored (Err c.in-Err.failure))
          c.bytes.ensures c.in-Err.ensures.gives,
      refl,
      refl,
    )
