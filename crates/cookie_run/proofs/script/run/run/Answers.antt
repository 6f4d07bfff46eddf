use Rattle.std.proofs.Common.{◌≡◌, ◌∙◌, ◌<◌, ap, length, subst, refl, [], Err}
use Rattle.std.specs.Prelude.{IfOk}
use Rattle.std.specs.Io.KnownBytes.{Appends}
use Rattle.jiff.specs.Words.{civil_nanos}
use Rattle.cookie.specs.KeyRing.{alone}
use Rattle.cookie_run.specs.Drawn.{DrawsSo}
use Rattle.cookie_run.specs.ScriptDrawn.{IsScriptBy}
use Rattle.cookie_run.specs.ScriptText.{fault_text, LeavesFront}
use Rattle.cookie_run.specs.declared.script.cause.Cause.TheVariants.{Memory}
use Rattle.cookie_run.specs.declared.script.ended.Ended.TheVariants.{Faulty}
use Rattle.cookie_run.specs.declared.script.ended.RunError.TheVariants.{Read}
use Rattle.cookie_run.proofs.ScriptRun.{Ends, known_text, for_all, memory_first, leaves_first, up_to_fault}
use Rattle.cookie_run.proofs.ScriptRun.{script_memory, script_unread}
use Rattle.cookie_run.proofs.script.run.run.Goals as goal

pub returns-in-Ok-clause-text : goal.returns-in-Ok-clause-text
returns-in-Ok-clause-text g c =
    let list = c.args.client.now.suffixes in
    let start = c.args.client.now.rows in
    let first = civil_nanos c.args.last.now in
    let old = g.W.Sink.written c.args.writer.now in
    let new = g.W.Sink.written c.play_text.new.writer in
    let last = civil_nanos c.play_text.new.last in
    let same : c.deref.result.now ≡ c.in-Ok.input.items = cc in
    let ring = c.new-ring.ensures ∙ ap alone c.copy_of.ensures in
    let rows = c.play_text.new.client.rows in
    known_text c.play_text.result (g.R.Source.left c.args.reader.now)
    (λ input ended. Ends g.row.G-Error.Denot list (alone c.args.key.now) start first input old new rows last ended)
    c.in-Ok.input.items c.in-Ok.ensures.bytes
    (subst (λ items. IfOk c.play_text.result (λ ended. Ends g.row.G-Error.Denot list (alone c.args.key.now) start first
    items old new rows last ended)) same
    (subst (λ k. IfOk c.play_text.result (λ ended. Ends g.row.G-Error.Denot list k start first c.deref.result.now old
    new rows last ended)) ring c.play_text.ensures.text))

pub returns-in-Err-Memory-clause-text : goal.returns-in-Err-Memory-clause-text
returns-in-Err-Memory-clause-text g c =
    let list = c.args.client.now.suffixes in
    let start = c.args.client.now.rows in
    let first = civil_nanos c.args.last.now in
    let old = g.W.Sink.written c.args.writer.now in
    let new = g.W.Sink.written c.stop_at.new.writer in
    for_all c.stop_at.result (g.R.Source.left c.args.reader.now)
    (λ input ended. Ends g.row.G-Error.Denot list (alone c.args.key.now) start first input old new start first ended)
    (λ input. 0 < length input) (Appends old new (fault_text 1 Memory)) (Faulty 1)
    (c.in-Err-Memory.ensures.memory cc) c.stop_at.ensures.text c.stop_at.ensures.ended
    (λ input some written. memory_first g.row.G-Error.Denot list (alone c.args.key.now) start first input old new some
    written)

pub returns-in-Ok-clause-leaves : goal.returns-in-Ok-clause-leaves
returns-in-Ok-clause-leaves g c =
    let same : c.deref.result.now ≡ c.in-Ok.input.items = cc in
    let ring = c.new-ring.ensures ∙ ap alone c.copy_of.ensures in (
      c.in-Ok.input.items,
      c.in-Ok.ensures.bytes,
      subst (λ items. LeavesFront c.args.client.now.suffixes (alone c.args.key.now) c.args.client.now.rows
          (civil_nanos c.args.last.now) items c.play_text.new.client.rows (civil_nanos c.play_text.new.last)
          c.play_text.result) same
          (subst (λ k. LeavesFront c.args.client.now.suffixes k c.args.client.now.rows (civil_nanos c.args.last.now)
          c.deref.result.now c.play_text.new.client.rows (civil_nanos c.play_text.new.last) c.play_text.result) ring
          c.play_text.ensures.leaves),
    )

pub returns-in-Err-Memory-clause-leaves : goal.returns-in-Err-Memory-clause-leaves
returns-in-Err-Memory-clause-leaves g c =
    leaves_first c.args.client.now.suffixes (alone c.args.key.now) c.args.client.now.rows (civil_nanos c.args.last.now)
    (g.R.Source.left c.args.reader.now) c.stop_at.result
    (λ after. up_to_fault c.stop_at.result 1 [] after c.stop_at.ensures.ended refl)

pub returns-in-Err-Read-clause-leaves : goal.returns-in-Err-Read-clause-leaves
returns-in-Err-Read-clause-leaves g c =
    leaves_first c.args.client.now.suffixes (alone c.args.key.now) c.args.client.now.rows (civil_nanos c.args.last.now)
    (g.R.Source.left c.args.reader.now) (Err Read) (λ after. tt)

pub returns-in-Ok-clause-draws : goal.returns-in-Ok-clause-draws
returns-in-Ok-clause-draws g c =
    let same : c.deref.result.now ≡ c.in-Ok.input.items = cc in
    let ring = c.new-ring.ensures ∙ ap alone c.copy_of.ensures in (
      c.in-Ok.input.items,
      c.in-Ok.ensures.bytes,
      subst (λ items. DrawsSo g.G.TryRng.may_fill g.row.G-Error.Denot c.args.rng.now (λ drawn. IsScriptBy drawn
          c.args.client.now.suffixes (alone c.args.key.now) c.args.client.now.rows (civil_nanos c.args.last.now) items
          (g.W.Sink.written c.args.writer.now) (g.W.Sink.written c.play_text.new.writer) c.play_text.new.client.rows
          (civil_nanos c.play_text.new.last) c.play_text.result) c.play_text.new.rng) same
          (subst (λ k. DrawsSo g.G.TryRng.may_fill g.row.G-Error.Denot c.args.rng.now (λ drawn. IsScriptBy drawn
          c.args.client.now.suffixes k c.args.client.now.rows (civil_nanos c.args.last.now) c.deref.result.now
          (g.W.Sink.written c.args.writer.now) (g.W.Sink.written c.play_text.new.writer) c.play_text.new.client.rows
          (civil_nanos c.play_text.new.last) c.play_text.result) c.play_text.new.rng) ring c.play_text.ensures.draws),
    )

pub returns-in-Err-Memory-clause-draws : goal.returns-in-Err-Memory-clause-draws
returns-in-Err-Memory-clause-draws g c =
    let d = script_memory c.args.client.now.suffixes (alone c.args.key.now) c.args.client.now.rows
    (civil_nanos c.args.last.now) (g.R.Source.left c.args.reader.now) (g.W.Sink.written c.args.writer.now)
    (g.W.Sink.written c.stop_at.new.writer) c.stop_at.result (c.in-Err-Memory.ensures.memory cc) c.stop_at.ensures.text
    c.stop_at.ensures.ended in
    (d.0, d.1, ([], refl, d.2))

pub returns-in-Err-Read-clause-draws : goal.returns-in-Err-Read-clause-draws
returns-in-Err-Read-clause-draws g c =
    let d = script_unread c.args.client.now.suffixes (alone c.args.key.now) c.args.client.now.rows
    (civil_nanos c.args.last.now) (g.R.Source.left c.args.reader.now) (g.W.Sink.written c.args.writer.now)
    (g.W.Sink.written c.args.writer.now) Read in
    (d.0, d.1, ([], refl, d.2))
