use Rattle.std.proofs.Common.{string_bytes, subst}
use Rattle.devices.specs.Device.{AppendsFront}
use Rattle.cookie_store.proofs.SaveLemmas.{at_each_error, fails_or}
use Rattle.cookie_store.proofs.serde.list.write.Goals as goal

pub returns-clause-front : goal.returns-clause-front
returns-clause-front g c =
    let old = g.W.Sink.written c.args.writer.now in
    let new = g.W.Sink.written c.write_text.new.writer in
    fails_or _ _ c.write_text.result (at_each_error c.write_text.result (λ front. (
      string_bytes c.in_ok-list.list,
      c.in_ok-list.ensures.ok,
      subst (AppendsFront old new) c.as_str.ensures.value front,
    )) c.write_text.ensures.front)
