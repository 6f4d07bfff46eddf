use Rattle.std.proofs.Common.{◌∷◌, []}
use Rattle.cookie_store.proofs.SaveLemmas.{at_any_error, at_each_error, front_of_longer, front_behind}
use Rattle.cookie_store.proofs.serde.write_line.Goals as goal

pub returns-in_err-write_text-clause-front : goal.returns-in_err-write_text-clause-front
returns-in_err-write_text-clause-front g c =
    let old = g.W.Sink.written c.args.writer.now in
    let new = g.W.Sink.written c.write_text.new.writer in
    at_any_error c.from_residual.result
    (front_of_longer old new c.args.text.now (10 ∷ []) c.in_err-write_text.ensures.front)

pub returns-clause-front : goal.returns-clause-front
returns-clause-front g c =
    let old = g.W.Sink.written c.args.writer.now in
    let mid = g.W.Sink.written c.write_text.new.writer in
    let new = g.W.Sink.written c.write_text-2.new.writer in
    at_each_error c.write_text-2.result
    (λ front. front_behind old mid new c.args.text.now (10 ∷ []) c.in_ok-write_text.ensures.bytes front)
    c.write_text-2.ensures.front
