use Rattle.std.proofs.Common.{◌∙◌, ap, map, sym, lit<, string_bytes}
use Rattle.std.specs.Prelude.{filter}
use Rattle.std.proofs.lemmas.Iterator.Consumers.{YieldsList-end}
use Rattle.std.proofs.lemmas.Iterator.Splits.{YieldsList-from_str_split}
use Rattle.std.proofs.lemmas.List.{map_push}
use Rattle.user_agent.specs.KnownDates.{joined_behind}
use Rattle.user_agent.specs.LongAttributes.{is_short}
use Rattle.user_agent.proofs.LongLemmas.{short_push}
use Rattle.user_agent.proofs.long_attributes.push_short_pieces.Goals as goal

pub loop-piece-preserved : goal.loop-piece-preserved
loop-piece-preserved c =
    short_push (string_bytes c.args.short.now) (string_bytes c.loop-piece.short) (string_bytes c.push_short.new.short)
    (map (λ p. p.now) c.loop-piece.yielded) c.in-Some.piece.now c.loop-piece.invariant c.in_ok-push_short.ensures
    ∙ ap (λ ps. joined_behind (string_bytes c.args.short.now) (filter is_short ps))
    (sym (map_push (λ p. p.now) c.loop-piece.yielded c.in-Some.piece))

pub returns : goal.returns
returns c =
    let it = c.into_iter-piece-iterator.result in
    let split = YieldsList-from_str_split {s = it} 59 c.args.text.now (lit< tt) (cc) (cc) (cc) in
    let end = YieldsList-end split c.loop-piece.yielded _ c.loop-piece.yielded_by _ _ c.in-None.is c.next.ensures.steps
    in
    c.loop-piece.invariant
    ∙ ap (λ ps. joined_behind (string_bytes c.args.short.now) (filter is_short ps)) end.0
