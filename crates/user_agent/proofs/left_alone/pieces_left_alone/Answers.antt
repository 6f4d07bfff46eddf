use Rattle.std.proofs.Common.{map, sym, subst, lit<}
use Rattle.std.specs.List.{AllByRecursion}
use Rattle.std.proofs.lemmas.Iterator.Consumers.{YieldsList-end}
use Rattle.std.proofs.lemmas.Iterator.Splits.{YieldsList-from_str_split}
use Rattle.std.proofs.lemmas.List.{map_push}
use Rattle.jiff.specs.Words.{civil_nanos}
use Rattle.user_agent.specs.LeftAlone.{IsLeftAlone}
use Rattle.user_agent.proofs.LeftLemmas.{all_push}
use Rattle.user_agent.proofs.left_alone.pieces_left_alone.Goals as goal

pub loop-piece-preserved : goal.loop-piece-preserved
loop-piece-preserved c =
    let one = rw c.in-Some-2.is at c.in_ok-is_brief.ensures in
    subst (AllByRecursion (IsLeftAlone (civil_nanos c.args.now) c.both-brief.result))
    (sym (map_push (λ p. p.now) c.loop-piece.yielded c.in-Some.piece))
    (all_push (civil_nanos c.args.now) c.loop-piece.brief c.in-Some-2.is_brief c.both-brief.result
    (map (λ p. p.now) c.loop-piece.yielded) c.in-Some.piece.now c.both-brief.ensures c.loop-piece.invariant
    one)

pub returns : goal.returns
returns c =
    let it = c.into_iter-piece-iterator.result in
    let split = YieldsList-from_str_split {s = it} 59 c.args.text.now (lit< tt) (cc) (cc) (cc) in
    let end = YieldsList-end split c.loop-piece.yielded _ c.loop-piece.yielded_by _ _ c.in-None.is c.next.ensures.steps
    in
    subst (AllByRecursion (IsLeftAlone (civil_nanos c.args.now) c.loop-piece.brief)) end.0 c.loop-piece.invariant
