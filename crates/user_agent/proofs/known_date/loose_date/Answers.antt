use Rattle.std.proofs.lemmas.Bool.{both_ways}
use Rattle.user_agent.proofs.KnownLemmas.{loose_of}
use Rattle.user_agent.proofs.known_date.loose_date.Goals as goal

pub returns-then-branch : goal.returns-then-branch
returns-then-branch c = λ m h. let g = c.in_ok-is_strict.ensures.0 c.if-branch.true in h.strict g.0 g.1

pub returns : goal.returns
returns c =
    loose_of c.read.result c.args.piece.now c.in-Some.value.now c.in-Some.ensures
    (λ g. both_ways _ c.if-branch.false (c.in_ok-is_strict.ensures.1 g)) c.read.ensures
