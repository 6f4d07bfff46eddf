use Rattle.std.proofs.Common.{inl, inr}
use Rattle.std.proofs.lemmas.Bool.{both_ways}
use Rattle.jiff.specs.Words.{civil_nanos}
use Rattle.user_agent.proofs.LeftLemmas.{life_left_by_none, piece_left}
use Rattle.user_agent.proofs.left_alone.piece_left_alone.Goals as goal

pub returns-then-says : goal.returns-then-says
returns-then-says c =
    piece_left (civil_nanos c.args.now) c.args.piece.now c.life_left_alone.result c.in-Some.ensures.0
    c.life_left_alone.ensures

pub returns-else-says : goal.returns-else-says
returns-else-says c = (
  c.in-Some.ensures.0,
  life_left_by_none (civil_nanos c.args.now) c.args.piece.now (elim c.in-Some.ensures.1 [
    | inl says ↦ absurd (both_ways _ c.if-says.false says)
    | inr none ↦ none
  ]),
)
