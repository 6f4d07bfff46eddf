use Rattle.std.proofs.Common.{inr}
use Rattle.user_agent.proofs.cut_life.briefer_for.Goals as goal

pub returns-in_ok-dated_piece-in-Some : goal.returns-in_ok-dated_piece-in-Some
returns-in_ok-dated_piece-in-Some c =
    inr (c.in-Some.limit, c.in-Some.ensures, c.in_ok-dated_piece-in-Some.ensures)
