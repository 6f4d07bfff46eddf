use Rattle.cookie_run.specs.Moments.{the_beginning}
use Rattle.cookie_run.proofs.FromLines.{plays_come_back}
use Rattle.cookie_run.proofs.laws.rows_come_back.Goals as goal

pub returns : goal.returns
returns c = λ b list acts told rows follows plays.
    plays_come_back b c.pairs_read_again.ensures.read c.pairs_read_again.ensures.again list c.args.key.now the_beginning
    rows acts told follows plays
