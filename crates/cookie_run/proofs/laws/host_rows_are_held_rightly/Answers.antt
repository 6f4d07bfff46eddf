use Rattle.cookie_client.proofs.HostRows.{answers_hold, restarts_hold, saved_hold}
use Rattle.cookie_run.proofs.HostRows.{plays_hold}
use Rattle.cookie_run.proofs.laws.host_rows_are_held_rightly.Goals as goal

pub returns-clause-answers : goal.returns-clause-answers
returns-clause-answers c = answers_hold

pub returns-clause-restarts : goal.returns-clause-restarts
returns-clause-restarts c = restarts_hold c.pairs_read_again.ensures.again c.bound_read_again.ensures

pub returns-clause-saved : goal.returns-clause-saved
returns-clause-saved c =
    saved_hold c.saved_rows_are_kept.ensures.kept c.pairs_read_again.ensures.again c.bound_read_again.ensures

pub returns-clause-plays : goal.returns-clause-plays
returns-clause-plays c =
    plays_hold c.pairs_read_again.ensures.read c.pairs_read_again.ensures.again c.bound_read_again.ensures
