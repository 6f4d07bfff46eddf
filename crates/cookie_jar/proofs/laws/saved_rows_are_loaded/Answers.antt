use Rattle.cookie_jar.proofs.LawLemmas.{saved_rows_are_loaded, saved_texts_are_read}
use Rattle.cookie_jar.proofs.laws.saved_rows_are_loaded.Goals as goal

pub returns-clause-rows : goal.returns-clause-rows
returns-clause-rows c =
    saved_rows_are_loaded c.laws.ensures.parts c.pairs_read_again.ensures.again c.bound_read_again.ensures
    c.laws-2.ensures.ron c.laws-2.ensures.json c.what_is_written_is_read.ensures.rows

pub returns-clause-read : goal.returns-clause-read
returns-clause-read c =
    saved_texts_are_read c.laws-2.ensures.ron_read c.laws-2.ensures.json_read c.what_is_written_is_read.ensures.says
