use Rattle.cookies_txt.proofs.RowLemmas.{rows_back, rows_said}
use Rattle.cookies_txt.proofs.laws.what_is_written_is_read.Goals as goal

pub returns-clause-says : goal.returns-clause-says
returns-clause-says c = rows_said

pub returns-clause-rows : goal.returns-clause-rows
returns-clause-rows c = rows_back
