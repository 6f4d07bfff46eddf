use Rattle.http_cookies.proofs.Carried.{session_values}
use Rattle.http_cookies.proofs.laws.session_lines_are_values.Goals as goal

pub returns : goal.returns
returns c = session_values
