use Rattle.http_cookies.proofs.Carried.{played}
use Rattle.http_cookies.proofs.laws.exchanges_are_played.Goals as goal

pub returns : goal.returns
returns c = played
