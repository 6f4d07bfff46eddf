use Rattle.cookie_client.proofs.ComingBack.{restart_keeps}
use Rattle.cookie_client.proofs.laws.restarts_keep_rows.Goals as goal

pub returns : goal.returns
returns c = λ rows now kept all keeps. restart_keeps rows kept now all keeps
