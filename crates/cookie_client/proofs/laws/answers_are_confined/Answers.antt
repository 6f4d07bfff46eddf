use Rattle.cookie_client.proofs.laws.answers_are_confined.Goals as goal
use Rattle.cookie_client.proofs.Confined.{answer_confined}

pub returns : goal.returns
returns c list rows url now lines new takes =
    answer_confined c.laws.ensures.confined list url now lines rows takes.0 new takes.1
