use Rattle.cookie_client.proofs.RingSessions.{asked_of}
use Rattle.cookie_client.proofs.ring_session.kept_until.Goals as goal

pub returns-in_err-text-clause-asked : goal.returns-in_err-text-clause-asked
returns-in_err-text-clause-asked g c =
    asked_of c.from_residual.result c.text_until.result _ _ c.from_residual.ensures c.in_err-text.was
    c.text_until.ensures.out_of_memory
