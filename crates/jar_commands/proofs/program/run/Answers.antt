use Rattle.std.proofs.Common.{◌≡◌, ◌∙◌, Ok, Err}
use Rattle.jar_commands.proofs.ProgramLemmas.{kept_at}
use Rattle.jar_commands.proofs.program.run.Goals as goal

pub returns-in-Ok-clause-tells : goal.returns-in-Ok-clause-tells
returns-in-Ok-clause-tells g c =
    (Ok c.in-Ok.done.status, c.in-Ok.ensures.serves_ok, c.with_rows.ensures ∙ c.with.ensures)

pub returns-in-Ok-clause-keeps : goal.returns-in-Ok-clause-keeps
returns-in-Ok-clause-keeps g c = kept_at _ _ _ _ _ _ c.in-Ok.ensures.keeps_ok (c.with_rows.ensures ∙ c.with.ensures)

pub returns-in-Err-clause-tells : goal.returns-in-Err-clause-tells
returns-in-Err-clause-tells g c =
    (Err c.in-Err.stopped.failure, c.in-Err.ensures.serves_err, c.with_rows-in-Err.ensures ∙ c.stopped.ensures)

pub returns-in-Err-clause-keeps : goal.returns-in-Err-clause-keeps
returns-in-Err-clause-keeps g c =
    kept_at _ _ _ _ _ _ c.in-Err.ensures.keeps_err (c.with_rows-in-Err.ensures ∙ c.stopped.ensures)
