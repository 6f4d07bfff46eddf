use Rattle.std.proofs.Common.{◌∙◌, inr, refl}
use Rattle.cookie_run.proofs.ProgramFacts.{behind_nothing}
use Rattle.cookie_client.proofs.Loading.{year_only}
use Rattle.cookie_run.proofs.program.answering.saved_text.Goals as goal

pub returns-in-Ok-clause-ok : goal.returns-in-Ok-clause-ok
returns-in-Ok-clause-ok c =
    let saved = c.in-Ok.ensures.ok in
    (saved.2.0, saved.2.1, behind_nothing _ _ _ c.new-draft.ensures saved.3 ∙ saved.2.2)

pub returns-in-Err-Year-clause-err : goal.returns-in-Err-Year-clause-err
returns-in-Err-Year-clause-err c =
    inr (refl, year_only _ _ _ _ c.in-Err-Year.field-0-is c.in-Err-Year.ensures.err)
