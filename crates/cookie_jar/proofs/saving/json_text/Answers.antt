use Rattle.std.proofs.Common.{◌∙◌, inr, subst, sym}
use Rattle.std.specs.Str.{IsUtf8}
use Rattle.cookie_jar.proofs.SavingLemmas.{behind_nothing, year_only}
use Rattle.cookie_jar.proofs.saving.json_text.Goals as goal

pub returns-in-Ok-clause-ok : goal.returns-in-Ok-clause-ok
returns-in-Ok-clause-ok c =
    let saved = c.in-Ok.ensures.ok in
    let same = behind_nothing _ _ _ c.new-draft.ensures saved.3 in
    (subst IsUtf8 (sym same) saved.1, (saved.2.0, saved.2.1, same ∙ saved.2.2))

pub returns-in-Err-Year-clause-err : goal.returns-in-Err-Year-clause-err
returns-in-Err-Year-clause-err c =
    inr (λ e. cc, year_only _ _ _ _ c.in-Err-Year.field-0-is c.in-Err-Year.ensures.err)
