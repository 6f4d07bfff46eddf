use Rattle.std.proofs.Common.{◌∙◌, ap, false, subst}
use Rattle.jiff.specs.Words.{civil_nanos}
use Rattle.saved_text.specs.RonReading.{ShowsOnly}
use Rattle.cookie_store.specs.SavedTexts.{IsRonRefusal, Loads}
use Rattle.cookie_jar.specs.Reading.{IsUnread}
use Rattle.cookie_jar.specs.declared.form.Form.TheVariants.{Ron}
use Rattle.cookie_jar.proofs.SavingLemmas.{not_read}
use Rattle.cookie_jar.proofs.reading.read_ron.Goals as goal

pub returns-in-Ok-clause-ok : goal.returns-in-Ok-clause-ok
returns-in-Ok-clause-ok c =
    let loaded = c.in-Ok.ensures.ok in
    let same = loaded.1 ∙ ap (λ text. text.now) c.new.ensures.inner in
    subst (λ text. Loads ShowsOnly false (civil_nanos c.args.now) text c.in-Ok.store) same loaded.2

pub returns-in-Err-clause-err : goal.returns-in-Err-clause-err
returns-in-Err-clause-err c =
    subst (λ text. IsUnread Ron text c.unread.result) (ap (λ text. text.now) c.new.ensures.inner)
    (not_read (λ t e. IsRonRefusal t e) _ c.in-Err.cause c.unread.result _ _ _ c.unread.ensures c.in-Err.ensures.err)
