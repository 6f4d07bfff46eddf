use Rattle.std.proofs.Common.{subst}
use Rattle.std.specs.Prelude.{IfOk}
use Rattle.std.specs.Str.{IsUtf8}
use Rattle.jiff.specs.Words.{civil_nanos}
use Rattle.cookie_store.specs.Formats.{ShowsIn}
use Rattle.cookie_store.specs.SavedTexts.{Loads}
use Rattle.cookie_store.proofs.SavedLemmas.{of_text_ok}
use Rattle.cookie_store.proofs.serde.list.read.Goals as goal

pub returns-clause-ok : goal.returns-clause-ok
returns-clause-ok g c =
    let loads = Loads (ShowsIn c.args.format) c.args.with_expired (civil_nanos c.args.now) in
    of_text_ok (g.R.Source.left c.args.reader.now) c.in_ok-text.text.items loads c.store_of.result
    c.in_ok-text.ensures.ok
    (subst (λ bytes. IfOk c.store_of.result (loads bytes)) c.deref.ensures.value c.store_of.ensures.ok)

pub returns-clause-text : goal.returns-clause-text
returns-clause-text g c = of_text_ok (g.R.Source.left c.args.reader.now) c.in_ok-text.text.items (λ t store. IsUtf8 t)
    c.store_of.result c.in_ok-text.ensures.ok
    (subst (λ bytes. IfOk c.store_of.result (λ _. IsUtf8 bytes)) c.deref.ensures.value c.store_of.ensures.text)
