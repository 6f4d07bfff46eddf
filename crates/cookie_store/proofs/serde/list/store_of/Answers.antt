use Rattle.std.proofs.Common.{inr, refl}
use Rattle.std.proofs.lemmas.Result.{err_from_is_err_and}
use Rattle.cookie_store.proofs.RefusalLemmas.{want_refused}
use Rattle.cookie_store.proofs.SavedLemmas.{texts_read}
use Rattle.cookie_store.proofs.serde.list.store_of.Goals as goal

pub store_of_rows-requires : goal.store_of_rows-requires
store_of_rows-requires c =
    let (all, shows, shown) = c.in-Ok.ensures.ok in
    texts_read all c.in-Ok.rows.items shown

pub returns-in_err-store_of_rows-in-Ok-clause-err : goal.returns-in_err-store_of_rows-in-Ok-clause-err
returns-in_err-store_of_rows-in-Ok-clause-err c =
    let p = err_from_is_err_and c.from_residual.result c.from_residual.ensures.1 in
    rw (p.1, p.2) (want_refused c.args.format c.args.text.now c.in-Ok.ensures.text)
