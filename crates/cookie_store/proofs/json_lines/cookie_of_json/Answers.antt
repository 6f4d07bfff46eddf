use Rattle.std.proofs.Common.{refl, sym, subst}
use Rattle.std.proofs.lemmas.Result.{err_from_is_err_and}
use Rattle.saved_text.specs.Saved.{IsCookieText}
use Rattle.saved_text.specs.declared.error.SavedTextError.TheVariants as fault
use Rattle.cookie_store.proofs.json_lines.cookie_of_json.Goals as goal

pub loaded_of-requires : goal.loaded_of-requires
loaded_of-requires c =
    let (d, reads, (t, is, shown)) = c.in-Ok.ensures.ok in
    subst IsCookieText (sym shown.raw) shown.cookie

pub returns-in_err-loaded_of-in-Ok-clause-err : goal.returns-in_err-loaded_of-in-Ok-clause-err
returns-in_err-loaded_of-in-Ok-clause-err c =
    let p = err_from_is_err_and c.from_residual.result c.from_residual.ensures.1 in
    rw (p.1, p.2) (fault.OutOfMemory, tt, refl)
