use Rattle.std.proofs.Common.{refl, inl}
use Rattle.std.specs.Prelude.{Ok, Err}
use Rattle.cookie_store.proofs.store.CookieStore.parse.Goals as goal

pub returns-in-Ok-clause-rows : goal.returns-in-Ok-clause-rows
returns-in-Ok-clause-rows c = (Ok c.in-Ok.cookie, c.in-Ok.ensures, c.insert_raw.ensures.rows)

pub returns-in-Err-clause-rows : goal.returns-in-Err-clause-rows
returns-in-Err-clause-rows c = (Err c.in-Err.field-0, c.in-Err.ensures, inl refl)
