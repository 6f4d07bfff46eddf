use Rattle.std.proofs.Common.{rules, ◌≡◌, ◌≢◌, ap, refl}
use Rattle.std.specs.Prelude.{Ok, Err}
use Rattle.std.proofs.lemmas.Bool.{both_ways}
use Rattle.jiff.specs.Words.{civil_nanos}
use Rattle.store_parts.specs.declared.error.CookieError.TheVariants.{OutOfMemory}
use Rattle.cookie_client.proofs.Receiving.{accepted, lacked}
use Rattle.cookie_client.proofs.client.accept_cookie.Goals as goal

pub returns-in-Ok-clause-ok : goal.returns-in-Ok-clause-ok
returns-in-Ok-clause-ok c =
    accepted c.args.store.now.suffixes c.args.store.now.rows c.insert_raw.new.self.rows c.args.url.now
    (civil_nanos c.args.now) c.args.cookie.now (Ok c.in-Ok.action) _
    (λ breaks. both_ways _ c.if-breaks_host.false (c.breaks_host.ensures.1 breaks)) (λ e. let no = e in cc)
    c.in-Ok.ensures.rows refl

pub returns-in-Err-OutOfMemory-clause-err : goal.returns-in-Err-OutOfMemory-clause-err
returns-in-Err-OutOfMemory-clause-err c = (
  ap (λ s. s.rows) c.in-Err-OutOfMemory.ensures.err,
  (λ breaks. both_ways _ c.if-breaks_host.false (c.breaks_host.ensures.1 breaks)),
  lacked c.args.store.now.suffixes c.args.store.now.rows c.insert_raw.new.self.rows c.args.url.now
      (civil_nanos c.args.now) c.args.cookie.now (Err c.in-Err-OutOfMemory.field-0)
      (ap Err c.in-Err-OutOfMemory.field-0-is) c.in-Err-OutOfMemory.ensures.rows,
)

pub returns-in-Err : goal.returns-in-Err
returns-in-Err c =
    let other : c.in-Err.cause ≢ OutOfMemory = search rules in record {
      ok = accepted c.args.store.now.suffixes c.args.store.now.rows c.insert_raw.new.self.rows c.args.url.now
          (civil_nanos c.args.now) c.args.cookie.now (Err c.in-Err.cause) _
          (λ breaks. both_ways _ c.if-breaks_host.false (c.breaks_host.ensures.1 breaks))
          (λ e. let no : c.in-Err.cause ≡ OutOfMemory = cc in other no) c.in-Err.ensures.rows refl;
      err = tt;
      list = c.in-Err.ensures.list;
    }
