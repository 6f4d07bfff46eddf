use Rattle.std.proofs.Common.{◌≡◌, ap, sym, subst}
use Rattle.std.specs.Prelude.{Ok, Err}
use Rattle.jiff.specs.Words.{civil_nanos}
use Rattle.store_parts.specs.declared.error.CookieError.TheVariants.{OutOfMemory}
use Rattle.cookie_store.specs.Insertion.{Receives}
use Rattle.cookie_store.proofs.store.CookieStore.receive.Goals as goal

pub returns-in-Err-OutOfMemory-clause-err : goal.returns-in-Err-OutOfMemory-clause-err
returns-in-Err-OutOfMemory-clause-err c =
    let list = c.args.self.now.suffixes in
    let old = c.args.self.now.rows in
    let new = c.insert_raw.new.self.rows in
    let url = c.args.request_url.now in
    let now = civil_nanos c.args.now in
    let seen = c.args.cookie in
    let same : new ≡ old = ap (λ s. s.rows) c.in-Err-OutOfMemory.ensures.err in (
      subst (λ rs. Receives list rs url now (Ok seen) (Err OutOfMemory, new)) (sym same)
          (subst (λ cause. Receives list old url now (Ok seen) (Err cause, new)) c.in-Err-OutOfMemory.field-0-is
          c.in-Err-OutOfMemory.ensures.rows),
      same,
    )
