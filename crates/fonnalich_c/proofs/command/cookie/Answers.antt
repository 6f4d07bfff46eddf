use Rattle.std.proofs.Common.{◌≡◌, ◌≢◌, Ok, Err, inl, inr, refl, rules, subst, true, false}
use Rattle.cookie_text.specs.Decoding.{ReadsEncoded}
use Rattle.cookie_text.specs.Record.{domain_of}
use Rattle.cookie_text.specs.declared.error.ParseError.TheVariants.{OutOfMemory}
use Rattle.fonnalich_c.specs.Commands.{IsCookieOf, IsNoCookie, is_of_host}
use Rattle.fonnalich_c.proofs.command.cookie.Goals as goal

pub returns-in_ok-into_owned-in-Ok-parse_encoded-clause-ok : goal.returns-in_ok-into_owned-in-Ok-parse_encoded-clause-ok
unfolding IsCookieOf
returns-in_ok-into_owned-in-Ok-parse_encoded-clause-ok c =
    let read = c.in-Ok-parse_encoded.cookie in
    let is : is_of_host (domain_of read.cookie) read.cookie.path ≡ true = search rules in (
      read,
      (
        c.in-Ok.ensures.cases.1,
        subst (λ t. ReadsEncoded t (Ok read)) c.in-Ok.ensures.cases.0 c.in-Ok-parse_encoded.ensures,
      ),
      is,
      c.in_ok-into_owned-in-Ok-parse_encoded.ensures,
    )

pub returns-then-not-is_of_host-clause-err : goal.returns-then-not-is_of_host-clause-err
unfolding IsNoCookie
returns-then-not-is_of_host-clause-err c =
    let read = c.in-Ok-parse_encoded.cookie in
    let not : is_of_host (domain_of read.cookie) read.cookie.path ≡ false = search rules in
    let reads = subst (λ t. ReadsEncoded t (Ok read)) c.in-Ok.ensures.cases.0 c.in-Ok-parse_encoded.ensures in
    inr (refl, inr (inr (read, (c.in-Ok.ensures.cases.1, reads), not)))

pub returns-in-Err : goal.returns-in-Err
unfolding IsNoCookie
returns-in-Err c =
    let other : c.in-Err.field-0 ≢ OutOfMemory = search rules in
    let reads = subst (λ t. ReadsEncoded t (Err c.in-Err.field-0)) c.in-Ok.ensures.cases.0 c.in-Err.ensures in
    record {
      ok = tt;
      err = inr (refl, inr (inl (c.in-Err.field-0, other, reads)));
    }

pub returns-in_default-clause-err : goal.returns-in_default-clause-err
unfolding IsNoCookie
returns-in_default-clause-err c = inr (refl, inl c.in_default.ensures.cases.0)
