use Rattle.std.proofs.Common.{◌≡◌, ◌∙◌, rules, inl, inr, false, refl, ap, sym}
use Rattle.std.specs.Prelude.{Err}
use Rattle.std.proofs.lemmas.Bool.{cond-false}
use Rattle.jiff.specs.Words.{civil_nanos}
use Rattle.store_parts.specs.Expiry.{is_dead}
use Rattle.store_parts.specs.declared.error.CookieError.TheVariants.{OutOfMemory}
use Rattle.cookie_store.specs.Insertion.{action_of}
use Rattle.cookie_store.specs.Rows.{put}
use Rattle.cookie_store.specs.StoredCookie.{stored_of}
use Rattle.cookie_store.proofs.EndLemmas.{action_puts}
use Rattle.cookie_store.proofs.store.enter.Goals as goal

pub returns-then-not-matches-clause-rows : goal.returns-then-not-matches-clause-rows
returns-then-not-matches-clause-rows c = inl (inl (search rules, refl))

pub returns-in-Err-clause-rows : goal.returns-in-Err-clause-rows
returns-in-Err-clause-rows c =
    let row = stored_of c.args.cookie in
    let rows = c.args.rows.now in
    let now = civil_nanos c.args.now in
    let dead : is_dead now row.death ≡ false = sym c.is_expired.ensures ∙ c.if-is_expired.false in
    inr (
      action_of row rows,
      put row rows,
      action_puts row rows,
      inr (search rules, inr (search rules, sym (cond-false (is_dead now row.death) _ _ dead))),
      ap (λ rs. (Err OutOfMemory, rs)) c.in-Err.ensures.err,
    )
