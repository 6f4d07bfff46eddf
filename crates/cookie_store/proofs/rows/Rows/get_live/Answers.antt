use Rattle.std.proofs.Common.{◌≡◌, ◌∙◌, not, true, false, ap, sym}
use Rattle.std.specs.Prelude.{Some, None, option_copied, option_map}
use Rattle.std.proofs.lemmas.Bool.{cond-true, cond-false}
use Rattle.jiff.specs.Words.{civil_nanos}
use Rattle.cookie_store.specs.Rows.{is_live, key}
use Rattle.cookie_store.specs.StoredCookie.{stored_of}
use Rattle.cookie_store.proofs.ApartLemmas.{live_is}
use Rattle.cookie_store.proofs.rows.Rows.get_live.Goals as goal

pub returns-in_err-cookie-clause-row : goal.returns-in_err-cookie-clause-row
returns-in_err-cookie-clause-row c =
    let k = key c.args.domain.now c.args.path.now c.args.name.now in
    rw c.from_residual.ensures
    (live_is (civil_nanos c.args.now) k c.args.self.now c.get.ensures.apart None
    (sym (ap (λ o. option_map stored_of (option_copied o)) c.in_err-cookie.was) ∙ c.get.ensures.row))

pub returns-then-is_expired-clause-row : goal.returns-then-is_expired-clause-row
returns-then-is_expired-clause-row c =
    let k = key c.args.domain.now c.args.path.now c.args.name.now in
    let now = civil_nanos c.args.now in
    let row = stored_of c.in_ok-cookie.cookie.now in
    let dead : is_live now row ≡ false = ap not (sym c.is_expired.ensures ∙ c.if-is_expired.true) in
    sym (cond-false (is_live now row) (Some row) None dead)
    ∙ live_is now k c.args.self.now c.get.ensures.apart (Some row)
    (sym (ap (λ o. option_map stored_of (option_copied o)) c.in_ok-cookie.was) ∙ c.get.ensures.row)

pub returns-else-is_expired-clause-row : goal.returns-else-is_expired-clause-row
returns-else-is_expired-clause-row c =
    let k = key c.args.domain.now c.args.path.now c.args.name.now in
    let now = civil_nanos c.args.now in
    let row = stored_of c.in_ok-cookie.cookie.now in
    let lives : is_live now row ≡ true = ap not (sym c.is_expired.ensures ∙ c.if-is_expired.false) in
    sym (cond-true (is_live now row) (Some row) None lives)
    ∙ live_is now k c.args.self.now c.get.ensures.apart (Some row)
    (sym (ap (λ o. option_map stored_of (option_copied o)) c.in_ok-cookie.was) ∙ c.get.ensures.row)
