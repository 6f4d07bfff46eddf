use Rattle.std.proofs.Common.{◌≡◌, ◌∙◌, true, false, not, ap, sym, subst}
use Rattle.std.specs.Prelude.{Ok, MatchOption, is_some}
use Rattle.std.specs.List.{list_any}
use Rattle.std.proofs.lemmas.Bool.{cond-true, cond-false}
use Rattle.jiff.specs.Words.{civil_nanos}
use Rattle.cookie_store.specs.Rows.{key, key_of, found, is_live_of, put, expired}
use Rattle.cookie_store.specs.StoredCookie.{stored_of}
use Rattle.cookie_store.specs.declared.action.StoreAction.TheVariants.{ExpiredExisting}
use Rattle.cookie_store.proofs.ApartLemmas.{any_is_found, expired_is_ended}
use Rattle.cookie_store.proofs.StoreLemmas.{shown_there}
use Rattle.cookie_store.proofs.store.bury.Goals as goal

pub returns-then-is_none-clause-end : goal.returns-then-is_none-clause-end
returns-then-is_none-clause-end c =
    let now = civil_nanos c.args.now in
    let row = stored_of c.args.cookie.now in
    let none : list_any (is_live_of now row) c.args.rows.now ≡ false =
    any_is_found (is_live_of now row) c.args.rows.now ∙ sym (ap is_some c.get_live_of.ensures.row)
    ∙ shown_there c.get_live_of.result ∙ c.is_none.ensures ∙ ap not c.if-is_none.true in
    sym (cond-false (list_any (is_live_of now row) c.args.rows.now) _ _ none)

pub returns-clause-end : goal.returns-clause-end
returns-clause-end c =
    let now = civil_nanos c.args.now in
    let row = stored_of c.args.cookie.now in
    let rows = c.args.rows.now in
    let new = c.expire.new.self in
    let any : list_any (is_live_of now row) rows ≡ true =
    any_is_found (is_live_of now row) rows ∙ sym (ap is_some c.get_live_of.ensures.row)
    ∙ shown_there c.get_live_of.result ∙ c.is_none.ensures ∙ ap not c.if-is_none.false in
    let same : key c.domain_text.result.now c.as_str.result.now c.name.result.now ≡ key_of row =
    λ i. record {
      domain = c.domain_text.ensures i;
      path = c.as_str.ensures i;
      name = (c.name.ensures ∙ ap (λ s. s.cookie.name) c.raw.ensures) i;
    } in
    ap (λ rs. (Ok ExpiredExisting, rs))
    (expired_is_ended now row rows new c.get_live_of.ensures.apart any
    (subst (λ k. MatchOption (found k rows) (new ≡ rows) (λ old. new ≡ put (expired old) rows)) same c.expire.ensures))
    ∙ sym (cond-true (list_any (is_live_of now row) rows) _ _ any)
