use Rattle.std.proofs.Common.{◌∙◌, false, ap, sym}
use Rattle.std.specs.Prelude.{unwrap_or}
use Rattle.cookie_text.specs.Printing.{is_set}
use Rattle.jiff.specs.Words.{civil_nanos}
use Rattle.cookie_store.specs.Rows.{Row, key_of}
use Rattle.cookie_store.specs.StoredCookie.{stored_of}
use Rattle.cookie_store.proofs.ApartLemmas.{any_among, passes}
use Rattle.cookie_store.proofs.StoreLemmas.{set_is}
use Rattle.cookie_store.proofs.store.is_http_only.Goals as goal

pub returns-in-Some : goal.returns-in-Some
returns-in-Some c =
    c.unwrap_or.ensures
    ∙ ap (λ o. unwrap_or o false) (c.http_only.ensures ∙ ap (λ s. s.cookie.http_only) c.raw.ensures)
    ∙ set_is (stored_of c.in-Some.old.now).raw.cookie.http_only
    ∙ sym (any_among (civil_nanos c.args.now) (key_of (stored_of c.args.cookie.now))
    (λ (r : Row). is_set r.raw.cookie.http_only) c.args.rows.now c.in-Some.ensures.apart
    ∙ ap (passes (λ (r : Row). is_set r.raw.cookie.http_only)) (sym c.in-Some.ensures.row))

pub returns-in-None : goal.returns-in-None
returns-in-None c =
    sym (any_among (civil_nanos c.args.now) (key_of (stored_of c.args.cookie.now))
    (λ (r : Row). is_set r.raw.cookie.http_only) c.args.rows.now c.in-None.ensures.apart
    ∙ ap (passes (λ (r : Row). is_set r.raw.cookie.http_only)) (sym c.in-None.ensures.row))
