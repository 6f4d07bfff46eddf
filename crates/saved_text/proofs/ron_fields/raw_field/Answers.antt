use Rattle.std.proofs.Common.{codes, string_bytes, refl, sym, subst}
use Rattle.std.proofs.lemmas.Result.{err_from_is_err_and}
use Rattle.std.proofs.lemmas.Bool.{false≢true}
use Rattle.saved_text.specs.Ron.{string}
use Rattle.saved_text.specs.Saved.{IsCookieText}
use Rattle.saved_text.proofs.FieldLemmas.{StopsAs-field, StopsAs-raw, raw_taken, raw_unread, raw_read}
use Rattle.saved_text.proofs.ron_fields.raw_field.Goals as goal

pub returns-in_err-rest : goal.returns-in_err-rest
returns-in_err-rest c =
    let p = err_from_is_err_and c.from_residual.result c.from_residual.ensures.1 in
    rw (p.1, p.2) (StopsAs-field (codes "raw_cookie") string c.args.text.now _ c.in_err-rest.ensures)

pub returns-in_err-value : goal.returns-in_err-value
returns-in_err-value c =
    let p = err_from_is_err_and c.from_residual-in_err-value.result c.from_residual-in_err-value.ensures.1 in
    rw (p.1, p.2) (StopsAs-raw c.args.text.now c.in_ok-rest.rest.now c.gap-quote.result.now _ c.in_ok-rest.ensures
    c.gap-quote.ensures c.in_err-value.ensures)

pub returns-then-is_cookie : goal.returns-then-is_cookie
returns-then-is_cookie c =
    let reads = subst IsCookieText c.as_str.ensures.value (c.if-is_cookie.ensures.0 refl) in (
      raw_taken c.args.text.now c.in_ok-rest.rest.now c.gap-quote.result.now c.in_ok-value.rest.now
          (string_bytes c.in_ok-value.value) c.in_ok-rest.ensures c.gap-quote.ensures c.in_ok-value.ensures,
      (raw_read (string_bytes c.in_ok-value.value) reads, reads),
    )

pub returns : goal.returns
returns c = (
  raw_taken c.args.text.now c.in_ok-rest.rest.now c.gap-quote.result.now c.in_ok-value.rest.now
      (string_bytes c.in_ok-value.value) c.in_ok-rest.ensures c.gap-quote.ensures c.in_ok-value.ensures,
  raw_unread c.args.text.now c.in_ok-rest.rest.now c.gap-quote.result.now c.in_ok-value.rest.now
      (string_bytes c.in_ok-value.value) c.in_ok-rest.ensures c.gap-quote.ensures c.in_ok-value.ensures
      (λ h. false≢true (c.if-is_cookie.ensures.1 (subst IsCookieText (sym c.as_str.ensures.value) h))),
)
