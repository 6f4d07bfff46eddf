use Rattle.std.proofs.Common.{◌≡◌, ◌∙◌, inl, inr, refl, ap, subst}
use Rattle.std.specs.Str.{IsUtf8}
use Rattle.jiff.specs.Words.{civil_nanos}
use Rattle.cookie_store.specs.Placing.{loaded_store}
use Rattle.cookie_store.proofs.serde.read_list.Goals as goal

pub returns-in_default-clause-err : goal.returns-in_default-clause-err
returns-in_default-clause-err g c =
    let (bytes, is, e) = c.in_ok-bytes.ensures.ok in
    inr (
      c.in_ok-bytes.ensures.failures,
      inr (bytes, is, inl (refl, subst (λ t. ¬ IsUtf8 t) (c.deref.ensures.value ∙ e) c.in_default.ensures.cases.0)),
    )

pub returns-clause-ok : goal.returns-clause-ok
returns-clause-ok g c =
    let (bytes, is, e) = c.in_ok-bytes.ensures.ok in
    let text : c.in-Ok.text.now ≡ bytes = c.in-Ok.ensures.cases.0 ∙ c.deref.ensures.value ∙ e in (
      bytes,
      is,
      (
        c.in_ok-closure.field-0,
        (
          subst IsUtf8 (c.deref.ensures.value ∙ e) c.in-Ok.ensures.cases.1,
          (c.closure.new.self, record { shown = c.in-Ok.text; shows = text; called = c.in_ok-closure.ensures }),
        ),
        c.in_ok-store.ensures ∙ ap (loaded_store c.args.with_expired (civil_nanos c.args.now)) c.in_ok-cookies.ensures,
      ),
    )
