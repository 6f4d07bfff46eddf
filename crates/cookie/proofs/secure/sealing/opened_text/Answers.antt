use Rattle.std.proofs.Common.{◌≡◌, ◌∙◌, ap, sym, subst, Some}
use Rattle.std.proofs.lemmas.Str.{IsUtf8-string_bytes}
use Rattle.std.specs.Str.{IsUtf8}
use Rattle.std.specs.String.{string_bytes}
use Rattle.cookie.proofs.secure.sealing.opened_text.Goals as goal

pub returns-in_default : goal.returns-in_default
returns-in_default c = λ value. (λ e. cc e, λ s. let none = (c.in_default.ensures value).1 (s.1, s.2, s.3) in cc none)

pub returns-in-Ok : goal.returns-in-Ok
returns-in-Ok c =
    let same : string_bytes c.in-Ok.text ≡ c.in-Some.value.items = ap (λ v. v.items) c.in-Ok.ensures.ok in
    λ value. (
      λ e. let is : string_bytes c.in-Ok.text ≡ value = cc e in
          let s = (c.in-Some.ensures value).0 (ap Some (sym same ∙ is)) in
          (subst IsUtf8 is (IsUtf8-string_bytes c.in-Ok.text), s.0, s.1, s.2),
      λ s. let e = (c.in-Some.ensures value).1 (s.1, s.2, s.3) in
          let is : c.in-Some.value.items ≡ value = cc e in
          ap Some (same ∙ is),
    )

pub returns : goal.returns
returns c = λ value. (
  λ e. cc e,
  λ s. let e = (c.in-Some.ensures value).1 (s.1, s.2, s.3) in
      let is : c.in-Some.value.items ≡ value = cc e in
      let yes = c.in-Err.ensures.succeeds (subst IsUtf8 (sym is) s.0) in
      cc yes,
)
