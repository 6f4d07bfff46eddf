use Rattle.std.proofs.Common.{◌≡◌, ℕ, List, ap, sym, ◌∙◌, Some}
use Rattle.cookie.specs.Base64.{base64}
use Rattle.cookie.specs.Signing.{signing}
use Rattle.cookie.proofs.SigningLemmas.{code, boundary_of_signing, signing_from_parts, parts_of_signing}
use Rattle.cookie.proofs.secure.signing.verified_value.Goals as goal

pub returns-in_default : goal.returns-in_default
returns-in_default c = λ value. (
  λ e. cc e,
  λ e. let cut = c.in_default.ensures.variant.1
      (boundary_of_signing c.lengths.ensures.code c.args.key.now value c.args.text.now c.utf8.text e) in
      cc cut,
)

pub returns-then-equal_bytes : goal.returns-then-equal_bytes
returns-then-equal_bytes c =
    let key : List ℕ = c.args.key.now in
    let right : base64 c.code.result ≡ code key c.in-Some.value.now =
    ap base64 c.code.ensures ∙ ap (code key) c.as_bytes.ensures.value in
    let same : c.in-Some.code.now ≡ code key c.in-Some.value.now =
    sym c.as_bytes-2.ensures.value ∙ c.equal_bytes.ensures.0 c.if-equal_bytes.true
    ∙ c.code_text-right.ensures ∙ right in
    let is : c.args.text.now ≡ signing key c.in-Some.value.now =
    signing_from_parts key _ c.args.text.now _ c.in-Some.ensures.front c.in-Some.ensures.back same in
    λ value. (
      λ e. let v : c.in-Some.value.now ≡ value = cc e in is ∙ ap (signing key) v,
      λ e. ap Some (parts_of_signing c.lengths.ensures.code key value c.args.text.now _ _ c.in-Some.ensures.front
          c.in-Some.ensures.back e).1,
    )

pub returns-else-equal_bytes : goal.returns-else-equal_bytes
returns-else-equal_bytes c = λ value. (
  λ e. cc e,
  λ e. let key : List ℕ = c.args.key.now in
      let parts = parts_of_signing c.lengths.ensures.code key value c.args.text.now _ _ c.in-Some.ensures.front
      c.in-Some.ensures.back e in
      let right : base64 c.code.result ≡ code key c.in-Some.value.now =
      ap base64 c.code.ensures ∙ ap (code key) c.as_bytes.ensures.value in
      let yes = c.equal_bytes.ensures.1 (c.as_bytes-2.ensures.value ∙ parts.0
      ∙ sym (c.code_text-right.ensures ∙ right)) in
      let no = c.if-equal_bytes.false in
      cc (yes, no),
)
