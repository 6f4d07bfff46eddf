use Rattle.std.proofs.Common.{◌≡◌, List, ℕ, refl}
use Rattle.std.proofs.lemmas.Bool.{false≢true}
use Rattle.seal.specs.Gcm.{IsSealable, ciphered, tag}
use Rattle.seal.proofs.GcmLemmas.{sealable_from_opens, opens_by_ciphering}
use Rattle.seal.proofs.register_gcm.open_in_registers.Goals as goal

pub returns-then-not-is_sealable-clause-accepted : goal.returns-then-not-is_sealable-clause-accepted
returns-then-not-is_sealable-clause-accepted c = (
  λ e. absurd (false≢true e),
  λ o. c.if-not-is_sealable.ensures.1 (sealable_from_opens _ _ _ _ _ o.0 c.told-key o.1),
)

pub returns-clause-ok : goal.returns-clause-ok
returns-clause-ok c =
    let key : List ℕ = c.args.key.now in
    let within : IsSealable c.args.aad.now c.args.text.now = c.if-not-is_sealable.ensures.0 refl in
    let same : c.args.tag.now ≡ tag key c.args.nonce.now c.args.aad.now c.args.text.now =
    (c.if-not-has_tag.ensures key c.schedule-w.ensures).0 refl in
    rw (c.cipher.ensures key c.told-key c.schedule-w.ensures) (opens_by_ciphering _ _ _ _ _ c.told-key within same)

pub returns-clause-accepted : goal.returns-clause-accepted
returns-clause-accepted c =
    let key : List ℕ = c.args.key.now in
    let within : IsSealable c.args.aad.now c.args.text.now = c.if-not-is_sealable.ensures.0 refl in
    let same : c.args.tag.now ≡ tag key c.args.nonce.now c.args.aad.now c.args.text.now =
    (c.if-not-has_tag.ensures key c.schedule-w.ensures).0 refl in (
      λ e. (ciphered key c.args.nonce.now c.args.text.now, opens_by_ciphering _ _ _ _ _ c.told-key within same),
      λ o. refl,
    )

pub returns-clause-refused : goal.returns-clause-refused
returns-clause-refused c =
    let key : List ℕ = c.args.key.now in
    let within : IsSealable c.args.aad.now c.args.text.now = c.if-not-is_sealable.ensures.0 refl in
    let same : c.args.tag.now ≡ tag key c.args.nonce.now c.args.aad.now c.args.text.now =
    (c.if-not-has_tag.ensures key c.schedule-w.ensures).0 refl in (
      λ e. let no : ⊥ = cc in absurd no,
      λ r. absurd (r.1 _ (opens_by_ciphering _ _ _ _ _ c.told-key within same)),
    )
