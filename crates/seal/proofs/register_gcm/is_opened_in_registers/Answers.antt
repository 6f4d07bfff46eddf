use Rattle.std.proofs.Common.{◌≡◌, List, ℕ, refl}
use Rattle.std.proofs.lemmas.Bool.{false≢true}
use Rattle.seal.specs.Gcm.{IsSealable, ciphered, tag}
use Rattle.seal.proofs.GcmLemmas.{sealable_from_opens, opens_by_ciphering}
use Rattle.seal.proofs.register_gcm.is_opened_in_registers.Goals as goal

pub returns-then-not-is_sealable : goal.returns-then-not-is_sealable
returns-then-not-is_sealable c = (
  λ e. absurd (false≢true e),
  λ o. c.if-not-is_sealable.ensures.1 (sealable_from_opens _ _ _ _ _ o.0 c.told-key o.1),
)

pub returns : goal.returns
returns c =
    let key : List ℕ = c.args.key.now in
    let within : IsSealable c.args.aad.now c.args.text.now = c.if-not-is_sealable.ensures.0 refl in
    let has = c.has_tag.ensures key c.schedule.ensures in (
      λ e. (ciphered key c.args.nonce.now c.args.text.now, opens_by_ciphering _ _ _ _ _ c.told-key within (has.0 e)),
      λ o. has.1 o.1.tag_is,
    )
