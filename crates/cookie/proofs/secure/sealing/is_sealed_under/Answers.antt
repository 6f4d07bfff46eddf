use Rattle.std.proofs.Common.{◌≡◌, ℕ, ◌-◌, ◌∙◌, List, length, take, drop, ap, sym, refl, arith}
use Rattle.cookie.specs.Key.{encryption_half}
use Rattle.cookie.proofs.SealingLemmas.{MiddleIsSealedAs, last, middle, middle_of_sealed, sealed_of_middle}
use Rattle.cookie.proofs.SealingLemmas.{opens_by_parts}
use Rattle.cookie.proofs.secure.sealing.is_sealed_under.Goals as goal

pub returns : goal.returns
returns c =
    let key : List ℕ = c.args.key.now in
    let name : List ℕ = c.args.name.now in
    let bytes : List ℕ = c.args.bytes.now in
    let half : length (encryption_half key) ≡ 32 = ap length (sym c.encryption-encryption.ensures.half)
    ∙ c.encryption-encryption.ensures.len in (
      λ e. let opens = c.is_opened_in_registers.ensures.0 e in
          let sealed : MiddleIsSealedAs key name opens.0 bytes =
          opens_by_parts _ _ _ _ _ _ _ _ _ _ opens.0 c.encryption-encryption.ensures.half c.nonce_of-nonce.ensures
          c.as_bytes.ensures.value refl c.tag_of-tag.ensures opens.1 in
          let parts = sealed_of_middle key name opens.0 bytes (omega arith) sealed in
          (opens.0, parts.0, parts.1, parts.2),
      λ s. let other : MiddleIsSealedAs key name s.0 bytes =
          (middle_of_sealed c.lengths.ensures.tag key name s.0 s.1 bytes half s.2 s.3).1 in
          c.is_opened_in_registers.ensures.1 (
            s.0,
            opens_by_parts _ _ _ _ _ _ _ _ _ _ s.0 (sym c.encryption-encryption.ensures.half)
                (sym c.nonce_of-nonce.ensures) (sym c.as_bytes.ensures.value) refl (sym c.tag_of-tag.ensures) other,
          ),
    )
