use Rattle.std.proofs.Common.{◌≡◌, ◌≤◌, ℕ, ◌-◌, ◌∙◌, List, length, take, drop, ap, sym, subst, arith, Some}
use Rattle.seal.specs.Gcm.{Opens}
use Rattle.cookie.specs.Key.{encryption_half}
use Rattle.cookie.proofs.SealingLemmas.{MiddleIsSealedAs, last, middle, middle_of_sealed, sealed_of_middle}
use Rattle.cookie.proofs.SealingLemmas.{middle_written, opens_by_parts}
use Rattle.cookie.proofs.secure.sealing.opened_bytes.Goals as goal

pub returns-then-len : goal.returns-then-len
returns-then-len c =
    let key : List ℕ = c.args.key.now in
    let bytes : List ℕ = c.args.bytes.items in
    let half : length (encryption_half key) ≡ 32 = ap length (sym c.encryption-encryption.ensures.half)
    ∙ c.encryption-encryption.ensures.len in
    λ value. (
      λ e. cc e,
      λ s. let long : 28 ≤ length bytes = (middle_of_sealed c.lengths.ensures.tag key c.args.name.now value s.0 bytes
          half s.1 s.2).0 in
          absurd (omega arith),
    )

pub returns-in-Ok : goal.returns-in-Ok
returns-in-Ok c =
    let key : List ℕ = c.args.key.now in
    let name : List ℕ = c.args.name.now in
    let bytes : List ℕ = c.args.bytes.items in
    let lent : List ℕ = c.deref_mut.result.now in
    let new : List ℕ = c.open_in_registers.new.text in
    let end : ℕ = c.len-end.result in
    let half : length (encryption_half key) ≡ 32 = ap length (sym c.encryption-encryption.ensures.half)
    ∙ c.encryption-encryption.ensures.len in
    let end_is : end ≡ length bytes = c.len-end.ensures ∙ sym c.deref.ensures.len ∙ ap length c.deref.ensures.value in
    let len_is = sym c.deref_mut.ensures.len ∙ ap length c.deref_mut.ensures.value in
    let long : 28 ≤ end = omega arith in
    let items_are : c.without_ends.result.items ≡ new =
    c.without_ends.ensures ∙ (middle_written lent bytes new c.args.bytes.len end c.deref_mut.ensures.value len_is end_is
    long c.open_in_registers.auto.text).0 in
    let nonce_is : c.nonce_of-nonce.result ≡ take 12 bytes = c.nonce_of-nonce.ensures
    ∙ ap (take 12) c.deref.ensures.value in
    let tag_is : c.tag_of-tag.result ≡ last bytes = c.tag_of-tag.ensures ∙ ap last c.deref-2.ensures.value in
    let text_is : take (end - 16 - 12) (drop 12 lent) ≡ middle bytes =
    (λ i. take (end_is i - 16 - 12) (drop 12 (c.deref_mut.ensures.value i))) in
    let opened : MiddleIsSealedAs key name new bytes =
    opens_by_parts _ _ _ _ _ _ _ _ _ _ new c.encryption-encryption.ensures.half nonce_is c.as_bytes.ensures.value
    text_is tag_is c.in-Ok.ensures.ok in
    λ value. (
      λ e. let out : c.without_ends.result.items ≡ value = cc e in
          sealed_of_middle key name value bytes (omega arith)
          (subst (λ (v : List ℕ). MiddleIsSealedAs key name v bytes) (sym items_are ∙ out) opened),
      λ s. let other : MiddleIsSealedAs key name value bytes =
          (middle_of_sealed c.lengths.ensures.tag key name value s.0 bytes half s.1 s.2).1 in
          ap Some (items_are ∙ c.opening_is_the_converse.ensures.only (encryption_half key) (take 12 bytes) name
          (middle bytes) (last bytes) new value half opened other),
    )

pub returns-in-Err : goal.returns-in-Err
returns-in-Err c =
    let key : List ℕ = c.args.key.now in
    let name : List ℕ = c.args.name.now in
    let bytes : List ℕ = c.args.bytes.items in
    let lent : List ℕ = c.deref_mut.result.now in
    let end : ℕ = c.len-end.result in
    let half : length (encryption_half key) ≡ 32 = ap length (sym c.encryption-encryption.ensures.half)
    ∙ c.encryption-encryption.ensures.len in
    let end_is : end ≡ length bytes = c.len-end.ensures ∙ sym c.deref.ensures.len ∙ ap length c.deref.ensures.value in
    let nonce_is : c.nonce_of-nonce.result ≡ take 12 bytes = c.nonce_of-nonce.ensures
    ∙ ap (take 12) c.deref.ensures.value in
    let tag_is : c.tag_of-tag.result ≡ last bytes = c.tag_of-tag.ensures ∙ ap last c.deref-2.ensures.value in
    let text_is : take (end - 16 - 12) (drop 12 lent) ≡ middle bytes =
    (λ i. take (end_is i - 16 - 12) (drop 12 (c.deref_mut.ensures.value i))) in
    λ value. (
      λ e. cc e,
      λ s. let other : MiddleIsSealedAs key name value bytes =
          (middle_of_sealed c.lengths.ensures.tag key name value s.0 bytes half s.1 s.2).1 in
          let opens : Opens c.encryption-encryption.result.now c.nonce_of-nonce.result c.as_bytes.result.now
          (take (end - 16 - 12) (drop 12 lent)) c.tag_of-tag.result value =
          opens_by_parts _ _ _ _ _ _ _ _ _ _ value (sym c.encryption-encryption.ensures.half) (sym nonce_is)
          (sym c.as_bytes.ensures.value) (sym text_is) (sym tag_is) other in
          let yes = c.in-Err.ensures.accepted.1 (value, opens) in
          cc yes,
    )
