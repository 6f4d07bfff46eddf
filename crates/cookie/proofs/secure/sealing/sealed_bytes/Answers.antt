use Rattle.std.proofs.Common.{◌≡◌, ℕ, ◌-◌, ◌∙◌, List, ◌++◌, length, take, drop, IfOk, ap, sym, append_assoc}
use Rattle.seal.specs.Gcm.{Sealed}
use Rattle.cookie.proofs.SealingLemmas.{behind_nonce, text_behind}
use Rattle.cookie.proofs.secure.sealing.sealed_bytes.Goals as goal

pub returns : goal.returns
returns c =
    let nonce : List ℕ = c.args.nonce.now in
    let value : List ℕ = c.args.value.now in
    let held : List ℕ = c.extend_from_slice-2.new.self.items in
    let lent : List ℕ = c.deref_mut.result.now in
    let new : List ℕ = c.seal_in_registers.new.text in
    let tag : List ℕ = c.unwrap-tag.result in
    let nonce_held = c.in_ok-extend_from_slice.ensures.items
    ∙ ap (λ (q : List ℕ). q ++ nonce) c.in_ok-bytes.ensures.items in
    let held_is : held ≡ nonce ++ value =
    c.in_ok-extend_from_slice-2.ensures.items ∙ (λ i. nonce_held i ++ c.as_bytes.ensures.value i) in
    let lent_is : lent ≡ nonce ++ value = c.deref_mut.ensures.value ∙ held_is in
    let len_is = sym c.deref_mut.ensures.len ∙ ap length c.deref_mut.ensures.value in
    let written = behind_nonce lent held new nonce value c.extend_from_slice-2.new.self.len c.deref_mut.ensures.value
    len_is held_is c.told-nonce c.seal_in_registers.auto.text in
    let sealed : IfOk c.seal_in_registers.result (λ tag. Sealed c.encryption.result.now nonce c.as_bytes-2.result.now
    (take (length lent - 12) (drop 12 lent)) new tag) =
    c.seal_in_registers.ensures.ok in
    let sealed_as = rw (
      c.unwrap-tag.ensures,
      c.encryption.ensures.half,
      c.as_bytes-2.ensures.value,
      text_behind lent nonce value lent_is c.told-nonce,
    ) at sealed in
    record {
      ciphertext = new;
      tag = tag;
      sealed = sealed_as;
      bytes_are = c.in_ok-extend_from_slice-3.ensures.items ∙ ap (λ (q : List ℕ). q ++ tag) written
          ∙ append_assoc nonce new tag;
    }
