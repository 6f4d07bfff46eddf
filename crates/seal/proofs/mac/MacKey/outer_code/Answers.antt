use Rattle.std.proofs.Common.{◌≡◌, ℕ, List, ◌++◌, ap, sym, subst, ◌∙◌}
use Rattle.sha2.specs.Hashers.{Holds256}
use Rattle.sha2.specs.Sha256.{sha256}
use Rattle.seal.specs.Hmac.{hmac, key_block, padded_by, ipad, opad}
use Rattle.seal.proofs.mac.MacKey.outer_code.Goals as goal

pub returns : goal.returns
unfolding hmac
returns c key text kept held =
    let pad : ℕ → List ℕ = λ p. padded_by p (key_block key) in
    let copy : c.unwrap-outer.result ≡ c.args.self.now.outer = rw c.unwrap-outer.ensures at c.clone.ensures.cases in
    let inner : c.finalize.result ≡ sha256 (pad ipad ++ text) = c.finalize.ensures _ held in
    let outer : c.finalize-2.result ≡ sha256 (pad opad ++ c.finalize.result) =
    c.finalize-2.ensures _ (c.update.ensures _ (subst (λ h. Holds256 h (pad opad)) (sym copy) kept.outer)) in
    outer ∙ ap (λ (d : List ℕ). sha256 (pad opad ++ d)) inner
