use Rattle.std.proofs.Common.{◌≡◌, ℕ, List, ◌++◌, ap, sym, subst, ◌∙◌, append_assoc}
use Rattle.sha2.specs.Hashers.{Holds256}
use Rattle.seal.specs.Hmac.{key_block, padded_by, ipad}
use Rattle.seal.proofs.mac.MacKey.code_of_parts.Goals as goal

pub returns : goal.returns
returns c key kept =
    let first : List ℕ = c.args.first.now in
    let second : List ℕ = c.args.second.now in
    let third : List ℕ = c.args.third.now in
    let pad : List ℕ = padded_by ipad (key_block key) in
    let copy : c.unwrap-inner.result ≡ c.args.self.now.inner = rw c.unwrap-inner.ensures at c.clone.ensures.cases in
    let text : ((pad ++ first) ++ second) ++ third ≡ pad ++ ((first ++ second) ++ third) =
    ap (λ (q : List ℕ). q ++ third) (append_assoc pad first second) ∙ append_assoc pad (first ++ second) third in
    c.outer_code.ensures key ((first ++ second) ++ third) kept
    (subst (λ (q : List ℕ). Holds256 c.update-3.new.self q) text
    (c.update-3.ensures _ (c.update-2.ensures _ (c.update.ensures _
    (subst (λ h. Holds256 h pad) (sym copy) kept.inner)))))
