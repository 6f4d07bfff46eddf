use Rattle.std.proofs.Common.{◌≡◌, sym, subst}
use Rattle.sha2.specs.Hashers.{Holds256}
use Rattle.seal.specs.Hmac.{key_block, padded_by, ipad}
use Rattle.seal.proofs.mac.MacKey.code.Goals as goal

pub returns : goal.returns
returns c key kept =
    let copy : c.unwrap-inner.result ≡ c.args.self.now.inner = rw c.unwrap-inner.ensures at c.clone.ensures.cases in
    c.outer_code.ensures key c.args.text.now kept
    (c.update.ensures _ (subst (λ h. Holds256 h (padded_by ipad (key_block key))) (sym copy) kept.inner))
