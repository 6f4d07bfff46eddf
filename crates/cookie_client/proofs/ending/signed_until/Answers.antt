use Rattle.std.proofs.Common.{◌≡◌, ◌∙◌, ◌∷◌, List, ℕ, IfOk, subst}
use Rattle.std.specs.Prelude.{string_bytes}
use Rattle.cookie.specs.Signing.{signing}
use Rattle.cookie_client.specs.Ending.{mark}
use Rattle.cookie_client.proofs.ending.signed_until.Goals as goal

pub returns : goal.returns
returns c =
    subst (λ (t : List ℕ). IfOk c.marked.result (λ text. string_bytes text ≡ mark ∷ t))
    (c.deref-2.ensures ∙ c.in_ok-signed_text.ensures
    ∙ (λ i. signing (c.in_ok-key.ensures i) ((c.deref.ensures ∙ c.in_ok-dated.ensures) i))) c.marked.ensures
