use Rattle.std.proofs.Common.{◌∙◌, Some, ap, inl, inr, ⊎_elim, subst}
use Rattle.cookie_client.specs.Jar.{IsRemovalRefusal}
use Rattle.fonnalich_c.specs.Numbers.{told_as}
use Rattle.fonnalich_c.proofs.exchange.remove.Goals as goal

pub returns-in-Err-clause-err : goal.returns-in-Err-clause-err
returns-in-Err-clause-err c =
    ⊎_elim (λ why. inr (
      c.in-Err.error,
      subst (λ name. IsRemovalRefusal name c.args.now (Some c.in-Err.error)) c.as_str.ensures.value why,
      c.refused.ensures,
    )) (λ lack. inl (c.refused.ensures ∙ ap told_as lack.0)) c.in-Err.ensures.err
