use Rattle.std.proofs.Common.{◌∙◌, ◌∷◌, List, ℕ, ap, subst}
use Rattle.std.specs.Prelude.{string_bytes}
use Rattle.cookie.specs.Sealing.{IsSealingUnder}
use Rattle.cookie_client.specs.Ending.{dated_text, mark}
use Rattle.cookie_client.proofs.ending.sealed_until.Goals as goal

pub returns-clause-ok : goal.returns-clause-ok
returns-clause-ok g c =
    let s = c.in_ok-sealed.ensures.ok in
    let name : List ℕ = c.args.name.now in
    let text : List ℕ = string_bytes c.in_ok-sealed.sealed in (
      s.0,
      s.1,
      s.2,
      (
        text,
        c.in_ok-marked.ensures ∙ ap (λ (t : List ℕ). mark ∷ t) c.deref-2.ensures,
        subst (λ (k : List ℕ). IsSealingUnder k name (dated_text c.args.until c.args.value.now) s.0 text)
            c.in_ok-key.ensures
            (subst (λ (v : List ℕ). IsSealingUnder c.in_ok-key.key name v s.0 text)
            (c.deref.ensures ∙ c.in_ok-dated.ensures) s.3),
      ),
    )
