use Rattle.std.proofs.Common.{◌++◌, ◌∷◌, [], Some, None, ◌∙◌, sym, ap}
use Rattle.std.proofs.lemmas.Bool.{false≢true}
use Rattle.std.proofs.lemmas.Bool.Decides.{Decides-eqb}
use Rattle.std.proofs.lemmas.Slice.Eq.{strip_suffix_is, ends_is}
use Rattle.matching.proofs.DomainLemmas.{EndsAfterDot-append, EndsAfterDot-end}
use Rattle.matching.proofs.domains.ends_after_dot.Goals as goal

pub returns-in-Some : goal.returns-in-Some
returns-in-Some c =
    let host = c.as_bytes.ensures.value in
    let domain = c.as_bytes-2.ensures.value in
    let split = strip_suffix_is Decides-eqb _ _ (Some c.in-Some.before) c.in-Some.ensures.cases in
    let law = EndsAfterDot-append c.args.host.now c.in-Some.before.now c.args.domain.now
    (sym host ∙ split ∙ ap (λ d. c.in-Some.before.now ++ d) domain) in
    let ends = ends_is Decides-eqb c.in-Some.before.now (46 ∷ []) _ c.ends_with.ensures.value in
    (λ t. law.1 (_, ends.0 t), λ h. let front = law.0 h in ends.1 front.0 front.1)

pub returns-in-None : goal.returns-in-None
returns-in-None c =
    let host = c.as_bytes.ensures.value in
    let domain = c.as_bytes-2.ensures.value in
    let none = strip_suffix_is Decides-eqb _ _ None c.in-None.ensures.cases in (
      λ t. absurd (false≢true t),
      λ h.
          let end = EndsAfterDot-end c.args.host.now c.args.domain.now h in
          absurd (none end.0 (host ∙ end.1 ∙ ap (λ d. end.0 ++ d) (sym domain))),
    )
