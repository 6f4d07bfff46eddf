use Rattle.std.proofs.Common.{List, ℕ, ap, subst, ◌∙◌}
use Rattle.cookie_text.specs.Setting.{with_value}
use Rattle.cookie.specs.KeyRing.{GivesAt}
use Rattle.cookie.proofs.TrialLemmas.{Signs}
use Rattle.cookie.proofs.secure.signed_ring_jar.verified.Goals as goal

pub returns-in-Some : goal.returns-in-Some
returns-in-Some c = (
  c.in-Some.value.now,
  subst (λ (t : List ℕ). GivesAt (Signs t) c.args.now c.args.ring.now c.in-Some.value.now c.in-Some.place)
      c.value.ensures c.in-Some.ensures,
  c.set_value_owned.ensures ∙ ap (with_value c.args.cookie) c.in_ok-value-in-Some.ensures.ok,
)

pub returns : goal.returns
returns c = λ p k v at is. c.in-None.ensures p k v at (c.value.ensures ∙ is)
