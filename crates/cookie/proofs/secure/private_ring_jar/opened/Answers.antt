use Rattle.std.proofs.Common.{List, ℕ, Option, String, Global, subst}
use Rattle.std.specs.Prelude.{string_bytes}
use Rattle.cookie.specs.KeyRing.{GivesAt, GivesNone, GivesUnder}
use Rattle.cookie.specs.Trials.{GivesValue, told}
use Rattle.cookie.proofs.RingLemmas.{of_cookie}
use Rattle.cookie.proofs.secure.private_ring_jar.opened.Goals as goal

pub returns-in-Some : goal.returns-in-Some
returns-in-Some c =
    let Gives : List ℕ → List ℕ → Type 0 = GivesValue c.name.result.now c.value.result.now in (
      string_bytes c.in-Some.value,
      of_cookie (λ G. GivesAt G c.args.now c.args.ring.now (string_bytes c.in-Some.value) c.in-Some.place)
          c.name.result.now c.value.result.now c.args.cookie.cookie.name c.args.cookie.cookie.value c.name.ensures
          c.value.ensures
          (subst (λ (o : Option (String Global × ℕ)). GivesUnder Gives c.args.now c.args.ring.now (told o))
          c.in-Some.is c.in_ok-value.ensures),
      c.set_value_owned.ensures,
    )

pub returns : goal.returns
returns c =
    let Gives : List ℕ → List ℕ → Type 0 = GivesValue c.name.result.now c.value.result.now in
    of_cookie (λ G. GivesNone G c.args.now c.args.ring.now) c.name.result.now c.value.result.now
    c.args.cookie.cookie.name c.args.cookie.cookie.value c.name.ensures c.value.ensures
    (subst (λ (o : Option (String Global × ℕ)). GivesUnder Gives c.args.now c.args.ring.now (told o)) c.in-None.is
    c.in_ok-value.ensures)
