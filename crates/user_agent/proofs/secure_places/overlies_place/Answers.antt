use Rattle.std.proofs.Common.{◌≡◌, ◌∙◌, List, map, refl, subst, sym, ap, ℕ}
use Rattle.std.specs.Prelude.{◌↔◌, IsTrue}
use Rattle.percent_encoding.specs.Percent.{percent_decode}
use Rattle.user_agent.specs.SecurePlaces.{IsOneReached, places_at, texts_of}
use Rattle.user_agent.proofs.PlaceLemmas.{has_no_place, has_places}
use Rattle.user_agent.proofs.secure_places.overlies_place.Goals as goal

pub returns-in-Some : goal.returns-in-Some
returns-in-Some c =
    let name = c.as_slice.ensures.value ∙ c.in_ok-name.ensures in
    let is = has_places c.args.places.now (percent_decode c.args.name.now) c.as_slice.result.now name
    c.in-Some.of_name.now c.in-Some.ensures.value in
    let items = ap (map texts_of) c.deref.ensures.value in
    subst (λ ps. IsTrue c.reaches_one.result ↔ IsOneReached c.args.domain.now c.args.path.now ps) (items ∙ sym is)
    c.reaches_one.ensures

pub returns : goal.returns
returns c =
    let name = c.as_slice.ensures.value ∙ c.in_ok-name.ensures in
    let is = has_no_place c.args.places.now (percent_decode c.args.name.now) c.as_slice.result.now name
    c.in-None.ensures.value in (
      λ t. absurd (cc t),
      λ h. absurd (subst (IsOneReached c.args.domain.now c.args.path.now) is h),
    )
