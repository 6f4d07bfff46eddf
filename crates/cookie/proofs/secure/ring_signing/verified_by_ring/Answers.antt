use Rattle.std.proofs.Common.{◌≡◌, ◌∙◌}
use Rattle.cookie.proofs.SigningLemmas.{boundary_of_signing}
use Rattle.cookie.proofs.TrialLemmas.{IsCut, signed_first, signed_none}
use Rattle.cookie.proofs.secure.ring_signing.verified_by_ring.Goals as goal

pub returns-in_default : goal.returns-in_default
returns-in_default c = λ p k v at is.
    let cut = c.in_default.ensures.variant.1
    (boundary_of_signing c.lengths.ensures.code k v c.args.text.now c.utf8.text is) in
    cc cut

pub returns-in-Some-first_place : goal.returns-in-Some-first_place
returns-in-Some-first_place c =
    let cut : IsCut c.args.text.now c.as_bytes.result.now c.as_bytes-2.result.now =
    record {
      front_is = c.as_bytes.ensures.value ∙ c.in-Some.ensures.front;
      rest_is = c.as_bytes-2.ensures.value ∙ c.in-Some.ensures.back;
    } in
    signed_first c.lengths.ensures.code c.args.text.now c.as_bytes.result.now c.as_bytes-2.result.now
    c.in-Some.value.now c.args.now c.args.ring.now c.verdicts.result c.in-Some-first_place.place cut
    c.as_bytes-2.ensures.value c.verdicts.ensures c.in-Some-first_place.ensures.0 c.in-Some-first_place.ensures.1
    c.in-Some-first_place.ensures.2

pub returns-in-None : goal.returns-in-None
returns-in-None c =
    let cut : IsCut c.args.text.now c.as_bytes.result.now c.as_bytes-2.result.now =
    record {
      front_is = c.as_bytes.ensures.value ∙ c.in-Some.ensures.front;
      rest_is = c.as_bytes-2.ensures.value ∙ c.in-Some.ensures.back;
    } in
    signed_none c.lengths.ensures.code c.args.text.now c.as_bytes.result.now c.as_bytes-2.result.now c.args.now
    c.args.ring.now c.verdicts.result cut c.verdicts.ensures c.in-None.ensures
