use Rattle.std.proofs.Common.{◌∙◌, ap, subst, sym}
use Rattle.std.specs.Prelude.{option_map}
use Rattle.jiff.specs.Words.{civil_nanos}
use Rattle.user_agent.specs.SecurePlaces.{ShowPlaces, entries_of}
use Rattle.user_agent.proofs.PlaceLemmas.{overlies_by_places}
use Rattle.user_agent.proofs.secure_places.SecurePlaces.overlies.Goals as goal

pub returns-in-Some : goal.returns-in-Some
returns-in-Some c =
    let shows = subst (λ places. ShowPlaces places (civil_nanos c.args.now) c.args.store.now.rows)
    (sym c.self.view_is ∙ ap (option_map entries_of) c.in-Some.is) c.requires in
    overlies_by_places c.args.name.now c.args.domain.now c.args.path.now (civil_nanos c.args.now) c.args.store.now.rows
    c.in-Some.places shows c.overlies_place.result c.overlies_place.ensures
