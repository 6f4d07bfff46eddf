use Rattle.std.proofs.lemmas.Bool.{both_ways}
use Rattle.jiff.specs.Words.{civil_nanos}
use Rattle.user_agent.proofs.PlaceLemmas.{shows_places}
use Rattle.user_agent.proofs.secure_places.SecurePlaces.of.Goals as goal

pub returns : goal.returns
returns c = record {
  shown = shows_places (civil_nanos c.args.now) c.args.store.now.rows c.in_ok-places.places c.in_ok-places.ensures;
  stay = (
    c.if-not-rules.false,
    c.if-not-rules-2.false,
    λ secure. both_ways _ c.if-is_secure.false (c.is_secure.ensures.1 secure),
  );
}
