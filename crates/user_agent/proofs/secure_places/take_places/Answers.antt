use Rattle.user_agent.proofs.PlaceLemmas.{others_stay}
use Rattle.user_agent.proofs.secure_places.take_places.Goals as goal

pub returns-in-Some-clause-others : goal.returns-in-Some-clause-others
returns-in-Some-clause-others c =
    others_stay c.args.places.now c.remove.new.self c.args.name.now c.in-Some.ensures.entries
