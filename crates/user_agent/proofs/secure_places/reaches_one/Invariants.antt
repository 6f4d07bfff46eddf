use Rattle.std.proofs.Common.{map, take}
use Rattle.user_agent.specs.SecurePlaces.{IsOneReached, texts_of}
use Rattle.user_agent.proofs.secure_places.reaches_one.Given as goal

abbrev pub invariant-loop-place : goal.invariant-loop-place
invariant-loop-place l = ¬ (IsOneReached l.domain l.path (map texts_of (take l.place-index l.places)))
