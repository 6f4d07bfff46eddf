use Rattle.cookie.specs.Trials.{GivesBelow, GivesValue, told}
use Rattle.cookie.proofs.secure.ring_sealing.opened_by_ring.Given as goal

abbrev pub invariant-loop-place : goal.invariant-loop-place
invariant-loop-place l = GivesBelow (GivesValue l.name l.text) l.now l.ring l.place (told l.opened)
