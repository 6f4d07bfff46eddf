use Rattle.std.proofs.Common.{◌≡◌, ◌++◌, ℕ, List}
use Rattle.jiff.specs.Words.{civil_nanos}
use Rattle.user_agent.specs.SecurePlaces.{places_at, secure_places_of}
use Rattle.user_agent.proofs.secure_places.places_by_name.Given as goal

abbrev pub invariant-loop-row : goal.invariant-loop-row
invariant-loop-row l =
    (name : List ℕ)
    → places_at l.places name ++ secure_places_of (civil_nanos l.now) name l.row-iterator
    ≡ secure_places_of (civil_nanos l.now) name l.store.rows
