use Rattle.std.proofs.Common.{◌≡◌, ◌≤◌, length, map, take, vec_len, vec_capacity}
use Rattle.fonnalich_c.specs.Rules.{outcome_for_number}
use Rattle.fonnalich_c.proofs.started.numbered.Given as goal

abbrev pub invariant-loop-outcome : goal.invariant-loop-outcome
invariant-loop-outcome l = (l.answer.items ≡ map outcome_for_number (take l.outcome-index l.outcomes))
    × (vec_len l.answer ≡ l.outcome-index) × (length l.outcomes ≤ vec_capacity l.answer)
