use Rattle.std.proofs.Common.{◌<◌, ℕ, MatchOption}
use Rattle.cookie.specs.Trials.{IsYes}
use Rattle.cookie.proofs.secure.trials.first_place.Given as goal

abbrev pub invariant-loop-place : goal.invariant-loop-place
invariant-loop-place l =
    MatchOption l.first ((p : ℕ) → p < l.place → ¬ (IsYes l.verdicts p))
    (λ place. IsYes l.verdicts place × ((p : ℕ) → p < place → ¬ (IsYes l.verdicts p)))
