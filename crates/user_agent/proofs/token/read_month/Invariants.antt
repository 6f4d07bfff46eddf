use Rattle.std.proofs.Common.{◌≡◌, ◌<◌, ◌≤◌, ℕ, map}
use Rattle.std.specs.Char.{to_ascii_lowercase}
use Rattle.httpdate.specs.Text.{month_name}
use Rattle.user_agent.proofs.token.read_month.Given as goal

abbrev pub invariant-loop-month : goal.invariant-loop-month
invariant-loop-month l =
    (m : ℕ) → 1 ≤ m → m < l.month → ¬ (map to_ascii_lowercase l.letters ≡ map to_ascii_lowercase (month_name m))
