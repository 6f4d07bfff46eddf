use Rattle.std.proofs.Common.{◌≡◌, ℕ, ◌<◌, get_or}
use Rattle.saved_text.specs.DateReading.{blanked}
use Rattle.saved_text.proofs.date.shows.Given as goal

abbrev pub invariant-loop-i : goal.invariant-loop-i
invariant-loop-i l = (k : ℕ) → k < l.i → blanked (get_or l.text k 0) ≡ get_or l.form k 0
