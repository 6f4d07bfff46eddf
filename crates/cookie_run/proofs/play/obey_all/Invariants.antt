use Rattle.std.proofs.Common.{◌≡◌}
use Rattle.std.specs.List.{AllByRecursion}
use Rattle.jiff.specs.Words.{civil_nanos}
use Rattle.cookie_run.specs.Readings.{MayRead, NeedsNoNonce}
use Rattle.cookie_run.proofs.DrawnRuns.{DrawnBy}
use Rattle.cookie_run.proofs.play.obey_all.Given as goal

abbrev pub invariant-loop-command : goal.invariant-loop-command
invariant-loop-command g l = record {
  told : DrawnBy g.R.TryRng.may_fill g.row.R-Error.Denot l.fn.rng l.rng l.fn.session (civil_nanos l.at) l.commands
      l.command-index l.fn.readings.items l.readings.items l.session;
  failed : AllByRecursion (MayRead g.row.R-Error.Denot) l.fn.readings.items
      → AllByRecursion (MayRead g.row.R-Error.Denot) l.readings.items;
  unasked : AllByRecursion NeedsNoNonce l.commands → l.rng ≡ l.fn.rng;
}
