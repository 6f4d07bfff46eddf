use Rattle.std.proofs.Common.{◌≡◌}
use Rattle.std.specs.List.{AllByRecursion}
use Rattle.jiff.specs.Words.{civil_nanos}
use Rattle.cookie_run.specs.Acts.{acts_of}
use Rattle.cookie_run.specs.Readings.{MayRead, ActNeedsNoNonce}
use Rattle.cookie_run.proofs.Ends.{BeforeBy}
use Rattle.cookie_run.proofs.play.play.Given as goal

abbrev pub invariant-loop-i : goal.invariant-loop-i
invariant-loop-i g l = record {
  before : BeforeBy g.R.TryRng.may_fill g.row.R-Error.Denot l.fn.rng l.rng l.fn.list l.key l.steps l.i l.client.rows
      l.readings.items (civil_nanos l.last);
  list : l.client.suffixes ≡ l.fn.list;
  failed : AllByRecursion (MayRead g.row.R-Error.Denot) l.readings.items;
  unasked : AllByRecursion ActNeedsNoNonce (acts_of l.steps) → l.rng ≡ l.fn.rng;
}
