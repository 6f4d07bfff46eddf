use Rattle.std.proofs.Common.{◌≡◌, ◌-◌, ◌^◌, ◌≤◌, ◌<◌, [], List, ℕ}
use Rattle.std.specs.Io.KnownBytes.{Consumes}
use Rattle.jiff.specs.Words.{civil_nanos}
use Rattle.cookie_store.specs.LoadedLines.{line_reader}
use Rattle.cookie_store.specs.Steps.{TakesWhole}
use Rattle.cookie_store.proofs.loading.load_lines.Given as goal

-- the lines that end in what was read were taken
abbrev pub invariant-reads : goal.invariant-reads
invariant-reads g l = record {
  callable : goal.F-IsAlwaysCallable g l.closure;
  taken : (text : List ℕ) × Consumes (g.R.Source.left l.fn.reader) (g.R.Source.left l.reader) text
      × TakesWhole (line_reader g.C.StoreCookie.shows g.F.FnMut) l.fn.with_expired (civil_nanos l.fn.now)
      l.fn.closure []
      text l.closure l.rows l.begun.items;
  failures : g.R.Failing.failures l.reader ≡ g.R.Failing.failures l.fn.reader;
  made : l.counter ≤ g.R.Source.reads l.reader;
  capped : 0 < l.counter → g.R.Source.reads l.reader ≤ 2 ^ 64 - 1;
}
