use Rattle.std.proofs.Common.{◌≢◌, ◌++◌, ℕ, List, All, length}
use Rattle.std.specs.Str.Lines.{lines}
use Rattle.jiff.specs.Words.{civil_nanos}
use Rattle.store_parts.specs.declared.error.Error.{Error}
use Rattle.cookie_store.specs.LoadedLines.{StopsAtLine, line_reader}
use Rattle.cookie_store.specs.Rows.{Row}
use Rattle.cookie_store.specs.Steps.{TakesWhole}
use Rattle.cookie_store.proofs.loading.take_lines.Given as goal

-- what becomes of the rest becomes of all
abbrev pub invariant-loop-bytes : goal.invariant-loop-bytes
invariant-loop-bytes g l =
    let closures = line_reader g.C.StoreCookie.shows g.F.FnMut in
    let now = civil_nanos l.fn.now in
    let all = l.fn.begun.items ++ l.fn.bytes in
    let rest = l.begun.items ++ l.bytes in
    record {
      callable : goal.F-IsAlwaysCallable g l.closure;
      unended : All (λ b. b ≢ 10) l.begun.items;
      takes : (last : _) (end : List Row) (begun : List ℕ)
          → TakesWhole closures l.fn.with_expired now l.closure l.rows rest last end begun
          → TakesWhole closures l.fn.with_expired now l.fn.closure l.fn.rows all last end begun;
      stops : (error : Error) (more : List ℕ) → StopsAtLine closures l.closure (lines (rest ++ more)) error
          → StopsAtLine closures l.fn.closure (lines (all ++ more)) error;
    }

abbrev pub decreases-loop-bytes : goal.decreases-loop-bytes
decreases-loop-bytes g l = length l.bytes
