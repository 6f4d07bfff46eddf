use Rattle.std.proofs.Common.{◌≡◌, option_map}
use Rattle.std.specs.List.{FoldsTo}
use Rattle.jiff.specs.Words.{civil_nanos}
use Rattle.cookie_store.specs.SavedLines.{Output, StopsSaving, WritesLine, printer}
use Rattle.cookie_store.specs.Steps.{wanted}
use Rattle.store_parts.specs.declared.error.Error.{Error}
use Rattle.cookie_store.proofs.SaveLemmas.{saving}
use Rattle.cookie_store.proofs.saving.write_lines.Given as goal

-- what becomes of the rest becomes of all
abbrev pub invariant-loop-cookie : goal.invariant-loop-cookie
invariant-loop-cookie g l =
    let closures = printer g.C.StoreCookie.shows g.F.FnMut in
    let first = saving l.fn.closure (g.W.Sink.written l.fn.writer) (g.W.Failing.failures l.fn.writer) in
    let now = saving l.closure (g.W.Sink.written l.writer) (g.W.Failing.failures l.writer) in
    let all = wanted (option_map civil_nanos l.fn.now) l.fn.cookies in
    let rest = wanted (option_map civil_nanos l.fn.now) l.cookie-iterator in
    record {
      callable : goal.F-IsAlwaysCallable g l.closure;
      saves : (last : _) → FoldsTo (WritesLine closures) now rest last → FoldsTo (WritesLine closures) first all last;
      stops : (error : Error) (new : Output) → StopsSaving closures now rest error new
          → StopsSaving closures first all error new;
      flushes : g.W.Sink.flushes l.writer ≡ g.W.Sink.flushes l.fn.writer;
    }
