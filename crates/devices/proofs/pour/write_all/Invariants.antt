use Rattle.std.proofs.Common.{◌≡◌, List, ℕ, ◌++◌, length}
use Rattle.std.specs.Io.KnownBytes.{Appends}
use Rattle.devices.proofs.pour.write_all.Given as goal

abbrev pub invariant-loop-rest : goal.invariant-loop-rest
invariant-loop-rest g l = record {
  bytes : (done : List ℕ) × (l.fn.bytes ≡ done ++ l.rest) × Appends (g.W.Sink.written l.fn.writer)
      (g.W.Sink.written l.writer) done;
  failures : g.W.Failing.failures l.writer ≡ g.W.Failing.failures l.fn.writer;
  flushes : g.W.Sink.flushes l.writer ≡ g.W.Sink.flushes l.fn.writer;
}

abbrev pub decreases-loop-rest : goal.decreases-loop-rest
decreases-loop-rest g l = length l.rest
