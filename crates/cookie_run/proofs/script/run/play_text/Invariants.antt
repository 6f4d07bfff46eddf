use Rattle.std.proofs.Common.{◌≡◌, ◌+◌, ◌≤◌, length}
use Rattle.jiff.specs.Words.{civil_nanos}
use Rattle.cookie_run.specs.Drawn.{DrawsSo}
use Rattle.cookie_run.proofs.ScriptRun.{Come}
use Rattle.cookie_run.proofs.script.run.play_text.Given as goal

abbrev pub invariant-loop-rest : goal.invariant-loop-rest
invariant-loop-rest g l = record {
  come : DrawsSo g.G.TryRng.may_fill g.row.G-Error.Denot l.fn.rng (λ drawn. Come drawn l.fn.client.suffixes l.fn.ring
      l.fn.client.rows (civil_nanos l.fn.last) l.text l.rest l.ring l.client.rows (civil_nanos l.last) l.visit l.done
      (g.W.Sink.written l.fn.writer) (g.W.Sink.written l.writer)) l.rng;
  failures : g.W.Failing.failures l.writer ≡ g.W.Failing.failures l.fn.writer;
  flushes : g.W.Sink.flushes l.writer ≡ g.W.Sink.flushes l.fn.writer;
  list : l.client.suffixes ≡ l.fn.client.suffixes;
  room : l.done + length l.rest ≤ length l.text;
}

abbrev pub decreases-loop-rest : goal.decreases-loop-rest
decreases-loop-rest g l = length l.rest
