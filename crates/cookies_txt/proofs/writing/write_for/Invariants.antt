use Rattle.std.proofs.Common.{◌≡◌, false, length, string_bytes}
use Rattle.cookies_txt.proofs.WriteLemmas.{WritesSoFar}
use Rattle.cookies_txt.specs.Writing.{AreHeld, rows_in}
use Rattle.cookies_txt.proofs.writing.write_for.Given as goal

abbrev pub invariant-loop-cookie : goal.invariant-loop-cookie
invariant-loop-cookie l = record {
  writes : WritesSoFar l.reader (rows_in l.yielded) (string_bytes l.text) l.passed;
  held : l.passing_over ≡ false → AreHeld (rows_in l.yielded);
  counted : l.number ≡ length l.yielded;
}
