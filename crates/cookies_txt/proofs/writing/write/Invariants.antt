use Rattle.std.proofs.Common.{◌≡◌, false, take, string_bytes}
use Rattle.cookies_txt.proofs.WriteLemmas.{WritesSoFar}
use Rattle.cookies_txt.specs.Writing.{AreHeld, rows_in}
use Rattle.cookies_txt.specs.declared.readers.Reader.TheVariants.{Curl}
use Rattle.cookies_txt.proofs.writing.write.Given as goal

abbrev pub invariant-loop-index : goal.invariant-loop-index
invariant-loop-index l = record {
  writes : WritesSoFar Curl (rows_in (take l.index l.cookies)) (string_bytes l.text) l.passed_over;
  held : l.passing_over ≡ false → AreHeld (rows_in (take l.index l.cookies));
}
