use Rattle.std.proofs.Common.{◌≡◌, ◌++◌}
use Rattle.std.specs.Prelude.{map, string_bytes}
use Rattle.std.specs.List.{AllByRecursion}
use Rattle.cookie_text.specs.Normal.{IsReadable}
use Rattle.cookie_client.specs.Jar.{ReadsAsItself, lines_of}
use Rattle.cookie_client.proofs.session.lines_of.Given as goal

abbrev pub invariant-loop-cookie : goal.invariant-loop-cookie
invariant-loop-cookie l = record {
  lines : map string_bytes l.lines.items ++ lines_of l.cookie-iterator ≡ lines_of l.fn.cookies;
  readable : AllByRecursion (λ s. IsReadable s.cookie) l.cookie-iterator;
  read_back : AllByRecursion ReadsAsItself l.cookie-iterator → AllByRecursion ReadsAsItself l.fn.cookies;
}
