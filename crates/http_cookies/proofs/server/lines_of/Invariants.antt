use Rattle.std.proofs.Common.{◌≡◌, ◌++◌}
use Rattle.std.specs.Prelude.{map, string_bytes}
use Rattle.cookie_client.specs.Jar.{lines_of}
use Rattle.http_cookies.proofs.server.lines_of.Given as goal

abbrev pub invariant-loop-cookie : goal.invariant-loop-cookie
invariant-loop-cookie l = map string_bytes l.lines.items ++ lines_of l.cookie-iterator ≡ lines_of l.fn.cookies
