use Rattle.std.specs.Prelude.{◌≡◌}
use Rattle.std.specs.List.{find}
use Rattle.cookie_jar.specs.Asking.{is_printed_so}
use Rattle.cookie_jar.proofs.asking.printed_so.Given as goal

-- what is found of those that are left is what is found
abbrev pub invariant-loop-cookie : goal.invariant-loop-cookie
invariant-loop-cookie l =
    find (is_printed_so l.domain l.path l.name) l.cookie-iterator
    ≡ find (is_printed_so l.domain l.path l.name) l.store.rows
