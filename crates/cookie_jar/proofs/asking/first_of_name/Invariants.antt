use Rattle.std.specs.Prelude.{◌≡◌, None}
use Rattle.std.specs.List.{find}
use Rattle.cookie_jar.specs.Asking.{has_name}
use Rattle.cookie_jar.specs.Rows.{lent_rows}
use Rattle.cookie_jar.proofs.asking.first_of_name.Given as goal

abbrev pub invariant-loop-cookie : goal.invariant-loop-cookie
invariant-loop-cookie l = find (has_name l.name) (lent_rows l.yielded) ≡ None
