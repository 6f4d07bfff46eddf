use Rattle.std.proofs.Common.{◌≡◌}
use Rattle.std.specs.List.{list_all}
use Rattle.jiff.specs.Words.{civil_nanos}
use Rattle.cookie_store.specs.Rows.{is_live}
use Rattle.cookie_jar.proofs.jar.are_live.Given as goal

abbrev pub invariant-loop-cookie : goal.invariant-loop-cookie
invariant-loop-cookie l =
    list_all (is_live (civil_nanos l.now)) l.store.rows ≡ list_all (is_live (civil_nanos l.now)) l.cookie-iterator
