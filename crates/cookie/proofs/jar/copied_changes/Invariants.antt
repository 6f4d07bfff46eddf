use Rattle.std.proofs.Common.{◌≡◌}
use Rattle.cookie.specs.ByName.{by_bytes}
use Rattle.cookie.proofs.JarLemmas.{with_all}
use Rattle.cookie.proofs.jar.copied_changes.Given as goal

-- what is left completes the copy
abbrev pub invariant-loop-name : goal.invariant-loop-name
invariant-loop-name l = with_all l.copies (by_bytes l.name-iterator) ≡ l.changes
