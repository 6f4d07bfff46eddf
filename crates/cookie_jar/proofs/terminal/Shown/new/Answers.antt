use Rattle.std.proofs.Common.{sym, subst, refl}
use Rattle.cookie_jar.specs.Terminal.{ShowsNoControl}
use Rattle.cookie_jar.proofs.TerminalLemmas.{shows_words}
use Rattle.cookie_jar.proofs.terminal.Shown.new.Goals as goal

pub invariant_of-result : goal.invariant_of-result
invariant_of-result c = subst ShowsNoControl (sym c.new.ensures.bytes) (shows_words _ refl)
