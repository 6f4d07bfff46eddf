use Rattle.std.proofs.Common.{◌≡◌}
use Rattle.jiff.specs.Words.{civil_nanos}
use Rattle.cookie_store.specs.Rows.{live}
use Rattle.cookie_store.proofs.unexpired.next_live.Given as goal

-- no live row was passed over
abbrev pub invariant-loop-cookie : goal.invariant-loop-cookie
invariant-loop-cookie l = live (civil_nanos l.now) l.cookies ≡ live (civil_nanos l.now) l.initial.cookies
