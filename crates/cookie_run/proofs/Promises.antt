-- What the calendar promises of a removal: it ends in 1970 at the earliest.
use Rattle.std.proofs.Common.{ℤ, arith}
use Rattle.jiff_core.proofs.SignedLemmas.{signed_arith}
use Rattle.cookie_run.specs.Moments.{IsMoment}
use Rattle.cookie_run.proofs.Commands.{EndsLate}
use Rattle.cookie_run.proofs.Removals.{removal_late}

pub ends_late : (now : ℤ) → IsMoment now → EndsLate now
ends_late now m moment c r at makes = removal_late moment c r (omega (arith, signed_arith, at, m.whole, m.from)) makes
