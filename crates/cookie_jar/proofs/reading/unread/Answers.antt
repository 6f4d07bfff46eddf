use Rattle.std.proofs.Common.{inr}
use Rattle.cookie_jar.proofs.reading.unread.Goals as goal

pub returns-in_default : goal.returns-in_default
returns-in_default c = inr (λ e. cc, c.in_default.not-Io, c.in_default.not-OutOfMemory)
