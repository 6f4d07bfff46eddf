use Rattle.std.proofs.Common.{refl}
use Rattle.fonnalich_c.proofs.together.text.Goals as goal

pub returns-in-Ok : goal.returns-in-Ok
returns-in-Ok c = record { ok = c.in-Ok.ensures.cases; err = tt }

pub returns-in-Err : goal.returns-in-Err
returns-in-Err c = record { ok = tt; err = (refl, c.in-Err.ensures.cases.0) }
