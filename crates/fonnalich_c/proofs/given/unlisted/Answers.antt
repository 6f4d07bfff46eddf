use Rattle.std.proofs.Common.{inl, inr, refl}
use Rattle.fonnalich_c.proofs.given.unlisted.Goals as goal

pub returns-in-OutOfMemory : goal.returns-in-OutOfMemory
returns-in-OutOfMemory c = inl (c.in-OutOfMemory.is, refl)

pub returns-in_default : goal.returns-in_default
returns-in_default c = inr (c.in_default.not-OutOfMemory, refl)
