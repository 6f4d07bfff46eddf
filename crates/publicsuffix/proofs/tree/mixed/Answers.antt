use Rattle.std.proofs.Common.{refl}
use Rattle.publicsuffix.specs.Tree.{mixed}
use Rattle.publicsuffix.proofs.tree.mixed.Goals as goal

pub returns : goal.returns
unfolding mixed
returns c = refl
