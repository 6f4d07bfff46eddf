use Rattle.std.proofs.Common.{subst}
use Rattle.place_index.specs.Taking.{TakesAt}
use Rattle.place_index.proofs.index.Index.remove.Goals as goal

pub returns : goal.returns
returns c =
    subst (λ old. TakesAt c.args.domain.now c.args.path.now c.args.at old c.take_row.new.domains) c.self.view_is
    c.take_row.ensures
