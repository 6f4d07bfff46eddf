use Rattle.std.proofs.Common.{◌∙◌, ap, refl, subst, sym}
use Rattle.place_index.specs.Entries.{with_values}
use Rattle.place_index.specs.PathParts.{path_at}
use Rattle.place_index.specs.Starts.{AreInOrder, with_starts}
use Rattle.place_index.specs.Taking.{moved_back, path_back}
use Rattle.place_index.proofs.AscendLemmas.{in_order-map, moved_back-rises}
use Rattle.place_index.proofs.StartLemmas.{starts_moved}
use Rattle.place_index.proofs.part.Paths.move_back.Goals as goal

pub invariant_of-self : goal.invariant_of-self
invariant_of-self c =
    subst (λ ss. AreInOrder ss c.self.inside.rows) (sym c.move_back.ensures)
    (in_order-map c.self.inside.starts c.self.inside.rows c.self.invariant (moved_back c.args.at)
    (moved_back-rises c.args.at))

pub returns : goal.returns
returns c =
    ap (λ ss. with_starts path_at ss c.self.inside.rows) c.move_back.ensures
    ∙ starts_moved path_at (moved_back c.args.at) (path_back c.args.at) (λ _ _. refl) c.self.inside.starts
    c.self.inside.rows
    ∙ ap (with_values (path_back c.args.at)) c.self.view_is
