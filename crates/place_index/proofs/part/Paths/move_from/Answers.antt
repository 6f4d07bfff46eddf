use Rattle.std.proofs.Common.{◌∙◌, ap, refl, subst, sym}
use Rattle.place_index.specs.Entries.{with_values}
use Rattle.place_index.specs.Index.{last, moved, moved_path}
use Rattle.place_index.specs.PathParts.{BeginBefore, path_at}
use Rattle.place_index.specs.Starts.{AreInOrder, with_starts}
use Rattle.place_index.proofs.AscendLemmas.{in_order-map, moved-rises, paths_begin_before}
use Rattle.place_index.proofs.StartLemmas.{starts_moved}
use Rattle.place_index.proofs.part.Paths.move_from.Goals as goal

pub move_from-requires-clause-low : goal.move_from-requires-clause-low
move_from-requires-clause-low c =
    paths_begin_before last c.self.inside.starts c.self.inside.rows c.self.invariant.each c.self.invariant.apart
    (subst (BeginBefore last) (sym c.self.view_is) c.requires)

pub invariant_of-self : goal.invariant_of-self
invariant_of-self c =
    subst (λ ss. AreInOrder ss c.self.inside.rows) (sym c.move_from.ensures)
    (in_order-map c.self.inside.starts c.self.inside.rows c.self.invariant (moved c.args.at) (moved-rises c.args.at))

pub returns : goal.returns
returns c =
    ap (λ ss. with_starts path_at ss c.self.inside.rows) c.move_from.ensures
    ∙ starts_moved path_at (moved c.args.at) (moved_path c.args.at) (λ _ _. refl) c.self.inside.starts
    c.self.inside.rows
    ∙ ap (with_values (moved_path c.args.at)) c.self.view_is
