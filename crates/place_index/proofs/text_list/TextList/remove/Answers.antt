use Rattle.std.proofs.Common.{◌∙◌, ap, subst, sym}
use Rattle.std.specs.List.{remove, zip}
use Rattle.place_index.specs.Entries.{AreSideBySide}
use Rattle.place_index.proofs.SideLemmas.{side-remove, side-within, zip-remove}
use Rattle.place_index.proofs.text_list.TextList.remove.Goals as goal

pub remove-requires : goal.remove-requires
remove-requires g c =
    side-within c.self.inside.longest c.self.inside.texts c.self.inside.values.items c.self.invariant c.args.self.now
    c.self.view_is c.self.inside.values.len c.args.place c.self.inside.values.ok.0 c.requires

pub invariant_of-self : goal.invariant_of-self
invariant_of-self g c =
    subst (λ ts. AreSideBySide c.self.inside.longest ts c.remove.new.self.items) (sym c.take.ensures)
    (subst (AreSideBySide c.self.inside.longest (remove c.self.inside.texts c.args.place)) (sym c.remove.ensures.items)
    (side-remove c.self.inside.longest c.self.inside.texts c.self.inside.values.items c.self.invariant c.args.place))

pub returns : goal.returns
returns g c =
    (λ i. zip (c.take.ensures i) (c.remove.ensures.items i))
    ∙ zip-remove c.self.inside.texts c.self.inside.values.items c.args.place c.self.invariant.each
    ∙ ap (λ es. remove es c.args.place) c.self.view_is
