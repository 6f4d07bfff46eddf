use Rattle.std.proofs.Common.{◌∙◌, ap, sym}
use Rattle.place_index.specs.Entries.{place_of}
use Rattle.place_index.proofs.SideLemmas.{zip-place}
use Rattle.place_index.proofs.text_list.TextList.place.Goals as goal

pub returns-then-is_longer : goal.returns-then-is_longer
returns-then-is_longer g c = sym (c.is_longer.ensures c.if-is_longer.true)

pub returns : goal.returns
returns g c =
    c.place.ensures
    ∙ zip-place c.args.text.now c.self.inside.texts c.self.inside.values.items c.self.invariant.each
    ∙ ap (place_of c.args.text.now) c.self.view_is
