use Rattle.std.proofs.Common.{◌∙◌, ap, refl, sym}
use Rattle.std.proofs.lemmas.Option.{slice_get_read}
use Rattle.std.specs.Prelude.{slice_get}
use Rattle.indexmap.specs.IndexMap.{set_value_at}
use Rattle.place_index.proofs.SideLemmas.{side-set, side-values, side-within, zip-set}
use Rattle.place_index.proofs.text_list.TextList.value_mut.Goals as goal

pub index_mut-requires : goal.index_mut-requires
index_mut-requires g c =
    side-within c.self.inside.longest c.self.inside.texts c.self.inside.values.items c.self.invariant c.args.self.now
    c.self.view_is c.self.inside.values.len c.args.place c.self.inside.values.ok.0 c.requires

pub invariant_of-self-lent : goal.invariant_of-self-lent
invariant_of-self-lent g c w =
    side-set c.self.inside.longest c.self.inside.texts c.self.inside.values.items c.self.invariant c.args.place w

pub returns : goal.returns
returns g c =
    let texts = c.self.inside.texts in
    let values = c.self.inside.values in (
      (
        refl,
        λ w. zip-set texts values.items c.args.place w ∙ ap (λ es. set_value_at es c.args.place w) c.self.view_is,
      ),
      record {
        writes_back = tt;
        value =
            ap (λ vs. slice_get vs c.args.place)
            (sym (side-values c.self.inside.longest texts values.items c.self.invariant c.args.self.now c.self.view_is))
            ∙ slice_get_read values.items values.len c.args.place c.index_mut.result.now values.ok.0
            (side-within c.self.inside.longest texts values.items c.self.invariant c.args.self.now c.self.view_is
            values.len c.args.place values.ok.0 c.requires)
            c.index_mut.ensures.value;
      },
    )
