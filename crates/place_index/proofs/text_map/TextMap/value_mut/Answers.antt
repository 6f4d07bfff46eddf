use Rattle.std.proofs.Common.{refl, subst, sym, ◌∙◌, ap, map}
use Rattle.std.specs.Prelude.{slice_get}
use Rattle.indexmap.specs.IndexMap.{set_value_at}
use Rattle.place_index.specs.Entries.{AreUpTo}
use Rattle.place_index.proofs.EntryLemmas.{set_value_at-by_bytes, up_to-set_value_at, values-by_bytes}
use Rattle.place_index.proofs.text_map.TextMap.value_mut.Goals as goal

pub invariant_of-self-lent : goal.invariant_of-self-lent
invariant_of-self-lent g c w =
    subst (AreUpTo c.self.inside.longest) (sym (set_value_at-by_bytes c.self.inside.entries.entries c.args.place w))
    (up_to-set_value_at c.self.inside.longest _ c.args.place w c.self.invariant)

pub returns : goal.returns
returns g c = (
  (
    refl,
    λ w. set_value_at-by_bytes c.self.inside.entries.entries c.args.place w
        ∙ ap (λ es. set_value_at es c.args.place w) c.self.view_is,
  ),
  record {
    writes_back = tt;
    value = ap (λ vs. slice_get vs c.args.place)
        (sym (values-by_bytes c.self.inside.entries.entries ∙ ap (map (λ e. e.1)) c.self.view_is))
        ∙ c.index_mut.ensures.value;
  },
)
