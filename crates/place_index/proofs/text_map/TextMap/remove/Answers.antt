use Rattle.std.proofs.Common.{◌∙◌, ap, subst, sym}
use Rattle.place_index.specs.Entries.{AreUpTo, by_bytes, without}
use Rattle.place_index.proofs.EntryLemmas.{value_at-by_bytes, up_to-without, without-by_bytes}
use Rattle.place_index.proofs.text_map.TextMap.remove.Goals as goal

pub invariant_of-self : goal.invariant_of-self
invariant_of-self g c =
    subst (λ es. AreUpTo c.self.inside.longest (by_bytes es)) (sym c.shift_remove.ensures.entries)
    (subst (AreUpTo c.self.inside.longest) (sym (without-by_bytes c.self.inside.entries.entries c.args.key.now))
    (up_to-without c.self.inside.longest c.args.key.now _ c.self.invariant))

pub returns-clause-gone : goal.returns-clause-gone
returns-clause-gone g c =
    sym (value_at-by_bytes c.shift_remove.new.self.entries c.args.key.now) ∙ c.shift_remove.ensures.updates.1

pub returns-clause-rest : goal.returns-clause-rest
returns-clause-rest g c =
    ap by_bytes c.shift_remove.ensures.entries
    ∙ without-by_bytes c.self.inside.entries.entries c.args.key.now
    ∙ ap (without c.args.key.now) c.self.view_is
