use Rattle.std.proofs.Common.{◌∙◌, ap, arith, subst, sym}
use Rattle.std.proofs.lemmas.Grind.{common_steps}
use Rattle.std.specs.Prelude.{string_bytes}
use Rattle.place_index.specs.Entries.{AreUpTo, by_bytes, value_at, with_value}
use Rattle.place_index.proofs.EntryLemmas.{up_to-with_value, value_at-by_bytes, with_value-by_bytes}
use Rattle.place_index.proofs.text_map.TextMap.insert.Goals as goal

pub invariant_of-self : goal.invariant_of-self
invariant_of-self g c =
    let most = c.max-longest.ensures in
    let len = c.len.ensures in
    subst (λ es. AreUpTo c.max-longest.result (by_bytes es)) (sym (c.trim.ensures ∙ c.in-Ok.ensures.entries))
    (subst (AreUpTo c.max-longest.result)
    (sym (with_value-by_bytes c.self.inside.entries.entries c.args.key c.args.value))
    (up_to-with_value c.self.inside.longest c.max-longest.result _ (string_bytes c.args.key) c.args.value
    c.self.invariant (grind (arith, common_steps)) (grind (arith, common_steps))))

pub returns-in-Ok-clause-ok : goal.returns-in-Ok-clause-ok
returns-in-Ok-clause-ok g c =
    ap by_bytes (c.trim.ensures ∙ c.in-Ok.ensures.entries)
    ∙ with_value-by_bytes c.self.inside.entries.entries c.args.key c.args.value
    ∙ ap (λ es. with_value es (string_bytes c.args.key) c.args.value) c.self.view_is

pub returns-in-Ok-clause-before : goal.returns-in-Ok-clause-before
returns-in-Ok-clause-before g c =
    c.in-Ok.ensures.old ∙ value_at-by_bytes c.self.inside.entries.entries (string_bytes c.args.key)
    ∙ ap (value_at (string_bytes c.args.key)) c.self.view_is
