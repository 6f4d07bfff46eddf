use Rattle.std.proofs.Common.{◌≡◌, ◌++◌, ◌∷◌, [], ◌∙◌, ap, arith, subst, sym}
use Rattle.std.proofs.lemmas.Grind.{common_steps}
use Rattle.std.specs.List.{zip}
use Rattle.place_index.specs.Entries.{AreSideBySide, place_of, with_value}
use Rattle.place_index.proofs.SideLemmas.{side-push, zip-absent, zip-push}
use Rattle.place_index.proofs.text_list.TextList.push.Goals as goal

pub push-requires : goal.push-requires
push-requires g c =
    zip-absent c.args.text.now c.self.inside.texts c.self.inside.values.items c.self.invariant.each
    (ap (place_of c.args.text.now) c.self.view_is ∙ c.requires)

pub invariant_of-self-2 : goal.invariant_of-self-2
invariant_of-self-2 g c =
    let most = c.max-self-inside.ensures in
    let values = c.push_reserved.ensures.items
    ∙ ap (λ vs. vs ++ c.args.value ∷ []) c.make_room.ensures.same in
    subst (λ ts. AreSideBySide c.max-self-inside.result ts c.push_reserved.new.self.items)
    (sym c.in_ok-push.ensures.ok)
    (subst (AreSideBySide c.max-self-inside.result (c.self.inside.texts ++ c.args.text.now ∷ [])) (sym values)
    (side-push c.self.inside.longest c.self.inside.texts c.self.inside.values.items c.self.invariant
    c.max-self-inside.result c.args.text.now c.args.value (ap (place_of c.args.text.now) c.self.view_is ∙ c.requires)
    (grind (arith, common_steps)) (grind (arith, common_steps))))

pub returns-clause-ok : goal.returns-clause-ok
returns-clause-ok g c =
    let values = c.push_reserved.ensures.items
    ∙ ap (λ vs. vs ++ c.args.value ∷ []) c.make_room.ensures.same in
    (λ i. zip (c.in_ok-push.ensures.ok i) (values i))
    ∙ zip-push c.args.text.now c.self.inside.texts c.self.inside.values.items c.args.value c.self.invariant.each
    (ap (place_of c.args.text.now) c.self.view_is ∙ c.requires)
    ∙ ap (λ es. with_value es c.args.text.now c.args.value) c.self.view_is
