use Rattle.std.proofs.Common.{◌≡◌, ◌∙◌, List, ℕ, [], ◌∷◌, ◌++◌, map, take, ap, sym}
use Rattle.std.proofs.lemmas.List.{map_more}
use Rattle.cookie.specs.declared.secure.key_ring.EarlierKey.{EarlierKey}
use Rattle.cookie_client.specs.Ending.{ending_earlier}
use Rattle.cookie_client.proofs.ending.ending_keys.Goals as goal

pub loop-it-preserved : goal.loop-it-preserved
loop-it-preserved c =
    let name : List ℕ = c.args.name.now in
    let done : List EarlierKey = map (ending_earlier name) (take c.loop-it.it-index c.args.earlier.now) in
    let one : c.in_ok-ending_earlier.field-0 ≡ ending_earlier name c.it-item.result = c.in_ok-ending_earlier.ensures in
    c.in_ok-push.ensures.items ∙ (λ i. c.loop-it.invariant i ++ (one i ∷ []))
    ∙ ap (λ (e : EarlierKey). done ++ (ending_earlier name e ∷ [])) c.it-item.is
    ∙ sym (map_more (ending_earlier name) c.args.earlier.now c.loop-it.it-index c.it-item.result c.loop-it-test.true)
