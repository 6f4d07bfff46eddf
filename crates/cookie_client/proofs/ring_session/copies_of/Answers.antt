use Rattle.std.proofs.Common.{◌∙◌, List, [], ◌∷◌, ◌++◌, take, ap, sym}
use Rattle.std.proofs.lemmas.List.{take_more}
use Rattle.cookie.specs.declared.secure.key_ring.EarlierKey.{EarlierKey}
use Rattle.cookie_client.proofs.ring_session.copies_of.Goals as goal

pub loop-it-preserved : goal.loop-it-preserved
loop-it-preserved c =
    let done : List EarlierKey = take c.loop-it.it-index c.args.keys.now in
    let until = c.it-item.result.until in
    c.in_ok-push.ensures.items ∙ (λ i. c.loop-it.invariant i
    ++ (record { key = c.copy_of-key.ensures i; until = until } ∷ []))
    ∙ ap (λ (e : EarlierKey). done ++ (e ∷ [])) c.it-item.is
    ∙ sym (take_more c.args.keys.now c.loop-it.it-index c.it-item.result c.loop-it-test.true)
