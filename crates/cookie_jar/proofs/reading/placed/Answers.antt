use Rattle.std.proofs.Common.{◌≡◌, ◌∙◌, ◌∷◌, ◌++◌, [], ap, false, map, sym}
use Rattle.std.proofs.lemmas.Iterator.Adapters.{YieldsList-from_vec}
use Rattle.std.proofs.lemmas.Iterator.Consumers.{YieldsList-end}
use Rattle.std.proofs.lemmas.List.{map-append, map-id}
use Rattle.std.specs.Vec.Iter.{into_iter_steps}
use Rattle.jiff.specs.Words.{civil_nanos}
use Rattle.cookie_client.proofs.HeldCopies.{ok_of}
use Rattle.cookie_jar.proofs.RowLemmas.{store_of}
use Rattle.cookie_jar.proofs.reading.placed.Goals as goal

pub loop-cookie-preserved : goal.loop-cookie-preserved
loop-cookie-preserved c =
    c.in_ok-push.ensures.items
    ∙ (ap (λ xs. xs ++ ok_of c.in-Some.cookie ∷ []) c.loop-cookie.invariant
    ∙ sym (map-append ok_of c.loop-cookie.yielded (c.in-Some.cookie ∷ [])))

pub returns-in-Ok : goal.returns-in-Ok
returns-in-Ok c =
    let items = c.args.cookies.items in
    let xs = c.loop-cookie.yielded in
    let gives = c.into_iter-cookie-iterator.ensures.into_iter_gives in
    let all = YieldsList-from_vec {s = c.into_iter-cookie-iterator.result} items gives.0
    (gives.1 ∙ c.args.cookies.ok.0) in
    let end = YieldsList-end all xs c.loop-cookie.cookie-iterator c.loop-cookie.yielded_by c.next.result
    c.next.new.self c.in-None.is c.next.ensures.steps in
    let same : xs ≡ items = sym (map-id xs) ∙ end.0 in
    let given = c.loop-cookie.given.items in
    store_of into_iter_steps c.into_iter.result false (civil_nanos c.args.now) items given c.in-Ok.store
    (c.loop-cookie.invariant ∙ ap (map ok_of) same)
    (YieldsList-from_vec {s = c.into_iter.result} given c.into_iter.ensures.rest
    (c.into_iter.ensures.len ∙ c.loop-cookie.given.ok.0)).runs c.in-Ok.ensures.ok
