use Rattle.std.proofs.Common.{◌++◌, ◌∷◌, [], ap, sym, ◌∙◌}
use Rattle.std.proofs.lemmas.Bool.{both_ways}
use Rattle.std.proofs.lemmas.List.{map-append}
use Rattle.cookie_store.specs.StoredCookie.{stored_of}
use Rattle.cookie_client.proofs.HeldCopies.{ok_of, copies_more, copies_same, copies_all}
use Rattle.cookie_client.proofs.client.held_copies.Goals as goal

pub loop-cookie-preserved-in_ok-push : goal.loop-cookie-preserved-in_ok-push
loop-cookie-preserved-in_ok-push c =
    let (done, items, far) = c.loop-cookie.invariant in
    let cookie = c.in_ok-clone.field-0 in (
      done ++ cookie ∷ [],
      c.in_ok-push.ensures.items ∙ (ap (λ xs. xs ++ ok_of cookie ∷ []) items
          ∙ sym (map-append ok_of done (cookie ∷ []))),
      copies_more c.args.store.now.rows c.loop-cookie.cookie-iterator c.next.new.self done cookie
          (stored_of c.in-Some.cookie.now) c.in-Some.ensures.steps (c.is_held.ensures.0 c.if-is_held.true)
          c.in_ok-clone.ensures far,
    )

pub loop-cookie-preserved : goal.loop-cookie-preserved
loop-cookie-preserved c =
    let (done, items, far) = c.loop-cookie.invariant in (
      done,
      items,
      copies_same c.args.store.now.rows c.loop-cookie.cookie-iterator c.next.new.self done
          (stored_of c.in-Some.cookie.now) c.in-Some.ensures.steps
          (λ held. both_ways _ c.if-is_held.false (c.is_held.ensures.1 held)) far,
    )

pub returns : goal.returns
returns c =
    let (done, items, far) = c.loop-cookie.invariant in
    (done, items, copies_all c.args.store.now.rows c.loop-cookie.cookie-iterator done c.in-None.ensures.steps.0 far)
