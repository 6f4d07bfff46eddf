use Rattle.std.proofs.Common.{◌∙◌, ◌++◌, ap, map, pos}
use Rattle.std.proofs.lemmas.Iterator.Adapters.{YieldsList-from_vec}
use Rattle.std.specs.Vec.Iter.{into_iter_steps}
use Rattle.cookie_client.proofs.HeldCopies.{ok_of}
use Rattle.cookie_client.proofs.PutCookies.{whole_is}
use Rattle.cookie_client.proofs.client.with_cookies.Goals as goal

pub returns-in-Ok : goal.returns-in-Ok
returns-in-Ok c =
    let (copies, is, picked) = c.in_ok-held_copies.ensures in
    let items = c.in_ok-all.all.items in
    let cookies = c.args.cookies.items in
    whole_is c.laws.ensures.parts into_iter_steps c.into_iter.result c.args.store.now.rows (pos 0)
    copies cookies items c.in-Ok.whole c.iter_any-rows.ensures.grouped c.requires
    (c.in_ok-all.ensures ∙ ap (λ xs. xs ++ map ok_of cookies) is) picked
    (YieldsList-from_vec {s = c.into_iter.result} items c.into_iter.ensures.rest
    (c.into_iter.ensures.len ∙ c.in_ok-all.all.ok.0)).runs c.in-Ok.ensures.ok
