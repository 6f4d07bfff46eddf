use Rattle.std.proofs.Common.{◌∙◌}
use Rattle.std.proofs.lemmas.Iterator.Adapters.{YieldsList-from_vec}
use Rattle.std.specs.Vec.Iter.{into_iter_steps}
use Rattle.jiff.specs.Words.{civil_nanos}
use Rattle.cookie_client.specs.HostPrefix.{IsHeldRightly}
use Rattle.cookie_client.proofs.HeldCopies.{copies_are}
use Rattle.cookie_client.proofs.HostRows.{all_picked}
use Rattle.cookie_client.proofs.client.only_held.Goals as goal

pub returns-then-are_held : goal.returns-then-are_held
returns-then-are_held c = all_picked IsHeldRightly c.args.store.rows (c.are_held.ensures.0 c.if-are_held.true)

pub returns-in-Ok : goal.returns-in-Ok
returns-in-Ok c =
    let (cookies, is, picked) = c.in_ok-cookies.ensures in
    let items = c.in_ok-cookies.cookies.items in
    copies_are c.laws.ensures.parts into_iter_steps c.into_iter.result c.args.store.rows (civil_nanos c.args.at)
    cookies items c.in-Ok.left c.iter_any-rows.ensures.grouped is picked
    (YieldsList-from_vec {s = c.into_iter.result} items c.into_iter.ensures.rest
    (c.into_iter.ensures.len ∙ c.in_ok-cookies.cookies.ok.0)).runs c.in-Ok.ensures.ok
