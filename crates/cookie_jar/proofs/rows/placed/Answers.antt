use Rattle.std.proofs.Common.{◌∙◌}
use Rattle.std.proofs.lemmas.Iterator.Adapters.{YieldsList-from_vec}
use Rattle.std.specs.Vec.Iter.{into_iter_steps}
use Rattle.jiff.specs.Words.{civil_nanos}
use Rattle.cookie_jar.specs.Rows.{lent_rows}
use Rattle.cookie_jar.proofs.RowLemmas.{placed_of}
use Rattle.cookie_jar.proofs.rows.placed.Goals as goal

pub returns-in-Ok : goal.returns-in-Ok
returns-in-Ok c =
    let items = c.in_ok-copies.copies.items in
    placed_of into_iter_steps c.into_iter.result c.args.with_expired (civil_nanos c.args.now)
    (lent_rows c.args.rows.items) items
    c.in-Ok.store c.in_ok-copies.ensures
    (YieldsList-from_vec {s = c.into_iter.result} items c.into_iter.ensures.rest
    (c.into_iter.ensures.len ∙ c.in_ok-copies.copies.ok.0)).runs c.in-Ok.ensures.ok
