use Rattle.jiff.specs.Words.{civil_nanos}
use Rattle.cookie_client.proofs.HostRows.{all_picked}
use Rattle.cookie_jar.specs.Keeping.{IsKept}
use Rattle.cookie_jar.specs.Rows.{lent_rows}
use Rattle.cookie_jar.proofs.RowLemmas.{only_picked}
use Rattle.cookie_jar.proofs.keeping.only_kept.Goals as goal

pub returns-then-are_kept : goal.returns-then-are_kept
returns-then-are_kept c = all_picked IsKept c.args.store.rows (c.are_kept.ensures.0 c.if-are_kept.true)

pub returns : goal.returns
returns c =
    only_picked c.placed.result IsKept c.laws.ensures.parts (civil_nanos c.args.now) c.args.store.rows
    (lent_rows c.in_ok-rows.rows.items) c.iter_any-rows.ensures.grouped c.in_ok-rows.ensures c.placed.ensures
