use Rattle.std.proofs.Common.{arith}
use Rattle.proved_tests.proofs.RowsLemmas.{is_index}
use Rattle.proved_tests.proofs.index_tests.finds_both.Goals as goal

pub finds_deep-requires-clause-index : goal.finds_deep-requires-clause-index
finds_deep-requires-clause-index c =
    let small = c.args.rows.now.small in
    let n = c.args.rows.now.ok.0 in
    let within = c.args.rows.now.ok.1 in
    is_index c.args.rows.now.items c.args.index.now c.requires (omega (arith, small, n, within))

pub finds_as_a_scan-requires : goal.finds_as_a_scan-requires
finds_as_a_scan-requires c =
    let small = c.args.rows.now.small in
    let n = c.args.rows.now.ok.0 in
    let within = c.args.rows.now.ok.1 in
    is_index c.args.rows.now.items c.args.index.now c.requires (omega (arith, small, n, within))
