use Rattle.std.proofs.Common.{arith}
use Rattle.proved_tests.specs.Rows.{places_of}
use Rattle.proved_tests.proofs.RowsLemmas.{is_index}
use Rattle.proved_tests.proofs.index_rows.put.Goals as goal

pub position-requires : goal.position-requires
position-requires g c =
    let small = c.args.rows.now.small in
    let n = c.args.rows.now.ok.0 in
    let within = c.args.rows.now.ok.1 in
    is_index c.args.rows.now.items c.args.index.now c.requires (omega (arith, small, n, within))

pub put_new-requires-clause-absent : goal.put_new-requires-clause-absent
put_new-requires-clause-absent g c = c.in-None.ensures (places_of c.args.rows.now.items) c.requires
