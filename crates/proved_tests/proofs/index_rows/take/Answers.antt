use Rattle.std.proofs.Common.{length, sym, subst, refl, arith}
use Rattle.std.proofs.lemmas.Option.{slice_get_read}
use Rattle.proved_tests.specs.Rows.{AreIndexed}
use Rattle.proved_tests.proofs.RowsLemmas.{has_row, taken}
use Rattle.proved_tests.proofs.index_rows.take.Goals as goal

pub remove-requires : goal.remove-requires
remove-requires c =
    let rows = c.args.rows.now.items in
    let small = c.args.rows.now.small in
    let n = c.args.rows.now.ok.0 in
    let within = c.args.rows.now.ok.1 in
    has_row rows c.args.index.now c.requires.indexed c.args.at c.index.result.now
    (slice_get_read rows (length rows) c.args.at c.index.result.now refl c.requires.there c.index.ensures)
    (omega (arith, small, n, within))

pub returns : goal.returns
returns c =
    let rows = c.args.rows.now.items in
    subst (λ l. AreIndexed l c.remove.new.self) (sym c.remove-2.ensures.items)
    (taken rows c.args.index.now c.requires.indexed c.args.at c.index.result.now
    (slice_get_read rows (length rows) c.args.at c.index.result.now refl c.requires.there c.index.ensures)
    c.remove.new.self c.remove.ensures)
