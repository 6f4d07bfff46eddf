use Rattle.std.proofs.Common.{◌≡◌, ◌∙◌, length, sym, ap, subst, arith}
use Rattle.std.specs.List.{insert}
use Rattle.proved_tests.specs.Rows.{AreIndexed}
use Rattle.proved_tests.proofs.RowsLemmas.{is_ready, put_in}
use Rattle.proved_tests.proofs.index_rows.put_new.Goals as goal

pub put-requires : goal.put-requires
put-requires g c =
    let small = c.reserve.new.self.small in
    let within = c.reserve.new.self.ok.1 in
    let n : c.len.result ≡ c.reserve.new.self.len = c.len.ensures in
    is_ready c.args.rows.now.items c.args.index.now c.requires.indexed c.len.result
    (c.len.ensures ∙ c.reserve.new.self.ok.0 ∙ ap length c.in_ok-reserve.ensures.items) c.args.row
    c.requires.absent (omega (arith, small, within, n))

pub returns : goal.returns
returns g c =
    subst (λ l. AreIndexed l c.put.new.self)
    (sym (c.in_ok-insert.ensures.items ∙ ap (λ l. insert l c.in_ok-at.at c.args.row) c.in_ok-reserve.ensures.items))
    (put_in c.args.rows.now.items c.args.index.now c.requires.indexed c.len.result
    (c.len.ensures ∙ c.reserve.new.self.ok.0 ∙ ap length c.in_ok-reserve.ensures.items) c.args.row c.in_ok-at.at
    c.put.new.self c.in_ok-at.ensures.ok)
