use Rattle.std.proofs.Common.{◌≡◌, ℕ, [], get_or, ◌∙◌}
use Rattle.seal.specs.Aes.{of_row_3}
use Rattle.seal.specs.Words.{bytes_of}
use Rattle.seal.specs.declared.tables.TheConstants.{ROWS}
use Rattle.seal.proofs.TableFacts.{row_3_is}
use Rattle.seal.proofs.RoundLemmas.{whole_column, add_row_3, added_later}
use Rattle.seal.proofs.aes.but_row_3.Goals as goal

pub returns : goal.returns
returns c t within =
    let u : ℕ = get_or (get_or ROWS 3 []) t 0 in
    let is : bytes_of u ≡ of_row_3 t = row_3_is t within in
    added_later _ u _ _ is (add_row_3 c.row_0.result c.row_1.result c.row_2.result u c.args.key)
    ∙ whole_column c.row_0.result c.row_1.result c.row_2.result u c.args.key c.args.p c.args.q c.args.r t
    c.row_0.ensures c.row_1.ensures c.row_2.ensures is
