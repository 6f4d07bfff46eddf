use Rattle.std.proofs.Common.{◌≡◌, ℕ, [], get_or, ◌∙◌}
use Rattle.seal.specs.Aes.{of_row_2}
use Rattle.seal.specs.Words.{bytes_of}
use Rattle.seal.specs.declared.tables.TheConstants.{ROWS}
use Rattle.seal.proofs.TableFacts.{row_2_is}
use Rattle.seal.proofs.RoundLemmas.{whole_column, add_row_2, added_later}
use Rattle.seal.proofs.aes.but_row_2.Goals as goal

pub returns : goal.returns
returns c r within =
    let u : ℕ = get_or (get_or ROWS 2 []) r 0 in
    let is : bytes_of u ≡ of_row_2 r = row_2_is r within in
    added_later _ u _ _ is (add_row_2 c.row_0.result c.row_1.result u c.row_3.result c.args.key)
    ∙ whole_column c.row_0.result c.row_1.result u c.row_3.result c.args.key c.args.p c.args.q r c.args.t
    c.row_0.ensures c.row_1.ensures is c.row_3.ensures
