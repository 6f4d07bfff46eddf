use Rattle.std.proofs.Common.{◌≡◌, ℕ, [], get_or, ◌∙◌}
use Rattle.seal.specs.Aes.{of_row_1}
use Rattle.seal.specs.Words.{bytes_of}
use Rattle.seal.specs.declared.tables.TheConstants.{ROWS}
use Rattle.seal.proofs.TableFacts.{row_1_is}
use Rattle.seal.proofs.RoundLemmas.{whole_column, add_row_1, added_later}
use Rattle.seal.proofs.aes.but_row_1.Goals as goal

pub returns : goal.returns
returns c q within =
    let u : ℕ = get_or (get_or ROWS 1 []) q 0 in
    let is : bytes_of u ≡ of_row_1 q = row_1_is q within in
    added_later _ u _ _ is (add_row_1 c.row_0.result u c.row_2.result c.row_3.result c.args.key)
    ∙ whole_column c.row_0.result u c.row_2.result c.row_3.result c.args.key c.args.p q c.args.r c.args.t
    c.row_0.ensures is c.row_2.ensures c.row_3.ensures
