use Rattle.std.proofs.Common.{◌≡◌, ℕ, [], get_or, ◌∙◌}
use Rattle.seal.specs.Aes.{of_row_0}
use Rattle.seal.specs.Words.{bytes_of}
use Rattle.seal.specs.declared.tables.TheConstants.{ROWS}
use Rattle.seal.proofs.TableFacts.{row_0_is}
use Rattle.seal.proofs.RoundLemmas.{whole_column, add_row_0, added_later}
use Rattle.seal.proofs.aes.but_row_0.Goals as goal

pub returns : goal.returns
returns c p within =
    let u : ℕ = get_or (get_or ROWS 0 []) p 0 in
    let is : bytes_of u ≡ of_row_0 p = row_0_is p within in
    added_later _ u _ _ is (add_row_0 u c.row_1.result c.row_2.result c.row_3.result c.args.key)
    ∙ whole_column u c.row_1.result c.row_2.result c.row_3.result c.args.key p c.args.q c.args.r c.args.t
    is c.row_1.ensures c.row_2.ensures c.row_3.ensures
