use Rattle.std.proofs.Common.{rules, ◌≡◌, ◌++◌, [], ◌∙◌, sym}
use Rattle.json.specs.Lex.{tokens}
use Rattle.saved_text.specs.JsonTokens.{tokens_of_row}
use Rattle.saved_text.specs.Parts.{row_view}
use Rattle.saved_text.proofs.TokenLemmas.{read_row, row_known}
use Rattle.saved_text.proofs.json_tokens.row_in_order.Goals as goal

pub returns-clause-ok : goal.returns-clause-ok
returns-clause-ok c =
    let t = row_view c.in-Some.parts in
    let rest = c.parts_of.new.reader in
    let e : tokens c.args.text.now ≡ tokens_of_row t ++ rest = sym c.in_ok-reader.ensures.ok ∙ c.in-Some.ensures in
    let end : rest ≡ [] = search rules in
    row_known c.args.text.now t c.readable_row.result (read_row c.args.text.now t rest e end)
    c.readable_row.ensures.ok
