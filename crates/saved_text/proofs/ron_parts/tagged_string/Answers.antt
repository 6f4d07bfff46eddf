use Rattle.std.proofs.lemmas.Result.{err_from_is_err_and}
use Rattle.saved_text.proofs.RowLemmas.{StopsAs-tag, result_tagged}
use Rattle.saved_text.proofs.ron_parts.tagged_string.Goals as goal

pub returns-in_err-rest : goal.returns-in_err-rest
returns-in_err-rest c =
    let p = err_from_is_err_and c.from_residual.result c.from_residual.ensures.1 in
    rw (p.1, p.2) (StopsAs-tag c.args.tag.now c.args.text.now _ c.in_err-rest.ensures)

pub returns : goal.returns
returns c = result_tagged c.args.tag.now c.args.text.now c.in_ok-rest.rest.now c.gap-rest.result.now
    c.bracketed_string.result c.in_ok-rest.ensures c.gap-rest.ensures c.bracketed_string.ensures
