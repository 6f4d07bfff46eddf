use Rattle.std.proofs.Common.{string_bytes}
use Rattle.std.proofs.lemmas.Result.{err_from_is_err_and}
use Rattle.saved_text.specs.Words.{string_words}
use Rattle.saved_text.proofs.RowLemmas.{StopsAs-bracket, StopsAs-in_bracket, StopsAs-closing, Takes-bracketed}
use Rattle.saved_text.proofs.ron_parts.bracketed_string.Goals as goal

pub returns-in_err-rest : goal.returns-in_err-rest
returns-in_err-rest c =
    let p = err_from_is_err_and c.from_residual.result c.from_residual.ensures.1 in
    rw (p.1, p.2) (StopsAs-bracket c.args.text.now _ c.in_err-rest.ensures)

pub returns-in_err-value : goal.returns-in_err-value
returns-in_err-value c =
    let p = err_from_is_err_and c.from_residual-in_err-value.result c.from_residual-in_err-value.ensures.1 in
    rw (p.1, p.2) (StopsAs-in_bracket c.args.text.now c.in_ok-rest.rest.now c.gap-rest.result.now _
    c.in_ok-rest.ensures c.gap-rest.ensures c.in_err-value.ensures)

pub returns-in_err-rest-2 : goal.returns-in_err-rest-2
returns-in_err-rest-2 c =
    let p = err_from_is_err_and c.from_residual-in_err-rest-2.result c.from_residual-in_err-rest-2.ensures.1 in
    rw (p.1, p.2) (StopsAs-closing c.args.text.now c.in_ok-rest.rest.now c.gap-rest.result.now c.in_ok-value.rest.now
    c.gap-rest-2.result.now (string_words (string_bytes c.in_ok-value.value)) _ c.in_ok-rest.ensures
    c.gap-rest.ensures c.in_ok-value.ensures c.gap-rest-2.ensures c.in_err-rest-2.ensures)

pub returns : goal.returns
returns c = Takes-bracketed c.args.text.now c.in_ok-rest.rest.now c.gap-rest.result.now c.in_ok-value.rest.now
    c.gap-rest-2.result.now c.in_ok-rest-2.rest.now (string_words (string_bytes c.in_ok-value.value))
    c.in_ok-rest.ensures c.gap-rest.ensures c.in_ok-value.ensures c.gap-rest-2.ensures c.in_ok-rest-2.ensures
