use Rattle.std.proofs.Common.{◌∷◌, [], codes}
use Rattle.std.proofs.lemmas.Result.{err_from_is_err_and}
use Rattle.saved_text.specs.Grammar.Word.{the_name}
use Rattle.saved_text.specs.Grammar.Grammar.{seq, space}
use Rattle.saved_text.specs.Ron.{string}
use Rattle.saved_text.specs.Faults.{closing}
use Rattle.saved_text.specs.Words.{tagged}
use Rattle.saved_text.proofs.RowLemmas.{StopsAs-tag}
use Rattle.saved_text.proofs.FieldLemmas.{tag_opens, StopsAs-tag_bracket, Goes-leads}
use Rattle.saved_text.proofs.ron_fields.date_quote.Goals as goal

pub returns-in_err-rest : goal.returns-in_err-rest
returns-in_err-rest c =
    let p = err_from_is_err_and c.from_residual.result c.from_residual.ensures.1 in
    rw (p.1, p.2) (StopsAs-tag (codes "AtUtc") c.args.text.now _ c.in_err-rest.ensures)

pub returns-in_err-rest-2 : goal.returns-in_err-rest-2
returns-in_err-rest-2 c =
    let p = err_from_is_err_and c.from_residual-in_err-rest-2.result c.from_residual-in_err-rest-2.ensures.1 in
    rw (p.1, p.2) (StopsAs-tag_bracket (codes "AtUtc") c.args.text.now c.in_ok-rest.rest.now c.gap-rest.result.now _
    c.in_ok-rest.ensures c.gap-rest.ensures c.in_err-rest-2.ensures)

pub returns : goal.returns
returns c = Goes-leads (tagged (codes "AtUtc")) (seq string (seq space closing)) c.args.text.now c.gap.result.now
    (the_name (codes "AtUtc") ∷ [])
    (tag_opens (codes "AtUtc") c.args.text.now c.in_ok-rest.rest.now c.gap-rest.result.now c.in_ok-rest-2.rest.now
    c.gap.result.now c.in_ok-rest.ensures c.gap-rest.ensures c.in_ok-rest-2.ensures c.gap.ensures)
