use Rattle.std.proofs.Common.{codes}
use Rattle.std.proofs.lemmas.Result.{err_from_is_err_and}
use Rattle.saved_text.proofs.RowLemmas.{
  domain_host,
  domain_suffix,
  domain_not_present,
  domain_empty,
  Takes-choice,
  StopsAs-choice,
  Takes-name,
  StopsAs-name,
}
use Rattle.saved_text.proofs.ron_parts.read_domain.Goals as goal

pub returns-in_err-value : goal.returns-in_err-value
returns-in_err-value c =
    let p = err_from_is_err_and c.from_residual.result c.from_residual.ensures.1 in
    rw (p.1, p.2) (StopsAs-choice _ c.args.text.now _ (domain_host c.args.text.now c.if-begins.ensures)
    c.in_err-value.ensures)

pub returns-then-begins : goal.returns-then-begins
returns-then-begins c = Takes-choice _ c.args.text.now c.in_ok-value.rest.now _
    (domain_host c.args.text.now c.if-begins.ensures) c.in_ok-value.ensures

pub returns-in_err-value-2 : goal.returns-in_err-value-2
returns-in_err-value-2 c =
    let p = err_from_is_err_and c.from_residual-in_err-value-2.result c.from_residual-in_err-value-2.ensures.1 in
    rw (p.1, p.2) (StopsAs-choice _ c.args.text.now _
    (domain_suffix c.args.text.now c.if-begins.ensures c.if-begins-2.ensures) c.in_err-value-2.ensures)

pub returns-then-begins-2 : goal.returns-then-begins-2
returns-then-begins-2 c = Takes-choice _ c.args.text.now c.in_ok-value-2.rest.now _
    (domain_suffix c.args.text.now c.if-begins.ensures c.if-begins-2.ensures) c.in_ok-value-2.ensures

pub returns-in_err-rest : goal.returns-in_err-rest
returns-in_err-rest c =
    let p = err_from_is_err_and c.from_residual-in_err-rest.result c.from_residual-in_err-rest.ensures.1 in
    rw (p.1, p.2) (StopsAs-choice _ c.args.text.now _
    (domain_not_present c.args.text.now c.if-begins.ensures c.if-begins-2.ensures c.if-begins-3.ensures)
    (StopsAs-name (codes "NotPresent") c.args.text.now _ c.in_err-rest.ensures))

pub returns-then-begins-3 : goal.returns-then-begins-3
returns-then-begins-3 c = Takes-choice _ c.args.text.now c.in_ok-rest.rest.now _
    (domain_not_present c.args.text.now c.if-begins.ensures c.if-begins-2.ensures c.if-begins-3.ensures)
    (Takes-name (codes "NotPresent") c.args.text.now c.in_ok-rest.rest.now c.in_ok-rest.ensures)

pub returns-in_err-rest-2 : goal.returns-in_err-rest-2
returns-in_err-rest-2 c =
    let p = err_from_is_err_and c.from_residual-in_err-rest-2.result c.from_residual-in_err-rest-2.ensures.1 in
    rw (p.1, p.2) (StopsAs-choice _ c.args.text.now _
    (domain_empty c.args.text.now c.if-begins.ensures c.if-begins-2.ensures c.if-begins-3.ensures)
    (StopsAs-name (codes "Empty") c.args.text.now _ c.in_err-rest-2.ensures))

pub returns : goal.returns
returns c = Takes-choice _ c.args.text.now c.in_ok-rest-2.rest.now _
    (domain_empty c.args.text.now c.if-begins.ensures c.if-begins-2.ensures c.if-begins-3.ensures)
    (Takes-name (codes "Empty") c.args.text.now c.in_ok-rest-2.rest.now c.in_ok-rest-2.ensures)
