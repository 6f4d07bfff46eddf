use Rattle.std.proofs.Common.{sym, ap, ◌∙◌}
use Rattle.cookie_text.specs.DateReader.{read_date}
use Rattle.cookie_text.proofs.DateLemmas.{no_date, dated}
use Rattle.cookie_text.proofs.date.moment_of.Goals as goal

pub returns-in_err-stamp : goal.returns-in_err-stamp
returns-in_err-stamp c =
    let bytes = ap read_date (sym c.as_bytes.ensures.value) in
    rw c.from_residual.ensures (no_date c.args.text.now (bytes ∙ sym c.in_err-stamp.ensures.value))

pub returns : goal.returns
returns c =
    let bytes = ap read_date (sym c.as_bytes.ensures.value) in
    dated c.args.text.now c.in_ok-stamp.stamp c.moment.result (bytes ∙ sym c.in_ok-stamp.ensures.value) c.moment.ensures
