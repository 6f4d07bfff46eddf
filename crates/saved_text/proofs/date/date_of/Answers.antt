use Rattle.std.proofs.Common.{◌∙◌, sym, subst, rules, FitsSigned, w32}
use Rattle.std.proofs.lemmas.Int.{to_z-of_z}
use Rattle.jiff.specs.Words.{civil_nanos}
use Rattle.saved_text.proofs.DateLemmas.{at_none, too_short, no_civil, Brought, date_made}
use Rattle.saved_text.proofs.date.date_of.Goals as goal

pub returns-in_err-clock : goal.returns-in_err-clock
returns-in_err-clock c = at_none c.from_residual.result _ _ c.from_residual.ensures (too_short c.as_bytes.result.now
    c.args.text.now c.as_bytes.ensures.value c.in_err-clock.ensures.cases)

pub returns-in_err-local : goal.returns-in_err-local
returns-in_err-local c =
    let cut = c.in_ok-clock.ensures.cases in
    at_none c.from_residual-in_err-local.result _ _ c.from_residual-in_err-local.ensures
    (no_civil c.as_bytes.result.now c.args.text.now c.in_ok-clock.clock.now c.in_ok-clock.rest.now
    c.in_ok-nanos.zone.now c.in_ok-nanos.nanos c.as_bytes.ensures.value cut.1 cut.2
    c.in_ok-nanos.ensures.value c.in_err-local.ensures)

pub returns : goal.returns
returns c =
    let cut = c.in_ok-clock.ensures.cases in
    let fits : FitsSigned w32 c.in_ok-ahead.ahead = search rules in
    date_made c.as_bytes.result.now c.args.text.now c.in_ok-clock.clock.now c.in_ok-clock.rest.now
    c.in_ok-nanos.zone.now c.in_ok-nanos.nanos c.in_ok-ahead.ahead
    c.in_ok-local.local c.in_utc.result c.as_bytes.ensures.value cut.1 cut.2 (sym c.shows.ensures
    ∙ c.if-not-shows.false) c.in_ok-nanos.ensures.value c.in_ok-ahead.ensures c.in_ok-local.ensures
    (subst (λ z. Brought (civil_nanos c.in_ok-local.local) z c.in_utc.result) (to_z-of_z w32 c.in_ok-ahead.ahead fits)
    c.in_utc.ensures)
