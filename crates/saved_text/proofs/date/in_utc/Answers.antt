use Rattle.std.proofs.Common.{◌≡◌, arith, pos, ◌*ℤ◌, ◌<ℤ◌, ◌≤ℤ◌, rules, FitsSigned, w32, w64}
use Rattle.std.proofs.lemmas.Int.{to_z-of_z}
use Rattle.jiff.specs.Words.{civil_nanos, signed_nanos}
use Rattle.jiff.proofs.SpanFacts.{signed_arith}
use Rattle.jiff.proofs.Family.{civil_nanos_range}
use Rattle.saved_text.proofs.DateLemmas.{at_none, minutes_passed, not_ok, ok_value, beyond, taken_off}
use Rattle.saved_text.proofs.date.in_utc.Goals as goal

pub returns-in_err-at : goal.returns-in_err-at
returns-in_err-at c =
    let f : FitsSigned w32 c.args.ahead = c.ranges.ahead in
    let g : FitsSigned w64 c.args.ahead = omega (arith, signed_arith) in
    let is_ahead : c.from.result ≡ c.args.ahead = grind (arith, to_z-of_z, c.from.ensures) in
    let long : signed_nanos c.from_mins-offset.result ≡ c.args.ahead *ℤ pos 60_000_000_000 =
    minutes_passed _ c.from.result c.args.ahead g is_ahead c.from_mins-offset.ensures in
    at_none c.from_residual.result _ _ c.from_residual.ensures
    (beyond (civil_nanos c.args.local) _ c.args.ahead long (not_ok c.checked_sub.result _ c.checked_sub.ensures.succeeds
    c.in_err-at.ensures.value))

pub returns-then-lt : goal.returns-then-lt
returns-then-lt c =
    let f : FitsSigned w32 c.args.ahead = c.ranges.ahead in
    let g : FitsSigned w64 c.args.ahead = omega (arith, signed_arith) in
    let is_ahead : c.from.result ≡ c.args.ahead = grind (arith, to_z-of_z, c.from.ensures) in
    let long : signed_nanos c.from_mins-offset.result ≡ c.args.ahead *ℤ pos 60_000_000_000 =
    minutes_passed _ c.from.result c.args.ahead g is_ahead c.from_mins-offset.ensures in
    let is = taken_off (civil_nanos c.in_ok-at.at) (civil_nanos c.args.local) _ c.args.ahead long
    (ok_value c.checked_sub.result c.in_ok-at.at _ c.checked_sub.ensures.value c.in_ok-at.ensures.value) in
    let early : civil_nanos c.in_ok-at.at <ℤ civil_nanos c.first_moment.result = search rules in
    λ h. omega (arith, signed_arith, is, h.0, early, c.first_moment.ensures)

pub returns : goal.returns
returns c =
    let f : FitsSigned w32 c.args.ahead = c.ranges.ahead in
    let g : FitsSigned w64 c.args.ahead = omega (arith, signed_arith) in
    let is_ahead : c.from.result ≡ c.args.ahead = grind (arith, to_z-of_z, c.from.ensures) in
    let long : signed_nanos c.from_mins-offset.result ≡ c.args.ahead *ℤ pos 60_000_000_000 =
    minutes_passed _ c.from.result c.args.ahead g is_ahead c.from_mins-offset.ensures in
    let is = taken_off (civil_nanos c.in_ok-at.at) (civil_nanos c.args.local) _ c.args.ahead long
    (ok_value c.checked_sub.result c.in_ok-at.at _ c.checked_sub.ensures.value c.in_ok-at.ensures.value) in
    let range = civil_nanos_range c.in_ok-at.at in
    let late : civil_nanos c.first_moment.result ≤ℤ civil_nanos c.in_ok-at.at = search rules in
    (is, (omega (arith, signed_arith, late, c.first_moment.ensures), range.1))
