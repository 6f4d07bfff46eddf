use Rattle.std.proofs.Common.{◌≡◌, inl, inr, subst, sym, FitsSigned, w64}
use Rattle.std.proofs.lemmas.Int.{to_z-of_z}
use Rattle.jiff.specs.Words.{civil_nanos}
use Rattle.fonnalich_c.specs.Exchange.{IsNoRingExchange}
use Rattle.fonnalich_c.specs.Given.{nanos_of}
use Rattle.fonnalich_c.proofs.Exchanges.{err_gives, fault_gives, ok_gives}
use Rattle.fonnalich_c.proofs.Faults.{is_moment}
use Rattle.fonnalich_c.proofs.Rings.{keys_on_ring}
use Rattle.fonnalich_c.proofs.exchange.ring_exchange.Goals as goal

pub returns-clause-ok : goal.returns-clause-ok
returns-clause-ok c =
    let fits : FitsSigned w64 c.args.second = c.ranges.second in
    let moment : civil_nanos c.in_ok-now.now ≡ nanos_of c.args.second = simp to_z-of_z at c.in_ok-now.ensures.ok in
    ok_gives c.converse_on.result _ _ (λ answer so. (
      so.0,
      c.in_ok-now.now,
      (c.in_ok-ring.ring, c.in_ok-ring.ensures.ok, so.1, moment),
      so.2,
    )) c.converse_on.ensures.ok

pub returns-clause-err : goal.returns-clause-err
returns-clause-err c =
    let fits : FitsSigned w64 c.args.second = c.ranges.second in
    let moment : civil_nanos c.in_ok-now.now ≡ nanos_of c.args.second = simp to_z-of_z at c.in_ok-now.ensures.ok in
    fault_gives c.converse_on.result _ _ (λ refused why. elim why [
      | inl lack ↦ inl (inl lack)
      | inr stops ↦ inr (
        stops.0,
        c.in_ok-now.now,
        (c.in_ok-ring.ring, c.in_ok-ring.ensures.ok, stops.1, moment),
        stops.2,
      )
    ]) c.converse_on.ensures.err

pub returns-in_err-ring-clause-err : goal.returns-in_err-ring-clause-err
returns-in_err-ring-clause-err c =
    let fits : FitsSigned w64 c.args.second = c.ranges.second in
    let moment : civil_nanos c.in_ok-now.now ≡ nanos_of c.args.second = simp to_z-of_z at c.in_ok-now.ensures.ok in
    err_gives c.from_residual-in_err-ring.result _ _ c.from_residual-in_err-ring.ensures (λ refused is.
    subst (IsNoRingExchange c.args.keys.now c.args.ends.now c.args.header.now c.args.second c.args.commands.now
    c.args.nonces.now) (sym is)
    (inl (keys_on_ring c.args.keys.now c.args.ends.now c.args.second c.in_err-ring.field-0.0
    (is_moment c.in_ok-now.now c.args.second moment) c.in_err-ring.ensures.err)))
