use Rattle.std.proofs.Common.{◌≡◌, ◌∙◌, ap, inl, inr, refl, FitsSigned, w64}
use Rattle.std.proofs.lemmas.Int.{to_z-of_z}
use Rattle.jiff.specs.Words.{civil_nanos}
use Rattle.cookie.specs.KeyRing.{alone}
use Rattle.fonnalich_c.specs.Exchange.{IsAlone}
use Rattle.fonnalich_c.specs.Given.{nanos_of}
use Rattle.fonnalich_c.proofs.Exchanges.{fault_gives, ok_gives}
use Rattle.fonnalich_c.proofs.Faults.{is_moment, key_unopened, too_short}
use Rattle.fonnalich_c.proofs.exchange.exchange.Goals as goal

pub returns-clause-ok : goal.returns-clause-ok
returns-clause-ok c =
    let fits : FitsSigned w64 c.args.second = c.ranges.second in
    let moment : civil_nanos c.in_ok-now.now ≡ nanos_of c.args.second = simp to_z-of_z at c.in_ok-now.ensures.ok in
    let is : IsAlone c.args.key.now c.new-ring.result =
    (c.in-Ok.ensures.accepted.0 refl, c.new-ring.ensures ∙ ap alone c.in-Ok.ensures.key) in
    ok_gives c.converse_on.result _ _ (λ answer so. (
      so.0,
      c.in_ok-now.now,
      (c.new-ring.result, is, so.1, moment),
      so.2,
    )) c.converse_on.ensures.ok

pub returns-clause-err : goal.returns-clause-err
returns-clause-err c =
    let fits : FitsSigned w64 c.args.second = c.ranges.second in
    let moment : civil_nanos c.in_ok-now.now ≡ nanos_of c.args.second = simp to_z-of_z at c.in_ok-now.ensures.ok in
    let is : IsAlone c.args.key.now c.new-ring.result =
    (c.in-Ok.ensures.accepted.0 refl, c.new-ring.ensures ∙ ap alone c.in-Ok.ensures.key) in
    fault_gives c.converse_on.result _ _ (λ refused why. elim why [
      | inl lack ↦ inl (inl lack)
      | inr stops ↦ inr (stops.0, c.in_ok-now.now, (c.new-ring.result, is, stops.1, moment), stops.2)
    ]) c.converse_on.ensures.err

pub returns-in_default-clause-err : goal.returns-in_default-clause-err
returns-in_default-clause-err c =
    let fits : FitsSigned w64 c.args.second = c.ranges.second in
    let moment : civil_nanos c.in_ok-now.now ≡ nanos_of c.args.second = simp to_z-of_z at c.in_ok-now.ensures.ok in
    inl (key_unopened c.args.key.now c.args.second _ (is_moment c.in_ok-now.now c.args.second moment)
    (refl, too_short c.args.key.now c.try_from.result c.in_default.not-Ok c.try_from.ensures.accepted))
