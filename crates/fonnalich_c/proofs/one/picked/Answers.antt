use Rattle.std.proofs.Common.{◌≡◌, subst, sym, FitsSigned, w64}
use Rattle.std.proofs.lemmas.Int.{to_z-of_z}
use Rattle.jiff.specs.Words.{civil_nanos}
use Rattle.cookie_store.specs.Rows.{key}
use Rattle.fonnalich_c.specs.Faults.{IsTold}
use Rattle.fonnalich_c.specs.Given.{nanos_of}
use Rattle.fonnalich_c.specs.One.{IsPickFault}
use Rattle.fonnalich_c.proofs.Exchanges.{err_gives}
use Rattle.fonnalich_c.proofs.Faults.{is_moment, text_unpicked}
use Rattle.fonnalich_c.proofs.one.picked.Goals as goal

pub returns-in_err-domain-clause-err : goal.returns-in_err-domain-clause-err
returns-in_err-domain-clause-err c =
    let fits : FitsSigned w64 c.args.second = c.ranges.second in
    let moment : civil_nanos c.in_ok-now.now ≡ nanos_of c.args.second = simp to_z-of_z at c.in_ok-now.ensures.ok in
    let its = key c.args.texts.domain.now c.args.texts.path.now c.args.texts.name.now in
    err_gives c.from_residual-in_err-domain.result _ _ c.from_residual-in_err-domain.ensures (λ refused is.
    subst (λ r. IsTold (IsPickFault c.args.second its) r) (sym is)
    (text_unpicked c.args.second its c.in_err-domain.field-0.0 (is_moment c.in_ok-now.now c.args.second moment)
    c.in_err-domain.ensures.err))
