use Rattle.cookie_run.specs.Drawn.{DrawsSo, CommandDraws, IsDrawnInVain}
use Rattle.cookie_run.proofs.DrawnRuns.{draws_so, drawn_all, drawn_first, drawn_front, drawn_next, read_in_vain}
use Rattle.cookie_run.proofs.Runs.{all_push, command_at, on_err_any, readings_nil}
use Rattle.std.proofs.Common.{◌≡◌, ◌∙◌, [], ◌∷◌, ◌++◌, ap, sym, subst, refl}
use Rattle.std.specs.List.{AllByRecursion}
use Rattle.jiff.specs.Words.{civil_nanos}
use Rattle.cookie_run.specs.Readings.{MayRead, NeedsNoNonce}
use Rattle.std.specs.Option.{option_to_list}
use Rattle.cookie_run.proofs.play.obey_all.Goals as goal
use Rattle.cookie_run.proofs.play.obey_all.Goals.{in-Some+in_ok-push, in_default}

pub loop-command-init : goal.loop-command-init
loop-command-init g c = record {
  told = drawn_first g.R.TryRng.may_fill g.row.R-Error.Denot c.args.rng.now c.args.session.now (civil_nanos c.args.at)
      c.args.commands.now c.args.readings.now.items;
  failed = λ h. h;
  unasked = λ h. refl;
}

pub returns-in_err-reading-clause-err : goal.returns-in_err-reading-clause-err
returns-in_err-reading-clause-err g c =
    on_err_any c.from_residual.result _ (drawn_front g.R.TryRng.may_fill g.row.R-Error.Denot c.args.rng.now
    c.loop-command.rng c.obey.new.rng c.args.session.now c.loop-command.session (civil_nanos c.args.at)
    c.args.commands.now c.loop-command.command-index c.command-item.result c.args.readings.now.items
    c.loop-command.readings.items c.loop-command.readings.items c.loop-command-test.true c.command-item.is
    c.loop-command.invariant.told c.in_err-reading.ensures.err refl)

pub returns-in_err-push-clause-err : goal.returns-in_err-push-clause-err
returns-in_err-push-clause-err g c =
    let ok = subst (λ o. DrawsSo g.R.TryRng.may_fill g.row.R-Error.Denot c.loop-command.rng (λ ds. CommandDraws ds
    c.loop-command.session (civil_nanos c.args.at) c.command-item.result (option_to_list o) c.obey.new.session)
    c.obey.new.rng) c.in-Some.is c.in_ok-reading.ensures.ok in
    let vain = draws_so g.R.TryRng.may_fill g.row.R-Error.Denot c.loop-command.rng c.obey.new.rng _
    (IsDrawnInVain (c.command-item.result ∷ [])) (λ ds. read_in_vain ds c.loop-command.session (civil_nanos c.args.at)
    c.command-item.result c.in-Some.reading c.obey.new.session) ok in
    on_err_any c.from_residual-in_err-push.result _ (drawn_front g.R.TryRng.may_fill g.row.R-Error.Denot
    c.args.rng.now c.loop-command.rng c.obey.new.rng c.args.session.now c.loop-command.session
    (civil_nanos c.args.at) c.args.commands.now c.loop-command.command-index c.command-item.result
    c.args.readings.now.items c.loop-command.readings.items _ c.loop-command-test.true c.command-item.is
    c.loop-command.invariant.told vain c.in_err-push.ensures.items)

pub loop-command-preserved : goal.loop-command-preserved
loop-command-preserved g c =
    let items = c.loop-command.readings.items in
    let Error = g.row.R-Error.Denot in
    let unasked : AllByRecursion NeedsNoNonce c.args.commands.now → c.obey.new.rng ≡ c.args.rng.now =
    λ all. c.obey.ensures.unasked (command_at NeedsNoNonce c.args.commands.now c.loop-command.command-index
    c.command-item.result c.loop-command-test.true c.command-item.is all)
    ∙ c.loop-command.invariant.unasked all in
    elim c.match-branch-2.branch [
      | in-Some+in_ok-push w ↦
          let more : c.match-branch-2.readings.items ≡ items ++ w.in-Some.reading ∷ [] = ap (λ v. v.items) w.readings-is
          ∙ w.in_ok-push.ensures.items in
          let may : AllByRecursion (MayRead Error) (w.in-Some.reading ∷ []) = subst
          (λ o. AllByRecursion (MayRead Error) (option_to_list o)) w.in-Some.is c.in_ok-reading.ensures.failed in
          record {
            told = drawn_next g.R.TryRng.may_fill g.row.R-Error.Denot c.args.rng.now c.loop-command.rng
                c.obey.new.rng _ _ _ _
                c.args.commands.now c.loop-command.command-index c.command-item.result
                c.args.readings.now.items items c.match-branch-2.readings.items (option_to_list c.in_ok-reading.field-0)
                c.loop-command-test.true c.command-item.is c.loop-command.invariant.told c.in_ok-reading.ensures.ok
                (ap (λ v. v.items) w.readings-is ∙ (w.in_ok-push.ensures.items
                ∙ ap (λ o. items ++ option_to_list o) (sym w.in-Some.is)));
            failed = λ h. subst (AllByRecursion (MayRead Error)) (sym more)
                (all_push (MayRead Error) items w.in-Some.reading (c.loop-command.invariant.failed h) may.0);
            unasked = unasked;
          }
      | in_default w ↦ record {
        told = drawn_next g.R.TryRng.may_fill g.row.R-Error.Denot c.args.rng.now c.loop-command.rng
            c.obey.new.rng _ _ _ _
            c.args.commands.now c.loop-command.command-index c.command-item.result
            c.args.readings.now.items items c.match-branch-2.readings.items (option_to_list c.in_ok-reading.field-0)
            c.loop-command-test.true c.command-item.is c.loop-command.invariant.told c.in_ok-reading.ensures.ok
            (ap (λ v. v.items) w.readings-is ∙ (sym (readings_nil items)
            ∙ ap (λ o. items ++ option_to_list o) (sym w.in_default.is)));
        failed = λ h. subst (λ v. AllByRecursion (MayRead Error) v.items) (sym w.readings-is)
            (c.loop-command.invariant.failed h);
        unasked = unasked;
      }
    ]

pub returns-clause-ok : goal.returns-clause-ok
returns-clause-ok g c = drawn_all g.R.TryRng.may_fill g.row.R-Error.Denot c.args.rng.now c.loop-command.rng _ _ _
    c.args.commands.now c.loop-command.command-index c.args.readings.now.items c.loop-command.readings.items
    c.loop-command-test.false c.loop-command.invariant.told
