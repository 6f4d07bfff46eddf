use Rattle.std.proofs.Common.{arith, sym, subst, ◌+◌}
use Rattle.cookie.proofs.TrialLemmas.{AreToldBelow, tried, untried, all_told}
use Rattle.cookie.proofs.secure.trials.verdicts.Goals as goal
use Rattle.cookie.proofs.secure.trials.verdicts.Goals.{in-Some, in_default}

pub loop-place-preserved : goal.loop-place-preserved
loop-place-preserved g c =
    let Opens = g.T.Trial.Opens c.args.trial.now in
    elim c.match-key_at.branch [
      | in-Some w ↦
          subst (AreToldBelow Opens c.args.now c.args.ring.now (c.loop-place.place + 1)) (sym w.verdicts-is)
          (tried Opens c.args.now c.args.ring.now c.loop-place.place c.loop-place.verdicts w.is_opened_by.result
          w.in-Some.key.now (omega arith) c.loop-place.invariant (sym w.in-Some.ensures) w.is_opened_by.ensures)
      | in_default w ↦
          subst (AreToldBelow Opens c.args.now c.args.ring.now (c.loop-place.place + 1)) (sym w.verdicts-is)
          (untried Opens c.args.now c.args.ring.now c.loop-place.place c.loop-place.verdicts c.loop-place.invariant
          (sym w.in_default.ensures))
    ]

pub returns : goal.returns
returns g c =
    all_told (g.T.Trial.Opens c.args.trial.now) c.args.now c.args.ring.now c.loop-place.place c.loop-place.verdicts
    c.loop-place.invariant (omega arith) (omega arith)
