use Rattle.cookie.proofs.TrialLemmas.{AreToldBelow}
use Rattle.cookie.proofs.secure.trials.verdicts.Given as goal

abbrev pub invariant-loop-place : goal.invariant-loop-place
invariant-loop-place g l = AreToldBelow (g.T.Trial.Opens l.trial) l.now l.ring l.place l.verdicts
