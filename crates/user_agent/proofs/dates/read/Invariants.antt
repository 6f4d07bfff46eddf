use Rattle.std.proofs.Common.{map}
use Rattle.user_agent.specs.Fields.{IsSmall, nothing}
use Rattle.user_agent.proofs.FindingLemmas.{TakesAll}
use Rattle.user_agent.proofs.dates.read.Given as goal

abbrev pub invariant-loop-token : goal.invariant-loop-token
invariant-loop-token l = IsSmall l.found × TakesAll nothing (map (λ p. p.now) l.yielded) l.found
