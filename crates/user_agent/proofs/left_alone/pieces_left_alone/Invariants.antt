use Rattle.std.proofs.Common.{map}
use Rattle.std.specs.List.{AllByRecursion}
use Rattle.jiff.specs.Words.{civil_nanos}
use Rattle.user_agent.specs.LeftAlone.{IsLeftAlone}
use Rattle.user_agent.proofs.left_alone.pieces_left_alone.Given as goal

abbrev pub invariant-loop-piece : goal.invariant-loop-piece
invariant-loop-piece l = AllByRecursion (IsLeftAlone (civil_nanos l.now) l.brief) (map (λ p. p.now) l.yielded)
