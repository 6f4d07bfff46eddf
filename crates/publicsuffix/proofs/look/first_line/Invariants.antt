use Rattle.std.proofs.Common.{◌≡◌, All, length, map}
use Rattle.publicsuffix.specs.Looks.{IsPassedOver}
use Rattle.publicsuffix.proofs.look.first_line.Given as goal

abbrev pub invariant-loop-line : goal.invariant-loop-line
invariant-loop-line l = All IsPassedOver (map (λ p. p.now) l.yielded) × (l.number ≡ length l.yielded)
