-- Flags in a signed number.
use Rattle.std.proofs.Common.{◌≡◌, ℤ, pos, negsuc, ◌<ℤ◌, ◌≤ℤ◌, refl, arith, nat_abs}
use Rattle.jiff.proofs.SpanFacts.{signed_arith}
use Rattle.user_agent.specs.declared.rules.Rules.{Rules}
use Rattle.fonnalich_c.specs.Rules.{IsFlags, ruled}

-- the rules of a number that isn't below 0
pub flagged : (number : ℤ) (rules : Rules) → pos 0 ≤ℤ number → number <ℤ pos 4096
    → rules ≡ ruled (nat_abs number) → IsFlags number rules
flagged (pos n) rules above below is = (n, refl, omega (arith, signed_arith), is)
flagged (negsuc n) rules above below is = absurd (omega (arith, signed_arith))
