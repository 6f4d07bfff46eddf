use Rattle.std.proofs.Common.{◌≡◌}
use Rattle.std.specs.Prelude.{◌↔◌}
use Rattle.percent_encoding.specs.Iter.{decoded_bytes}
use Rattle.percent_encoding.specs.Percent.{percent_decode}
use Rattle.user_agent.proofs.judging.are_same_decoded.Given as goal

abbrev pub invariant-loop-byte : goal.invariant-loop-byte
invariant-loop-byte l =
    (percent_decode l.a ≡ percent_decode l.b) ↔ (decoded_bytes l.byte-iterator ≡ decoded_bytes l.other)
