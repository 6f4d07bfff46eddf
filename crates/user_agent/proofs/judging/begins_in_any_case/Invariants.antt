use Rattle.std.proofs.Common.{◌≡◌, ◌++◌, map, take}
use Rattle.std.specs.Char.{to_ascii_lowercase}
use Rattle.percent_encoding.specs.Iter.{decoded_bytes}
use Rattle.percent_encoding.specs.Percent.{percent_decode}
use Rattle.user_agent.proofs.judging.begins_in_any_case.Given as goal

abbrev pub invariant-loop-byte : goal.invariant-loop-byte
invariant-loop-byte l =
    map to_ascii_lowercase (percent_decode l.name)
    ≡ take l.byte-index l.text ++ map to_ascii_lowercase (decoded_bytes l.decoded)
