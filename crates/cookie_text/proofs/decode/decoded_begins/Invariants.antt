use Rattle.std.proofs.Common.{◌≡◌, ◌++◌, take}
use Rattle.percent_encoding.specs.Iter.{decoded_bytes}
use Rattle.percent_encoding.specs.Percent.{percent_decode}
use Rattle.cookie_text.proofs.decode.decoded_begins.Given as goal

abbrev pub invariant-loop-byte : goal.invariant-loop-byte
invariant-loop-byte l = percent_decode l.text ≡ take l.byte-index l.front ++ decoded_bytes l.decoded
