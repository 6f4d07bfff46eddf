use Rattle.std.proofs.Common.{◌≡◌, map, string_bytes}
use Rattle.std.specs.Prelude.{filter}
use Rattle.user_agent.specs.KnownDates.{joined_behind}
use Rattle.user_agent.specs.LongAttributes.{is_short}
use Rattle.user_agent.proofs.long_attributes.push_short_pieces.Given as goal

abbrev pub invariant-loop-piece : goal.invariant-loop-piece
invariant-loop-piece l =
    string_bytes l.short
    ≡ joined_behind (string_bytes l.fn.short) (filter is_short (map (λ p. p.now) l.yielded))
