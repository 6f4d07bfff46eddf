use Rattle.std.proofs.Common.{◌≡◌, ℕ, List, map, string_bytes}
use Rattle.cookie_text.specs.ReadingBack.{Pairwise}
use Rattle.user_agent.specs.KnownDates.{IsKnown, joined_behind}
use Rattle.user_agent.proofs.known_date.push_known_pieces.Given as goal

abbrev pub invariant-loop-piece : goal.invariant-loop-piece
invariant-loop-piece l =
    (others : List (List ℕ)) × Pairwise IsKnown (map (λ p. p.now) l.yielded) others
    × (string_bytes l.known ≡ joined_behind (string_bytes l.fn.known) others)
