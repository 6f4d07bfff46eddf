use Rattle.std.proofs.Common.{◌≡◌, ℕ, List, map, string_bytes}
use Rattle.cookie_text.specs.ReadingBack.{Pairwise}
use Rattle.jiff.specs.Words.{civil_nanos}
use Rattle.user_agent.specs.CutLives.{IsCut}
use Rattle.user_agent.specs.KnownDates.{joined_behind}
use Rattle.user_agent.proofs.cut_life.push_cut_pieces.Given as goal

abbrev pub invariant-loop-piece : goal.invariant-loop-piece
invariant-loop-piece l =
    (others : List (List ℕ)) × Pairwise (IsCut (civil_nanos l.now)) (map (λ p. p.now) l.yielded) others
    × (string_bytes l.cut ≡ joined_behind (string_bytes l.fn.cut) others)
