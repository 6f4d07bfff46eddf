use Rattle.std.specs.Prelude.{map, take}
use Rattle.cookie_text.specs.ReadingBack.{Pairwise}
use Rattle.cookie_jar.specs.Entries.{GivesPiece, entry_row}
use Rattle.cookie_jar.proofs.entries.piece_entries.Given as goal

abbrev pub invariant-loop-index : goal.invariant-loop-index
invariant-loop-index l =
    Pairwise GivesPiece (map (λ item. item.now) (take l.index l.items)) (map entry_row l.entries.items)
