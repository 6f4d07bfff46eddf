use Rattle.std.proofs.Common.{◌≡◌, ◌++◌, length, map, option_copied, string_bytes}
use Rattle.cookie_text.specs.Splitting.{cookie_texts, texts_left}
use Rattle.cookie_text.proofs.split.owned_pieces.Given as goal

abbrev pub invariant-loop-piece : goal.invariant-loop-piece
invariant-loop-piece l = map string_bytes l.pieces.items ++ texts_left (option_copied l.left) ≡ cookie_texts l.text

abbrev pub decreases-loop-piece : goal.decreases-loop-piece
decreases-loop-piece l = length (texts_left (option_copied l.left))
