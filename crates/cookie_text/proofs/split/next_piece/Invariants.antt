use Rattle.std.proofs.Common.{◌≡◌, option_copied}
use Rattle.cookie_text.specs.Splitting.{texts_left}
use Rattle.cookie_text.proofs.SplittingLemmas.{left_size}
use Rattle.cookie_text.proofs.split.next_piece.Given as goal

abbrev pub invariant-loop-left : goal.invariant-loop-left
invariant-loop-left l = texts_left (option_copied l.text) ≡ texts_left (option_copied l.left)

abbrev pub decreases-loop-left : goal.decreases-loop-left
decreases-loop-left l = left_size (option_copied l.left)
