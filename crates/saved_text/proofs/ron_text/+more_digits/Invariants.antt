use Rattle.saved_text.proofs.ron_text.+more_digits.Given as goal

abbrev pub decreases-more_digits : goal.decreases-more_digits
decreases-more_digits l = l.left
