use Rattle.proved_tests.proofs.index_tests.finds_both.Given as goal

abbrev pub ghosts-finds_deep : goal.ghosts-finds_deep
ghosts-finds_deep a = record { name = a.blank.name; parts = a.blank.parts }
