use Rattle.proved_tests.proofs.index_tests.finds_as_a_scan.Given as goal

abbrev pub ghosts-finds_from : goal.ghosts-finds_from
ghosts-finds_from a = record { name = a.blank.name; parts = a.blank.parts }
