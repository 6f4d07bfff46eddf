use Rattle.proved_tests.proofs.index_rows.position.Given as goal

abbrev pub ghosts-position_from : goal.ghosts-position_from
ghosts-position_from a = record { name = a.blank.name; parts = a.blank.parts }
