use Rattle.proved_tests.proofs.cipher_tests.seals_and_opens_with_a_count.Given as goal

abbrev pub ghosts-seal_and_open_from : goal.ghosts-seal_and_open_from
ghosts-seal_and_open_from g a = record { name = a.blank.name; parts = a.blank.parts }
