use Rattle.proved_tests.proofs.cipher_tests.steps_as_published.Given as goal

abbrev pub ghosts-two_steps_from : goal.ghosts-two_steps_from
ghosts-two_steps_from g a = record { name = a.blank.name; parts = a.blank.parts }
