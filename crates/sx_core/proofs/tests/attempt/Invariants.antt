use Rattle.sx_core.proofs.tests.attempt.Given as goal

abbrev pub ghosts-switched : goal.ghosts-switched
ghosts-switched a = record { name = a.blank.name; parts = a.blank.parts }
