use Rattle.sx_steps.proofs.tests.steps_are_counted.Given as goal

abbrev pub ghosts-count : goal.ghosts-count
ghosts-count g a = record { name = a.blank.name; parts = a.blank.parts }
