use Rattle.shiftrun.proofs.propagator.switch.Given as goal

abbrev pub ghosts-switched : goal.ghosts-switched
ghosts-switched a = record { name = a.blank.name; parts = a.blank.parts }
