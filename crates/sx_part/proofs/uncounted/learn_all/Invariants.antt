use Rattle.sx_part.proofs.uncounted.learn_all.Given as goal

abbrev pub ghosts-counted_learn_all : goal.ghosts-counted_learn_all
ghosts-counted_learn_all a = record { name = a.blank.name; parts = a.blank.parts }
