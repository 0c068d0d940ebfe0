use Rattle.sx_core.proofs.uncounted.follow.Given as goal

abbrev pub ghosts-counted_follow : goal.ghosts-counted_follow
ghosts-counted_follow a = record { name = a.blank.name; parts = a.blank.parts }
