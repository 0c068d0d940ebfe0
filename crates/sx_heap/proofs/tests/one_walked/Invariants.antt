use Rattle.sx_heap.proofs.tests.one_walked.Given as goal

abbrev pub ghosts-walk_counted : goal.ghosts-walk_counted
ghosts-walk_counted g a = record { name = a.blank.name; parts = a.blank.parts }
