use Rattle.sx_txn.proofs.tests.undo.Given as goal

abbrev pub ghosts-undo_counted : goal.ghosts-undo_counted
ghosts-undo_counted g a = record { name = a.blank.name; parts = a.blank.parts }
