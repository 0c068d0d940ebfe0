use Rattle.sx_heap.proofs.tests.rows_in_key_order.Given as goal

abbrev pub ghosts-rows_counted : goal.ghosts-rows_counted
ghosts-rows_counted g a = record { name = a.blank.name; parts = a.blank.parts }
