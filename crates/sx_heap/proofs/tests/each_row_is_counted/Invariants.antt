use Rattle.sx_heap.proofs.tests.each_row_is_counted.Given as goal

abbrev pub ghosts-count_rows : goal.ghosts-count_rows
ghosts-count_rows g a = record { name = a.blank.name; parts = a.blank.parts }
