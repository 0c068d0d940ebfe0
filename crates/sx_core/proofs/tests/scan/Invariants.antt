use Rattle.sx_core.proofs.tests.scan.Given as goal

abbrev pub ghosts-counted_scan : goal.ghosts-counted_scan
ghosts-counted_scan a = record { name = a.blank.name; parts = a.blank.parts }
