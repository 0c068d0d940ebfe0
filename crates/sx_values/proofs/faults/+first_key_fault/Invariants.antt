use Rattle.std.proofs.Common.{length}
use Rattle.sx_values.proofs.faults.+first_key_fault.Given as goal

abbrev pub decreases-first_key_fault : goal.decreases-first_key_fault
decreases-first_key_fault l = length l.places.now
