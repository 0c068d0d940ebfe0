use Rattle.std.proofs.Common.{length}
use Rattle.sx_values.proofs.checks.+nullable_fault.Given as goal

abbrev pub decreases-nullable_fault : goal.decreases-nullable_fault
decreases-nullable_fault l = length l.key.now
