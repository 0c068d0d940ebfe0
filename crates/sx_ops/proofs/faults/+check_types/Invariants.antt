use Rattle.std.proofs.Common.{length}
use Rattle.sx_ops.proofs.faults.+check_types.Given as goal

abbrev pub decreases-check_types : goal.decreases-check_types
decreases-check_types l = length l.tests.now
