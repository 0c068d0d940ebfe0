use Rattle.std.proofs.Common.{length}
use Rattle.sx_ops.proofs.faults.+fits_column.Given as goal

abbrev pub decreases-fits_column : goal.decreases-fits_column
decreases-fits_column l = length l.columns.now
