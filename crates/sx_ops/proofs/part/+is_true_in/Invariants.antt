use Rattle.std.proofs.Common.{length}
use Rattle.sx_ops.proofs.part.+is_true_in.Given as goal

abbrev pub decreases-is_true_in : goal.decreases-is_true_in
decreases-is_true_in l = length l.columns.now
