use Rattle.std.proofs.Common.{length}
use Rattle.sx_core.proofs.make.+crowded.Given as goal

abbrev pub decreases-crowded : goal.decreases-crowded
decreases-crowded l = length l.declared.now
