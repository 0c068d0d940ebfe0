use Rattle.std.proofs.Common.{length}
use Rattle.sx_sync.proofs.ready.+least_hindering.Given as goal

abbrev pub decreases-least_hindering : goal.decreases-least_hindering
decreases-least_hindering l = length l.live.now
