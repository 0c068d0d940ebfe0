use Rattle.std.proofs.Common.{length}
use Rattle.sx_core.proofs.clients.+txn_among.Given as goal

abbrev pub decreases-txn_among : goal.decreases-txn_among
decreases-txn_among l = length l.clients.now
