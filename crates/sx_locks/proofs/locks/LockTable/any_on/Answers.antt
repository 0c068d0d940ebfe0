use Rattle.sx_locks.proofs.PlaceLemmas.{holds_on}
use Rattle.sx_locks.proofs.locks.LockTable.any_on.Goals as goal

pub returns : goal.returns
returns c =
    rw (← c.self.view_is, c.has_table.ensures) (holds_on c.self.inside.places c.self.inside.locks c.args.txn c.args.table.now c.self.invariant)
