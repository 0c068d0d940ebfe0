use Rattle.std.proofs.Common.{None}
use Rattle.sx_locks.proofs.HolderLemmas.{lookup_number-update}
use Rattle.sx_locks.proofs.holders.Holders.free.Goals as goal

pub returns-in-Many-clause-freed : goal.returns-in-Many-clause-freed
returns-in-Many-clause-freed c =
    rw (← c.self.view_is, c.in-Many.is) (lookup_number-update c.in-Many.modes.entries c.remove.new.self.entries c.args.txn None c.remove.ensures.updates.0)
