use Rattle.std.proofs.Common.{Some}
use Rattle.sx_locks.proofs.HolderLemmas.{lookup_number-update}
use Rattle.sx_locks.proofs.holders.Holders.set.Goals as goal

pub returns-in_ok-insert-in-Many-clause-ok : goal.returns-in_ok-insert-in-Many-clause-ok
returns-in_ok-insert-in-Many-clause-ok c =
    rw (← c.self.view_is, c.in-Many.is) (lookup_number-update c.in-Many.modes.entries c.insert.new.self.entries c.args.txn (Some c.args.mode) c.in_ok-insert-in-Many.ensures.updates.0)
