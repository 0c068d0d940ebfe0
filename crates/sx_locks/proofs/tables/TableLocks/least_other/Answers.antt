use Rattle.std.proofs.Common.{Some, None, subst}
use Rattle.sx_locks.specs.Modes.{IsLeastOf}
use Rattle.sx_locks.specs.Locks.{mode_at}
use Rattle.sx_locks.proofs.HolderLemmas.{least_of_none}
use Rattle.sx_locks.proofs.LockLemmas.{keys_found}
use Rattle.sx_locks.proofs.tables.TableLocks.least_other.Goals as goal

pub returns-in-Some : goal.returns-in-Some
returns-in-Some c =
    rw (← c.self.view_is) (subst (λ keys. IsLeastOf (λ other. mode_at keys other c.args.key.now) c.args.txn c.args.mode c.least_other.result) (keys_found c.self.inside.tables.entries c.args.table.now (Some c.in-Some.keys.now) c.in-Some.ensures.value) c.least_other.ensures)

pub returns-in-None : goal.returns-in-None
returns-in-None c =
    rw (← c.self.view_is) (subst (λ keys. IsLeastOf (λ other. mode_at keys other c.args.key.now) c.args.txn c.args.mode None) (keys_found c.self.inside.tables.entries c.args.table.now None c.in-None.ensures.value) (least_of_none c.args.txn c.args.mode))
