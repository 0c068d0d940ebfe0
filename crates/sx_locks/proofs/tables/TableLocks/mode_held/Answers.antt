use Rattle.std.proofs.Common.{◌∙◌, Some, None, ap}
use Rattle.sx_locks.specs.Locks.{mode_at}
use Rattle.sx_locks.proofs.LockLemmas.{keys_found}
use Rattle.sx_locks.proofs.tables.TableLocks.mode_held.Goals as goal

pub returns-in-Some : goal.returns-in-Some
returns-in-Some c =
    rw (← c.self.view_is) (c.mode_at.ensures ∙ ap (λ keys. mode_at keys c.args.txn c.args.key.now) (keys_found c.self.inside.tables.entries c.args.table.now (Some c.in-Some.keys.now) c.in-Some.ensures.value))

pub returns-in-None : goal.returns-in-None
returns-in-None c =
    rw (← c.self.view_is) (ap (λ keys. mode_at keys c.args.txn c.args.key.now) (keys_found c.self.inside.tables.entries c.args.table.now None c.in-None.ensures.value))
