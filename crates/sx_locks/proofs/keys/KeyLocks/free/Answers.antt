use Rattle.std.proofs.Common.{◌≡◌, rules, refl}
use Rattle.sx_locks.proofs.LockLemmas.{bare_out}
use Rattle.sx_locks.proofs.keys.KeyLocks.free.Goals as goal

pub returns-then-free_holder : goal.returns-then-free_holder
returns-then-free_holder c =
    let mid = c.free_holder.new.keys.entries in
    let done = bare_out c.self.inside.keys.entries mid c.remove.new.self.entries c.args.txn c.args.key.now c.if-free_holder.ensures.freed (c.if-free_holder.ensures.bare refl) c.remove.ensures.updates.0 in
    let same : c.match-remove.self ≡ c.remove.new.self.entries = search rules in
    rw (← c.self.view_is, same) done
