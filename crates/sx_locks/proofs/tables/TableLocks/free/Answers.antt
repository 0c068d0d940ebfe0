use Rattle.std.proofs.Common.{rules, Some, None}
use Rattle.sx_locks.proofs.LockLemmas.{sets_table, frees_no_table}
use Rattle.sx_locks.proofs.tables.TableLocks.free.Goals as goal
use Rattle.sx_locks.proofs.tables.TableLocks.free.Goals.{in-Some, in-None}

pub returns : goal.returns
returns c =
    let before = c.self.inside.tables.entries in
    rw (← c.self.view_is) (elim c.match-get_mut.branch [
      | in-Some w ↦ rw w.self-inside-is (sets_table before (c.get_mut.follows.lender w.free.new.self).entries c.args.txn c.args.table.now c.args.key.now None (Some w.in-Some.keys.now) w.free.new.self w.in-Some.ensures.value ((c.get_mut.follows.holds w.free.new.self).3 (search rules)).0 w.free.ensures)
      | in-None w ↦ rw (w.self-inside-is, c.get_mut.follows.holds-at-none) (frees_no_table before c.args.txn c.args.table.now c.args.key.now w.in-None.ensures.value)
    ])
