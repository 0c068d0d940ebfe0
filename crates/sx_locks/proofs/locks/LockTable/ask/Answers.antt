use Rattle.std.proofs.Common.{◌∙◌, sym, ap, subst, is_some}
use Rattle.sx_locks.specs.Modes.{stronger}
use Rattle.sx_locks.specs.Locks.{mode_held}
use Rattle.sx_locks.specs.Taking.{Takes}
use Rattle.sx_locks.proofs.PlaceLemmas.{listed_raised, listed_same, taken_back}
use Rattle.sx_locks.proofs.locks.LockTable.ask.Goals as goal

pub invariant_of-self-then-is_some : goal.invariant_of-self-then-is_some
invariant_of-self-then-is_some c =
    let was = c.self.inside.locks in
    let takes = subst (Takes was c.ask.new.self c.args.txn c.args.table.now c.args.key.now c.args.mode) c.in-Locked.is c.in_ok-by.ensures.ok in
    let held = sym (c.if-is_some.ensures ∙ ap is_some takes.1) in
    listed_raised c.self.inside.places was c.ask.new.self c.args.txn c.args.table.now c.args.key.now (stronger (mode_held was c.args.txn c.args.table.now c.args.key.now) c.args.mode) c.self.invariant held takes.2

pub invariant_of-self-in-Err : goal.invariant_of-self-in-Err
invariant_of-self-in-Err c =
    let was = c.self.inside.locks in
    let takes = subst (Takes was c.ask.new.self c.args.txn c.args.table.now c.args.key.now c.args.mode) c.in-Locked.is c.in_ok-by.ensures.ok in
    let absent = sym (c.if-is_some.ensures ∙ ap is_some takes.1) in
    let same = taken_back was c.ask.new.self c.free.new.self c.args.txn c.args.table.now c.args.key.now (stronger (mode_held was c.args.txn c.args.table.now c.args.key.now) c.args.mode) absent takes.2 c.free.ensures in
    rw c.in-Err.ensures.err (listed_same c.self.inside.places was c.free.new.self c.self.invariant same)

pub returns-in-Err-clause-err : goal.returns-in-Err-clause-err
returns-in-Err-clause-err c =
    let was = c.self.inside.locks in
    let takes = subst (Takes was c.ask.new.self c.args.txn c.args.table.now c.args.key.now c.args.mode) c.in-Locked.is c.in_ok-by.ensures.ok in
    let absent = sym (c.if-is_some.ensures ∙ ap is_some takes.1) in
    rw (← c.self.view_is) (taken_back was c.ask.new.self c.free.new.self c.args.txn c.args.table.now c.args.key.now (stronger (mode_held was c.args.txn c.args.table.now c.args.key.now) c.args.mode) absent takes.2 c.free.ensures)
