use Rattle.std.proofs.Common.{◌≤◌, ◌+◌, length, arith}
use Rattle.sx_txn.specs.Lives.{kept_all}
use Rattle.sx_txn.proofs.EventLemmas.{managed-begun}
use Rattle.sx_txn.proofs.ManagedLemmas.{length-kept}
use Rattle.sx_txn.proofs.manager.Manager.begin.Goals as goal

pub invariant_of-self-2 : goal.invariant_of-self-2
invariant_of-self-2 c =
    let i = c.self.inside in
    let kept = kept_all i.living.items in
    let room : length kept + 1 ≤ c.reserve.new.self.spare = omega (arith, c.in_ok-reserve.ensures.room, length-kept i.living.items) in
    managed-begun i.tables i.log c.reserve.new.self kept (kept_all c.add.new.living.items) i.begun c.next_txn-txn.result c.self.invariant c.reserve.ensures.items room c.next_txn-txn.ensures c.in_ok-add.ensures.ok
