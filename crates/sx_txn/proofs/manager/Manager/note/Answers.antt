use Rattle.std.proofs.Common.{◌<◌, length, arith}
use Rattle.sx_txn.specs.Managed.{Managed}
use Rattle.sx_txn.specs.Lives.{kept_all}
use Rattle.sx_txn.proofs.EventLemmas.{managed-noted, from_view, length-alive}
use Rattle.sx_txn.proofs.manager.Manager.note.Goals as goal

pub invariant_of-self : goal.invariant_of-self
invariant_of-self c =
    let i = c.self.inside in
    let kept = kept_all i.living.items in
    let room = from_view (λ (m : Managed). length m.living < m.spare) i.tables i.log i.locks kept i.begun c.args.self.now c.self.view_is c.requires.room in
    let few : length kept < i.log.spare = omega (arith, room, length-alive kept) in
    managed-noted i.tables i.log c.append.new.self kept i.begun c.args.body c.self.invariant c.requires.note c.append.ensures.item few c.append.ensures.room
