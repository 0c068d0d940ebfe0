use Rattle.std.proofs.Common.{◌≡◌, true}
use Rattle.sx_txn.specs.Managed.{Managed, is_live}
use Rattle.sx_txn.specs.Lives.{kept_all}
use Rattle.sx_txn.proofs.EventLemmas.{managed-ended, ends, from_view}
use Rattle.sx_txn.proofs.manager.Manager.end.Goals as goal

pub invariant_of-self : goal.invariant_of-self
invariant_of-self c =
    let i = c.self.inside in
    let kept = kept_all i.living.items in
    let live = from_view (λ (m : Managed). is_live m.living c.args.txn ≡ true) i.tables i.log i.locks kept i.begun c.args.self.now c.self.view_is c.requires.live in
    managed-ended i.tables i.log c.append-lsn.new.self kept (kept_all c.remove.new.living.items) i.begun c.args.txn c.args.by c.self.invariant live c.requires.ends c.append-lsn.ensures.item c.append-lsn.ensures.room c.remove.ensures

pub returns : goal.returns
returns c =
    let i = c.self.inside in
    ends i.tables i.log c.append-lsn.new.self i.locks c.release_all.new.self (kept_all i.living.items) (kept_all c.remove.new.living.items) i.begun c.args.txn c.args.self.now c.args.by c.append-lsn.result
    c.self.view_is c.append-lsn.ensures.item c.append-lsn.ensures.place c.release_all.ensures c.remove.ensures
