use Rattle.sx_txn.specs.Lives.{kept_all}
use Rattle.sx_txn.proofs.EventLemmas.{managed-exchanged}
use Rattle.sx_txn.proofs.manager.Manager.put_new.Goals as goal

pub invariant_of-self : goal.invariant_of-self
invariant_of-self c =
    let i = c.self.inside in
    managed-exchanged i.tables c.put_fresh.new.self i.log (kept_all i.living.items) i.begun c.args.tables c.self.invariant c.put_fresh.ensures.few c.put_fresh.ensures.own c.put_fresh.ensures.all
