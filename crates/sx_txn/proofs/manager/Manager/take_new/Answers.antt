use Rattle.std.proofs.Common.{◌∙◌, [], take, sym}
use Rattle.sx_txn.specs.Lives.{kept_all}
use Rattle.std.proofs.lemmas.List.{append-nil}
use Rattle.sx_txn.proofs.EventLemmas.{managed-exchanged}
use Rattle.sx_txn.proofs.manager.Manager.take_new.Goals as goal

pub invariant_of-self : goal.invariant_of-self
invariant_of-self c =
    let i = c.self.inside in
    managed-exchanged i.tables c.take_fresh.new.self i.log (kept_all i.living.items) i.begun [] c.self.invariant c.take_fresh.ensures.few c.take_fresh.ensures.own (c.take_fresh.ensures.all ∙ sym (append-nil (take i.tables.own i.tables.all)))
