use Rattle.std.proofs.Common.{◌∙◌, ap}
use Rattle.sx_model.specs.Leaves.{txn_among, txn_of}
use Rattle.sx_core.specs.Machines.{Machine}
use Rattle.sx_core.proofs.machine.Core.txn_of.Goals as goal

pub returns : goal.returns
returns c =
    c.txn_of.ensures ∙ ap (λ l. txn_among l c.args.client) c.self.invariant.1.clients_are ∙ ap (λ (m : Machine). txn_of m.past c.args.client) c.self.view_is
