use Rattle.std.proofs.Common.{subst}
use Rattle.sx_model.specs.Logs.{log_of}
use Rattle.sx_txn.specs.Managed.{AreTables}
use Rattle.sx_core.specs.Machines.{Machine}
use Rattle.sx_core.specs.Kept.{shapes_of}
use Rattle.sx_core.proofs.TurnLemmas.{opened}
use Rattle.sx_core.proofs.ViewLemmas.{Lends, lent_meet}
use Rattle.sx_core.proofs.machine.Core.tables.Goals as goal

pub returns : goal.returns
returns c =
    let i = c.self.inside in
    let lends : Lends i.manager c.tables.result.now = record { tables = c.tables.ensures.tables; shapes = c.tables.ensures.shapes } in
    subst (λ (m : Machine). AreTables (log_of m.opening m.past) (shapes_of m.opening.catalog) c.tables.result.now) c.self.view_is
    (lent_meet (opened i.catalog i.loads i.manager.log) i.journal.newest i.manager c.tables.result.now c.self.invariant.1.manager_meets lends)
