use Rattle.std.proofs.Common.{subst}
use Rattle.sx_core.specs.Machines.{Machine}
use Rattle.sx_core.specs.Views.{AreNew}
use Rattle.sx_core.proofs.TurnLemmas.{opened}
use Rattle.sx_core.proofs.ViewLemmas.{LendsNew, are_new}
use Rattle.sx_core.proofs.machine.Core.new_tables.Goals as goal

pub returns : goal.returns
returns c =
    let i = c.self.inside in
    let lends : LendsNew i.manager c.new_tables.result.now = record { now = c.new_tables.ensures.now; shapes = c.new_tables.ensures.shapes; meets = c.new_tables.ensures.meets } in
    subst (λ (m : Machine). AreNew m.opening m.past c.new_tables.result.now) c.self.view_is
    (are_new (opened i.catalog i.loads i.manager.log) i.journal.newest i.manager c.new_tables.result.now c.self.invariant.1.legal c.self.invariant.1.manager_meets lends)
