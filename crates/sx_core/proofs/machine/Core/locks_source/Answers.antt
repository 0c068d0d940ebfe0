use Rattle.std.proofs.Common.{◌∙◌, ◌↔◌, IsTrue, ap, sym, subst}
use Rattle.sx_locks.specs.Locks.{Locks, HoldsOn}
use Rattle.sx_ops.specs.declared.spec.Spec.{Spec}
use Rattle.sx_ops.specs.Operators.{sources_of}
use Rattle.sx_model.specs.Switches.{has_lock_on}
use Rattle.sx_core.specs.Machines.{Machine}
use Rattle.sx_core.proofs.TurnLemmas.{fields, opened, Holds}
use Rattle.sx_core.proofs.ClientLemmas.{inside_here}
use Rattle.sx_core.proofs.CloseLemmas.{locks-shown}
use Rattle.sx_core.proofs.machine.Core.locks_source.Goals as goal

pub returns : goal.returns
returns c =
    let i = c.self.inside in
    let f = fields i.manager i.journal.spare i.clients.newest i.known i.phase i.spec i.cursor i.position in
    let holds : Holds i.catalog i.loads i.journal.newest f c.args.self.now = record { within = c.self.invariant.0; kept = c.self.invariant.1; view = c.self.view_is } in
    let inside = inside_here i.catalog i.loads i.journal.newest f c.args.self.now c.args.actor c.args.txn holds c.requires.inside in
    let means = subst (λ (l : Locks). IsTrue c.any_on.result ↔ HoldsOn l c.args.txn c.in-Part.table) c.locks.ensures c.any_on.ensures in
    locks-shown (opened i.catalog i.loads i.manager.log) i.journal.newest f c.args.actor c.args.txn c.in-Part.table c.any_on.result holds.kept inside means
    ∙ ap (λ (s : Spec). has_lock_on (sources_of s) c.args.actor i.journal.newest) (sym c.in-Part.is)
    ∙ ap (λ (m : Machine). has_lock_on (sources_of c.args.spec.now) c.args.actor m.past) c.self.view_is
