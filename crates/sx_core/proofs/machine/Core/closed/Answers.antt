use Rattle.std.proofs.Common.{◌∙◌, ap, sym}
use Rattle.sx_values.specs.Names.{has_name}
use Rattle.sx_ops.specs.Operators.{sources_of, targets_of}
use Rattle.sx_sync.specs.declared.Phase.TheVariants.{Draining}
use Rattle.sx_model.specs.Closed.{closed}
use Rattle.sx_model.specs.Switches.{has_lock_on}
use Rattle.sx_core.specs.Machines.{Machine}
use Rattle.sx_core.proofs.TurnLemmas.{fields, opened}
use Rattle.sx_core.proofs.CloseLemmas.{shaped_now, closed-is, still_hidden}
use Rattle.sx_core.proofs.machine.Core.closed.Goals as goal

pub drained-requires-clause-shaped : goal.drained-requires-clause-shaped
drained-requires-clause-shaped c =
    let i = c.self.inside in
    let f = fields i.manager i.journal.spare i.clients.newest i.known i.phase i.spec i.cursor i.position in
    shaped_now (opened i.catalog i.loads i.manager.log) i.journal.newest f c.in-Some.spec c.self.invariant.1 c.in-Some.is

pub returns-in-Some-hidden : goal.returns-in-Some-hidden
returns-in-Some-hidden c =
    let i = c.self.inside in
    let f = fields i.manager i.journal.spare i.clients.newest i.known i.phase i.spec i.cursor i.position in
    sym (sym (ap (λ (m : Machine). closed m.past c.args.actor c.args.table.now) c.self.view_is)
    ∙ closed-is (opened i.catalog i.loads i.manager.log) i.journal.newest f c.args.actor c.args.table.now c.in-Some.spec Draining c.self.invariant.1 c.in-Some.is c.in-Draining.is
    ∙ still_hidden (has_name (targets_of c.in-Some.spec) c.args.table.now) (has_name (sources_of c.in-Some.spec) c.args.table.now) (has_lock_on (sources_of c.in-Some.spec) c.args.actor i.journal.newest) c.in-Some-hidden.refusal
    (sym c.hidden-in-Draining.ensures ∙ c.in-Some-hidden.is))
