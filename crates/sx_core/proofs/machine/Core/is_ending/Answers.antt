use Rattle.std.proofs.Common.{◌∙◌}
use Rattle.sx_core.proofs.TurnLemmas.{fields, Holds, ending_there}
use Rattle.sx_core.proofs.machine.Core.is_ending.Goals as goal

pub returns : goal.returns
returns c =
    let i = c.self.inside in
    let f = fields i.manager i.journal.spare i.clients.newest i.known i.phase i.spec i.cursor i.position in
    let holds : Holds i.catalog i.loads i.journal.newest f c.args.self.now = record { within = c.self.invariant.0; kept = c.self.invariant.1; view = c.self.view_is } in
    c.ending.ensures ∙ ending_there i.catalog i.loads i.journal.newest f c.args.self.now c.args.client c.args.txn holds c.requires
