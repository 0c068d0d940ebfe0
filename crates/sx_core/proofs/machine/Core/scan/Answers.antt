use Rattle.std.proofs.Common.{refl}
use Rattle.sx_core.proofs.TurnLemmas.{fields, Holds, uncommitted-scan}
use Rattle.sx_core.proofs.FetchLemmas.{effect-scan_over, effect-no_transform}
use Rattle.sx_core.proofs.ScanTurnLemmas.{over_here, none_here}
use Rattle.sx_core.proofs.machine.Core.scan.Goals as goal

pub returns-then-is_full-clause-answer : goal.returns-then-is_full-clause-answer
returns-then-is_full-clause-answer g c =
    let m = c.args.self.now in
    (refl, record { many = c.is_full.ensures.0 c.if-is_full.true; uncommitted = uncommitted-scan m.opening m.past c.args.n })

pub refuse_scan-requires-clause-answered : goal.refuse_scan-requires-clause-answered
refuse_scan-requires-clause-answered g c =
    let i = c.self.inside in
    let f = fields i.manager i.journal.spare i.clients.newest i.known i.phase i.spec i.cursor i.position in
    let holds : Holds i.catalog i.loads i.journal.newest f c.args.self.now = record { within = c.self.invariant.0; kept = c.self.invariant.1; view = c.self.view_is } in
    over_here i.catalog i.loads i.journal.newest f c.args.self.now c.args.n holds c.in-Chasing.is

pub refuse_scan-requires-clause-quiet : goal.refuse_scan-requires-clause-quiet
refuse_scan-requires-clause-quiet g c = effect-scan_over

pub refuse_scan-requires-in-Idle-clause-answered : goal.refuse_scan-requires-in-Idle-clause-answered
refuse_scan-requires-in-Idle-clause-answered g c =
    let i = c.self.inside in
    let f = fields i.manager i.journal.spare i.clients.newest i.known i.phase i.spec i.cursor i.position in
    let holds : Holds i.catalog i.loads i.journal.newest f c.args.self.now = record { within = c.self.invariant.0; kept = c.self.invariant.1; view = c.self.view_is } in
    none_here i.catalog i.loads i.journal.newest f c.args.self.now c.args.n holds c.in-Idle.is

pub refuse_scan-requires-in-Idle-clause-quiet : goal.refuse_scan-requires-in-Idle-clause-quiet
refuse_scan-requires-in-Idle-clause-quiet g c = effect-no_transform
