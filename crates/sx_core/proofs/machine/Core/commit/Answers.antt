use Rattle.std.proofs.Common.{◌≤◌, ◌∙◌, length, ap, refl, arith}
use Rattle.sx_journal.specs.declared.entry.Request.TheVariants as request
use Rattle.sx_journal.specs.declared.entry.Reply.TheVariants as reply
use Rattle.sx_core.proofs.TurnLemmas.{fields, Holds, live_there, ending_there, client_right}
use Rattle.sx_core.proofs.ClientLemmas.{Beside, fewer_there, committed_took}
use Rattle.sx_core.proofs.machine.Core.commit.Goals as goal

pub commit-lsn-requires : goal.commit-lsn-requires
commit-lsn-requires c =
    let i = c.self.inside in
    let f = fields i.manager i.journal.spare i.clients.newest i.known i.phase i.spec i.cursor i.position in
    let holds : Holds i.catalog i.loads i.journal.newest f c.args.self.now = record { within = c.self.invariant.0; kept = c.self.invariant.1; view = c.self.view_is } in
    record {
      live = live_there i.catalog i.loads i.journal.newest f c.args.self.now c.args.actor c.args.txn holds c.requires.inside.inside;
      resting = ending_there i.catalog i.loads i.journal.newest f c.args.self.now c.args.actor c.args.txn holds c.requires.inside.inside ∙ c.requires.inside.resting;
    }

pub append-requires : goal.append-requires
append-requires c =
    let i = c.self.inside in
    let f = fields i.manager i.journal.spare i.clients.newest i.known i.phase i.spec i.cursor i.position in
    let holds : Holds i.catalog i.loads i.journal.newest f c.args.self.now = record { within = c.self.invariant.0; kept = c.self.invariant.1; view = c.self.view_is } in
    let fewer = fewer_there i.catalog i.loads i.journal.newest f c.args.self.now c.args.actor c.args.txn holds c.requires.inside.inside in
    let spare = c.self.invariant.1.room in
    omega arith

pub invariant_of-self : goal.invariant_of-self
invariant_of-self c =
    let i = c.self.inside in
    let f = fields i.manager i.journal.spare i.clients.newest i.known i.phase i.spec i.cursor i.position in
    let holds : Holds i.catalog i.loads i.journal.newest f c.args.self.now = record { within = c.self.invariant.0; kept = c.self.invariant.1; view = c.self.view_is } in
    let g = fields c.commit-lsn.new.self c.append.new.self.spare c.remove.new.self.newest i.known i.phase i.spec i.cursor i.position in
    let fewer = fewer_there i.catalog i.loads i.journal.newest f c.args.self.now c.args.actor c.args.txn holds c.requires.inside.inside in
    let counted = ap length c.remove.ensures in
    let spare = c.self.invariant.1.room in
    let room : length c.remove.new.self.newest ≤ c.append.new.self.spare = omega (arith, c.append.ensures.room) in
    let beside : Beside f g = record { known = refl; now = refl; spec = refl; cursor = refl; position = refl; room = room } in
    let t = committed_took i.catalog i.loads i.journal.newest c.append.new.self.newest f g c.args.self.now c.args.actor c.args.txn c.commit-lsn.result holds c.requires.comes c.requires.inside c.commit-lsn.ensures c.remove.ensures beside c.append.ensures.item in
    (t.within, t.kept)

pub returns-clause-answer : goal.returns-clause-answer
returns-clause-answer c =
    let i = c.self.inside in
    let f = fields i.manager i.journal.spare i.clients.newest i.known i.phase i.spec i.cursor i.position in
    let holds : Holds i.catalog i.loads i.journal.newest f c.args.self.now = record { within = c.self.invariant.0; kept = c.self.invariant.1; view = c.self.view_is } in
    let g = fields c.commit-lsn.new.self c.append.new.self.spare c.remove.new.self.newest i.known i.phase i.spec i.cursor i.position in
    let fewer = fewer_there i.catalog i.loads i.journal.newest f c.args.self.now c.args.actor c.args.txn holds c.requires.inside.inside in
    let counted = ap length c.remove.ensures in
    let spare = c.self.invariant.1.room in
    let room : length c.remove.new.self.newest ≤ c.append.new.self.spare = omega (arith, c.append.ensures.room) in
    let beside : Beside f g = record { known = refl; now = refl; spec = refl; cursor = refl; position = refl; room = room } in
    let t = committed_took i.catalog i.loads i.journal.newest c.append.new.self.newest f g c.args.self.now c.args.actor c.args.txn c.commit-lsn.result holds c.requires.comes c.requires.inside c.commit-lsn.ensures c.remove.ensures beside c.append.ensures.item in
    (client_right _ _ c.args.actor request.Commit (reply.Committed c.commit-lsn.result) t.turns, t.turns)
