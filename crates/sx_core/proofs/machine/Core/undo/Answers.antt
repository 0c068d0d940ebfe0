use Rattle.std.proofs.Common.{◌≤◌, ◌∷◌, ◌∙◌, length, ap, subst, refl, arith}
use Rattle.sx_journal.specs.declared.entry.Request.TheVariants as request
use Rattle.sx_journal.specs.declared.entry.Reply.TheVariants as reply
use Rattle.sx_txn.specs.Answers.{AnswersUndo}
use Rattle.sx_core.proofs.TurnLemmas.{fields, opened, with_journal, stays, Leaves, Holds, live_there, client_right}
use Rattle.sx_core.proofs.ClientLemmas.{client_entry, Beside, fewer_there, undone_took, aborted_took}
use Rattle.sx_core.proofs.UndoLemmas.{can_undo}
use Rattle.sx_core.proofs.machine.Core.undo.Goals as goal

pub undo_one-requires : goal.undo_one-requires
undo_one-requires g c =
    let i = c.self.inside in
    let f = fields i.manager i.journal.spare i.clients.newest i.known i.phase i.spec i.cursor i.position in
    let holds : Holds i.catalog i.loads i.journal.newest f c.args.self.now = record { within = c.self.invariant.0; kept = c.self.invariant.1; view = c.self.view_is } in
    record { live = live_there i.catalog i.loads i.journal.newest f c.args.self.now c.args.actor c.args.txn holds c.requires.inside; can = can_undo (opened i.catalog i.loads i.manager.log) i.journal.newest i.manager c.args.txn holds.kept.loads_fit holds.kept.legal holds.kept.manager_meets }

pub invariant_of-self-in-Undone : goal.invariant_of-self-in-Undone
invariant_of-self-in-Undone g c =
    let i = c.self.inside in
    let f = fields i.manager i.journal.spare i.clients.newest i.known i.phase i.spec i.cursor i.position in
    let holds : Holds i.catalog i.loads i.journal.newest f c.args.self.now = record { within = c.self.invariant.0; kept = c.self.invariant.1; view = c.self.view_is } in
    let g = fields c.undo_one.new.self c.append.new.self.spare i.clients.newest i.known i.phase i.spec i.cursor i.position in
    let room : length i.clients.newest ≤ c.append.new.self.spare = omega (arith, c.in_ok-reserve.ensures.room, c.append.ensures.room, c.room_and.ensures) in
    let beside : Beside f g = record { known = refl; now = refl; spec = refl; cursor = refl; position = refl; room = room } in
    let longer = c.append.ensures.item ∙ ap (λ l. client_entry c.args.actor request.Undo (reply.Undone c.in-Undone.lsn) ∷ l) c.reserve.ensures.items in
    let t = undone_took i.catalog i.loads i.journal.newest c.append.new.self.newest f g c.args.self.now c.args.actor c.args.txn c.in-Undone.lsn holds c.requires.comes c.requires.place c.requires.inside (can_undo (opened i.catalog i.loads i.manager.log) i.journal.newest i.manager c.args.txn holds.kept.loads_fit holds.kept.legal holds.kept.manager_meets) (subst (AnswersUndo i.manager c.undo_one.new.self c.args.txn) c.in-Undone.is c.in_ok-lsn.ensures.ok) refl beside longer in
    (t.within, t.kept)

pub returns-in-Undone : goal.returns-in-Undone
returns-in-Undone g c =
    let i = c.self.inside in
    let f = fields i.manager i.journal.spare i.clients.newest i.known i.phase i.spec i.cursor i.position in
    let holds : Holds i.catalog i.loads i.journal.newest f c.args.self.now = record { within = c.self.invariant.0; kept = c.self.invariant.1; view = c.self.view_is } in
    let g = fields c.undo_one.new.self c.append.new.self.spare i.clients.newest i.known i.phase i.spec i.cursor i.position in
    let room : length i.clients.newest ≤ c.append.new.self.spare = omega (arith, c.in_ok-reserve.ensures.room, c.append.ensures.room, c.room_and.ensures) in
    let beside : Beside f g = record { known = refl; now = refl; spec = refl; cursor = refl; position = refl; room = room } in
    let longer = c.append.ensures.item ∙ ap (λ l. client_entry c.args.actor request.Undo (reply.Undone c.in-Undone.lsn) ∷ l) c.reserve.ensures.items in
    let t = undone_took i.catalog i.loads i.journal.newest c.append.new.self.newest f g c.args.self.now c.args.actor c.args.txn c.in-Undone.lsn holds c.requires.comes c.requires.place c.requires.inside (can_undo (opened i.catalog i.loads i.manager.log) i.journal.newest i.manager c.args.txn holds.kept.loads_fit holds.kept.legal holds.kept.manager_meets) (subst (AnswersUndo i.manager c.undo_one.new.self c.args.txn) c.in-Undone.is c.in_ok-lsn.ensures.ok) refl beside longer in
    (client_right _ _ c.args.actor request.Undo (reply.Undone c.in-Undone.lsn) t.turns, t.turns)

pub invariant_of-self-in-Aborted : goal.invariant_of-self-in-Aborted
invariant_of-self-in-Aborted g c =
    let i = c.self.inside in
    let f = fields i.manager i.journal.spare i.clients.newest i.known i.phase i.spec i.cursor i.position in
    let holds : Holds i.catalog i.loads i.journal.newest f c.args.self.now = record { within = c.self.invariant.0; kept = c.self.invariant.1; view = c.self.view_is } in
    let g = fields c.undo_one.new.self c.append-in-Aborted.new.self.spare c.remove.new.self.newest i.known i.phase i.spec i.cursor i.position in
    let fewer = fewer_there i.catalog i.loads i.journal.newest f c.args.self.now c.args.actor c.args.txn holds c.requires.inside in
    let counted = ap length c.remove.ensures in
    let room : length c.remove.new.self.newest ≤ c.append-in-Aborted.new.self.spare = omega (arith, c.in_ok-reserve.ensures.room, c.append-in-Aborted.ensures.room, c.room_and.ensures) in
    let beside : Beside f g = record { known = refl; now = refl; spec = refl; cursor = refl; position = refl; room = room } in
    let longer = c.append-in-Aborted.ensures.item ∙ ap (λ l. client_entry c.args.actor request.Undo (reply.Aborted c.in-Aborted.lsn) ∷ l) c.reserve.ensures.items in
    let t = aborted_took i.catalog i.loads i.journal.newest c.append-in-Aborted.new.self.newest f g c.args.self.now c.args.actor c.args.txn c.in-Aborted.lsn holds c.requires.comes c.requires.place c.requires.inside (subst (AnswersUndo i.manager c.undo_one.new.self c.args.txn) c.in-Aborted.is c.in_ok-lsn.ensures.ok) c.remove.ensures beside longer in
    (t.within, t.kept)

pub returns-in-Aborted : goal.returns-in-Aborted
returns-in-Aborted g c =
    let i = c.self.inside in
    let f = fields i.manager i.journal.spare i.clients.newest i.known i.phase i.spec i.cursor i.position in
    let holds : Holds i.catalog i.loads i.journal.newest f c.args.self.now = record { within = c.self.invariant.0; kept = c.self.invariant.1; view = c.self.view_is } in
    let g = fields c.undo_one.new.self c.append-in-Aborted.new.self.spare c.remove.new.self.newest i.known i.phase i.spec i.cursor i.position in
    let fewer = fewer_there i.catalog i.loads i.journal.newest f c.args.self.now c.args.actor c.args.txn holds c.requires.inside in
    let counted = ap length c.remove.ensures in
    let room : length c.remove.new.self.newest ≤ c.append-in-Aborted.new.self.spare = omega (arith, c.in_ok-reserve.ensures.room, c.append-in-Aborted.ensures.room, c.room_and.ensures) in
    let beside : Beside f g = record { known = refl; now = refl; spec = refl; cursor = refl; position = refl; room = room } in
    let longer = c.append-in-Aborted.ensures.item ∙ ap (λ l. client_entry c.args.actor request.Undo (reply.Aborted c.in-Aborted.lsn) ∷ l) c.reserve.ensures.items in
    let t = aborted_took i.catalog i.loads i.journal.newest c.append-in-Aborted.new.self.newest f g c.args.self.now c.args.actor c.args.txn c.in-Aborted.lsn holds c.requires.comes c.requires.place c.requires.inside (subst (AnswersUndo i.manager c.undo_one.new.self c.args.txn) c.in-Aborted.is c.in_ok-lsn.ensures.ok) c.remove.ensures beside longer in
    (client_right _ _ c.args.actor request.Undo (reply.Aborted c.in-Aborted.lsn) t.turns, t.turns)

pub invariant_of-self-in_err-lsn : goal.invariant_of-self-in_err-lsn
invariant_of-self-in_err-lsn g c =
    let i = c.self.inside in
    let f = fields i.manager i.journal.spare i.clients.newest i.known i.phase i.spec i.cursor i.position in
    let holds : Holds i.catalog i.loads i.journal.newest f c.args.self.now = record { within = c.self.invariant.0; kept = c.self.invariant.1; view = c.self.view_is } in
    let g = fields c.undo_one.new.self c.reserve.new.self.spare i.clients.newest i.known i.phase i.spec i.cursor i.position in
    let leaves : Leaves f g = record { managed = c.in_err-lsn.ensures.err; clients = refl; room = c.reserve.ensures.no_less; known = refl; now = refl; spec = refl; cursor = refl; position = refl } in
    let h = with_journal i.catalog i.loads i.journal.newest c.reserve.new.self.newest g c.args.self.now c.reserve.ensures.items (stays i.catalog i.loads i.journal.newest f g c.args.self.now holds leaves) in
    (h.within, h.kept)
