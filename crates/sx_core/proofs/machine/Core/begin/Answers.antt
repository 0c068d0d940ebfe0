use Rattle.sx_model.specs.Replies.{client_reply}
use Rattle.std.proofs.Common.{◌≡◌, ◌≤◌, ◌∷◌, ◌∙◌, length, ap, refl, arith}
use Rattle.sx_journal.specs.declared.entry.Event.TheVariants.{Client}
use Rattle.sx_journal.specs.declared.entry.Request.TheVariants as request
use Rattle.sx_journal.specs.declared.entry.Reply.TheVariants.{Begun}
use Rattle.sx_core.proofs.TurnLemmas.{with_journal, memory_fails, fields, Holds, Leaves, stays, client_right}
use Rattle.sx_core.proofs.ClientLemmas.{client_entry, Beside, begun_took}
use Rattle.sx_core.proofs.machine.Core.begin.Goals as goal

pub invariant_of-self-in_err-txn : goal.invariant_of-self-in_err-txn
invariant_of-self-in_err-txn c =
    let i = c.self.inside in
    let f = fields i.manager i.journal.spare i.clients.newest i.known i.phase i.spec i.cursor i.position in
    let holds : Holds i.catalog i.loads i.journal.newest f c.args.self.now = record { within = c.self.invariant.0; kept = c.self.invariant.1; view = c.self.view_is } in
    let g = fields c.begin.new.self c.reserve.new.self.spare c.reserve-2.new.self.newest i.known i.phase i.spec i.cursor i.position in
    let leaves : Leaves f g = record { managed = c.in_err-txn.ensures.err; clients = c.reserve-2.ensures.same; room = c.reserve.ensures.no_less; known = refl; now = refl; spec = refl; cursor = refl; position = refl } in
    let h = with_journal i.catalog i.loads i.journal.newest c.reserve.new.self.newest g c.args.self.now c.reserve.ensures.items (stays i.catalog i.loads i.journal.newest f g c.args.self.now holds leaves) in
    (h.within, h.kept)

pub returns-in_err-txn : goal.returns-in_err-txn
returns-in_err-txn c =
    let i = c.self.inside in
    let f = fields i.manager i.journal.spare i.clients.newest i.known i.phase i.spec i.cursor i.position in
    let holds : Holds i.catalog i.loads i.journal.newest f c.args.self.now = record { within = c.self.invariant.0; kept = c.self.invariant.1; view = c.self.view_is } in
    let g = fields c.begin.new.self c.reserve.new.self.spare c.reserve-2.new.self.newest i.known i.phase i.spec i.cursor i.position in
    let leaves : Leaves f g = record { managed = c.in_err-txn.ensures.err; clients = c.reserve-2.ensures.same; room = c.reserve.ensures.no_less; known = refl; now = refl; spec = refl; cursor = refl; position = refl } in
    let h = with_journal i.catalog i.loads i.journal.newest c.reserve.new.self.newest g c.args.self.now c.reserve.ensures.items (stays i.catalog i.loads i.journal.newest f g c.args.self.now holds leaves) in
    let m = c.args.self.now in
    memory_fails (λ reply. reply ≡ client_reply m.opening m.past c.args.actor request.Begin) m _ c.args.actor (Client request.Begin) c.from_residual-in_err-txn.result c.from_residual-in_err-txn.ensures.1 h.view

pub invariant_of-self-2 : goal.invariant_of-self-2
invariant_of-self-2 c =
    let i = c.self.inside in
    let f = fields i.manager i.journal.spare i.clients.newest i.known i.phase i.spec i.cursor i.position in
    let holds : Holds i.catalog i.loads i.journal.newest f c.args.self.now = record { within = c.self.invariant.0; kept = c.self.invariant.1; view = c.self.view_is } in
    let g = fields c.begin.new.self c.append.new.self.spare c.add.new.self.newest i.known i.phase i.spec i.cursor i.position in
    let clients = c.add.ensures ∙ ap (λ l. record { client = c.args.actor; txn = c.in_ok-txn.txn } ∷ l) c.reserve-2.ensures.same in
    let counted = ap length clients in
    let room : length c.add.new.self.newest ≤ c.append.new.self.spare = omega (arith, c.in_ok-reserve.ensures.room, c.append.ensures.room, c.room_and.ensures) in
    let beside : Beside f g = record { known = refl; now = refl; spec = refl; cursor = refl; position = refl; room = room } in
    let longer = c.append.ensures.item ∙ ap (λ l. client_entry c.args.actor request.Begin (Begun c.in_ok-txn.txn) ∷ l) c.reserve.ensures.items in
    let t = begun_took i.catalog i.loads i.journal.newest c.append.new.self.newest f g c.args.self.now c.args.actor c.in_ok-txn.txn holds c.requires.comes c.requires.place c.requires.outside c.in_ok-txn.ensures.ok clients beside longer in
    (t.within, t.kept)

pub returns : goal.returns
returns c =
    let i = c.self.inside in
    let f = fields i.manager i.journal.spare i.clients.newest i.known i.phase i.spec i.cursor i.position in
    let holds : Holds i.catalog i.loads i.journal.newest f c.args.self.now = record { within = c.self.invariant.0; kept = c.self.invariant.1; view = c.self.view_is } in
    let g = fields c.begin.new.self c.append.new.self.spare c.add.new.self.newest i.known i.phase i.spec i.cursor i.position in
    let clients = c.add.ensures ∙ ap (λ l. record { client = c.args.actor; txn = c.in_ok-txn.txn } ∷ l) c.reserve-2.ensures.same in
    let counted = ap length clients in
    let room : length c.add.new.self.newest ≤ c.append.new.self.spare = omega (arith, c.in_ok-reserve.ensures.room, c.append.ensures.room, c.room_and.ensures) in
    let beside : Beside f g = record { known = refl; now = refl; spec = refl; cursor = refl; position = refl; room = room } in
    let longer = c.append.ensures.item ∙ ap (λ l. client_entry c.args.actor request.Begin (Begun c.in_ok-txn.txn) ∷ l) c.reserve.ensures.items in
    let t = begun_took i.catalog i.loads i.journal.newest c.append.new.self.newest f g c.args.self.now c.args.actor c.in_ok-txn.txn holds c.requires.comes c.requires.place c.requires.outside c.in_ok-txn.ensures.ok clients beside longer in
    (client_right _ _ c.args.actor request.Begin (Begun c.in_ok-txn.txn) t.turns, t.turns)
