use Rattle.std.proofs.Common.{◌≤◌, ◌∷◌, ◌∙◌, length, ap, refl, arith}
use Rattle.sx_journal.specs.declared.entry.Event.TheVariants.{Switch}
use Rattle.sx_journal.specs.declared.entry.Reply.TheVariants as reply
use Rattle.sx_sync.specs.declared.Phase.TheVariants.{Draining}
use Rattle.sx_core.proofs.TurnLemmas.{fields, Holds, unchanged}
use Rattle.sx_core.proofs.FetchLemmas.{own_entry}
use Rattle.sx_core.proofs.AttemptLemmas.{not_failed, Aside, drained_took, attempted}
use Rattle.sx_core.proofs.machine.Core.drain.Goals as goal

pub invariant_of-self-2 : goal.invariant_of-self-2
invariant_of-self-2 c =
    let i = c.self.inside in
    let f = fields i.manager i.journal.spare i.clients.newest i.known i.phase i.spec i.cursor i.position in
    let holds : Holds i.catalog i.loads i.journal.newest f c.args.self.now = record { within = c.self.invariant.0; kept = c.self.invariant.1; view = c.self.view_is } in
    let g = fields i.manager c.append.new.self.spare i.clients.newest i.known Draining i.spec i.cursor i.position in
    let room : length i.clients.newest ≤ c.append.new.self.spare = (let reserved = not_failed c.reserve.result c.is_err.result _ c.is_err.ensures.value c.if-is_err.false c.reserve.ensures.room in omega (arith, c.append.ensures.room, c.room_and.ensures)) in
    let beside : Aside f g = record { clients = refl; known = refl; spec = refl; position = refl; room = room } in
    let longer = c.append.ensures.item ∙ ap (λ l. own_entry Switch (reply.Conflict c.args.txn) ∷ l) c.reserve.ensures.items in
    let t = drained_took i.catalog i.loads i.journal.newest c.append.new.self.newest f g c.args.self.now c.args.txn holds c.requires.place c.requires.scanned c.requires.answered (unchanged i.manager) beside refl longer in
    (t.within, t.kept)

pub returns : goal.returns
returns c =
    let i = c.self.inside in
    let f = fields i.manager i.journal.spare i.clients.newest i.known i.phase i.spec i.cursor i.position in
    let holds : Holds i.catalog i.loads i.journal.newest f c.args.self.now = record { within = c.self.invariant.0; kept = c.self.invariant.1; view = c.self.view_is } in
    let g = fields i.manager c.append.new.self.spare i.clients.newest i.known Draining i.spec i.cursor i.position in
    let room : length i.clients.newest ≤ c.append.new.self.spare = (let reserved = not_failed c.reserve.result c.is_err.result _ c.is_err.ensures.value c.if-is_err.false c.reserve.ensures.room in omega (arith, c.append.ensures.room, c.room_and.ensures)) in
    let beside : Aside f g = record { clients = refl; known = refl; spec = refl; position = refl; room = room } in
    let longer = c.append.ensures.item ∙ ap (λ l. own_entry Switch (reply.Conflict c.args.txn) ∷ l) c.reserve.ensures.items in
    let t = drained_took i.catalog i.loads i.journal.newest c.append.new.self.newest f g c.args.self.now c.args.txn holds c.requires.place c.requires.scanned c.requires.answered (unchanged i.manager) beside refl longer in
    (attempted c.args.self.now _ (reply.Conflict c.args.txn) t.turns, refl)
