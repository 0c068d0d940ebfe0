use Rattle.std.proofs.Common.{◌≤◌, ◌∷◌, ◌∙◌, length, ap, refl, arith}
use Rattle.sx_journal.specs.declared.entry.Event.TheVariants.{Switch}
use Rattle.sx_core.proofs.TurnLemmas.{fields, Holds, unchanged}
use Rattle.sx_core.proofs.ClientLemmas.{Beside}
use Rattle.sx_core.proofs.FetchLemmas.{own_entry}
use Rattle.sx_core.proofs.AttemptLemmas.{not_failed, attempt_refused, attempted, comes_back}
use Rattle.sx_core.proofs.machine.Core.refuse_switch.Goals as goal

pub invariant_of-self-2 : goal.invariant_of-self-2
invariant_of-self-2 c =
    let i = c.self.inside in
    let f = fields i.manager i.journal.spare i.clients.newest i.known i.phase i.spec i.cursor i.position in
    let holds : Holds i.catalog i.loads i.journal.newest f c.args.self.now = record { within = c.self.invariant.0; kept = c.self.invariant.1; view = c.self.view_is } in
    let g = fields i.manager c.append.new.self.spare i.clients.newest i.known i.phase i.spec i.cursor i.position in
    let room : length i.clients.newest ≤ c.append.new.self.spare = (let reserved = not_failed c.reserve.result c.is_err.result _ c.is_err.ensures.value c.if-is_err.false c.reserve.ensures.room in omega (arith, c.append.ensures.room, c.room_and.ensures)) in
    let beside : Beside f g = record { known = refl; now = refl; spec = refl; cursor = refl; position = refl; room = room } in
    let longer = c.append.ensures.item ∙ ap (λ l. own_entry Switch c.args.reply ∷ l) c.reserve.ensures.items in
    let t = attempt_refused i.catalog i.loads i.journal.newest c.append.new.self.newest f g c.args.self.now c.args.reply holds c.requires.place c.requires.answered c.requires.quiet (unchanged i.manager) refl beside longer in
    (t.within, t.kept)

pub returns : goal.returns
returns c =
    let i = c.self.inside in
    let f = fields i.manager i.journal.spare i.clients.newest i.known i.phase i.spec i.cursor i.position in
    let holds : Holds i.catalog i.loads i.journal.newest f c.args.self.now = record { within = c.self.invariant.0; kept = c.self.invariant.1; view = c.self.view_is } in
    let g = fields i.manager c.append.new.self.spare i.clients.newest i.known i.phase i.spec i.cursor i.position in
    let room : length i.clients.newest ≤ c.append.new.self.spare = (let reserved = not_failed c.reserve.result c.is_err.result _ c.is_err.ensures.value c.if-is_err.false c.reserve.ensures.room in omega (arith, c.append.ensures.room, c.room_and.ensures)) in
    let beside : Beside f g = record { known = refl; now = refl; spec = refl; cursor = refl; position = refl; room = room } in
    let longer = c.append.ensures.item ∙ ap (λ l. own_entry Switch c.args.reply ∷ l) c.reserve.ensures.items in
    let t = attempt_refused i.catalog i.loads i.journal.newest c.append.new.self.newest f g c.args.self.now c.args.reply holds c.requires.place c.requires.answered c.requires.quiet (unchanged i.manager) refl beside longer in
    comes_back c.args.self.now _ c.args.image c.args.cause c.args.reply c.requires.cause (attempted c.args.self.now _ c.args.reply t.turns)
