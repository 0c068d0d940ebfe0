use Rattle.std.proofs.Common.{◌≤◌, ◌∷◌, ◌∙◌, length, ap, refl, arith}
use Rattle.sx_journal.specs.declared.entry.Event.TheVariants.{Fetch}
use Rattle.sx_model.specs.Effects.{effect}
use Rattle.sx_core.proofs.TurnLemmas.{fields, unchanged, Holds, told_as, fetch_right}
use Rattle.sx_core.proofs.ClientLemmas.{Beside}
use Rattle.sx_core.proofs.FetchLemmas.{own_entry, fetch_refused, none_fetched}
use Rattle.sx_core.proofs.machine.Core.refuse_fetch.Goals as goal

pub invariant_of-self-2 : goal.invariant_of-self-2
invariant_of-self-2 c =
    let i = c.self.inside in
    let f = fields i.manager i.journal.spare i.clients.newest i.known i.phase i.spec i.cursor i.position in
    let g = fields i.manager c.append.new.self.spare i.clients.newest i.known i.phase i.spec i.cursor i.position in
    let holds : Holds i.catalog i.loads i.journal.newest f c.args.self.now = record { within = c.self.invariant.0; kept = c.self.invariant.1; view = c.self.view_is } in
    let room : length i.clients.newest ≤ c.append.new.self.spare = omega (arith, c.in_ok-reserve.ensures.room, c.append.ensures.room, c.room_and.ensures) in
    let beside : Beside f g = record { known = refl; now = refl; spec = refl; cursor = refl; position = refl; room = room } in
    let longer = c.append.ensures.item ∙ ap (λ l. own_entry (Fetch c.args.n) c.args.reply ∷ l) c.reserve.ensures.items in
    let t = fetch_refused i.catalog i.loads i.journal.newest c.append.new.self.newest f g c.args.self.now c.args.n c.args.reply holds c.requires.asks c.requires.answered c.requires.quiet (unchanged i.manager) refl beside longer in
    (t.within, t.kept)

pub returns : goal.returns
returns c =
    let i = c.self.inside in
    let f = fields i.manager i.journal.spare i.clients.newest i.known i.phase i.spec i.cursor i.position in
    let g = fields i.manager c.append.new.self.spare i.clients.newest i.known i.phase i.spec i.cursor i.position in
    let holds : Holds i.catalog i.loads i.journal.newest f c.args.self.now = record { within = c.self.invariant.0; kept = c.self.invariant.1; view = c.self.view_is } in
    let room : length i.clients.newest ≤ c.append.new.self.spare = omega (arith, c.in_ok-reserve.ensures.room, c.append.ensures.room, c.room_and.ensures) in
    let beside : Beside f g = record { known = refl; now = refl; spec = refl; cursor = refl; position = refl; room = room } in
    let longer = c.append.ensures.item ∙ ap (λ l. own_entry (Fetch c.args.n) c.args.reply ∷ l) c.reserve.ensures.items in
    let t = fetch_refused i.catalog i.loads i.journal.newest c.append.new.self.newest f g c.args.self.now c.args.n c.args.reply holds c.requires.asks c.requires.answered c.requires.quiet (unchanged i.manager) refl beside longer in
    let told = told_as i.catalog i.loads c.append.new.self.newest g c.args.self.now 0 (Fetch c.args.n) c.args.reply c.in_ok-answer.answer c.in_ok-answer.ensures t in
    record {
      right = fetch_right _ _ c.args.n c.in_ok-answer.answer told.turns;
      turns = told.turns;
      recs = none_fetched c.args.self.now c.in_ok-answer.answer c.new.result (ap effect c.in_ok-answer.ensures ∙ c.requires.quiet) c.new.ensures;
    }
