use Rattle.sx_model.specs.Replies.{client_reply}
use Rattle.std.proofs.Common.{◌≡◌, ◌≤◌, ◌∷◌, ◌∙◌, length, ap, refl, arith}
use Rattle.sx_journal.specs.declared.entry.Event.TheVariants.{Client}
use Rattle.std.proofs.Common.{None}
use Rattle.sx_values.specs.Catalogs.{schema_of}
use Rattle.sx_model.specs.Known.{known}
use Rattle.sx_model.specs.Closed.{closed}
use Rattle.sx_core.specs.Machines.{Machine}
use Rattle.sx_core.proofs.TurnLemmas.{with_journal, memory_fails, fields, opened, from_view, Holds, Leaves, stays, live_there, ending_there, told_as, client_right}
use Rattle.sx_core.specs.Asked.{asked_for}
use Rattle.sx_core.specs.Refusals.{known_schema, change_refused, write_told}
use Rattle.sx_core.proofs.ReplyLemmas.{change_good}
use Rattle.sx_core.proofs.ClientLemmas.{client_entry, Beside, AsksChange, can_change, write_took}
use Rattle.sx_core.proofs.machine.Core.write_there.Goals as goal

pub write-requires : goal.write-requires
write-requires g c =
    let i = c.self.inside in
    let f = fields i.manager i.journal.spare i.clients.newest i.known i.phase i.spec i.cursor i.position in
    let holds : Holds i.catalog i.loads i.journal.newest f c.args.self.now = record { within = c.self.invariant.0; kept = c.self.invariant.1; view = c.self.view_is } in
    let admitted = from_view (λ (x : Machine). change_refused (known_schema x c.args.table) (closed x.past c.args.actor c.args.table) c.args.change ≡ None) _ i.journal.newest c.args.self.now c.self.view_is c.requires.admitted in
    let good = change_good (schema_of (known (opened i.catalog i.loads i.manager.log) i.journal.newest) c.args.table) (closed i.journal.newest c.args.actor c.args.table) c.args.change admitted in
    record {
      live = live_there i.catalog i.loads i.journal.newest f c.args.self.now c.args.actor c.args.txn holds c.requires.inside.inside;
      resting = ending_there i.catalog i.loads i.journal.newest f c.args.self.now c.args.actor c.args.txn holds c.requires.inside.inside ∙ c.requires.inside.resting;
      change = can_change (opened i.catalog i.loads i.manager.log) i.journal.newest i.manager c.args.actor c.args.table c.args.change holds.kept.manager_meets good;
    }

pub invariant_of-self-in_err-answer : goal.invariant_of-self-in_err-answer
invariant_of-self-in_err-answer g c =
    let i = c.self.inside in
    let f = fields i.manager i.journal.spare i.clients.newest i.known i.phase i.spec i.cursor i.position in
    let holds : Holds i.catalog i.loads i.journal.newest f c.args.self.now = record { within = c.self.invariant.0; kept = c.self.invariant.1; view = c.self.view_is } in
    let g = fields c.write.new.self c.reserve.new.self.spare i.clients.newest i.known i.phase i.spec i.cursor i.position in
    let leaves : Leaves f g = record { managed = c.in_err-answer.ensures.err; clients = refl; room = c.reserve.ensures.no_less; known = refl; now = refl; spec = refl; cursor = refl; position = refl } in
    let h = with_journal i.catalog i.loads i.journal.newest c.reserve.new.self.newest g c.args.self.now c.reserve.ensures.items (stays i.catalog i.loads i.journal.newest f g c.args.self.now holds leaves) in
    (h.within, h.kept)

pub returns-in_err-answer : goal.returns-in_err-answer
returns-in_err-answer g c =
    let i = c.self.inside in
    let f = fields i.manager i.journal.spare i.clients.newest i.known i.phase i.spec i.cursor i.position in
    let holds : Holds i.catalog i.loads i.journal.newest f c.args.self.now = record { within = c.self.invariant.0; kept = c.self.invariant.1; view = c.self.view_is } in
    let g = fields c.write.new.self c.reserve.new.self.spare i.clients.newest i.known i.phase i.spec i.cursor i.position in
    let leaves : Leaves f g = record { managed = c.in_err-answer.ensures.err; clients = refl; room = c.reserve.ensures.no_less; known = refl; now = refl; spec = refl; cursor = refl; position = refl } in
    let h = with_journal i.catalog i.loads i.journal.newest c.reserve.new.self.newest g c.args.self.now c.reserve.ensures.items (stays i.catalog i.loads i.journal.newest f g c.args.self.now holds leaves) in
    let m = c.args.self.now in
    memory_fails (λ reply. reply ≡ client_reply m.opening m.past c.args.actor (asked_for c.args.table c.args.change)) m _ c.args.actor (Client (asked_for c.args.table c.args.change)) c.from_residual-in_err-answer.result c.from_residual-in_err-answer.ensures.1 h.view

pub invariant_of-self-2 : goal.invariant_of-self-2
invariant_of-self-2 g c =
    let i = c.self.inside in
    let f = fields i.manager i.journal.spare i.clients.newest i.known i.phase i.spec i.cursor i.position in
    let holds : Holds i.catalog i.loads i.journal.newest f c.args.self.now = record { within = c.self.invariant.0; kept = c.self.invariant.1; view = c.self.view_is } in
    let admitted = from_view (λ (x : Machine). change_refused (known_schema x c.args.table) (closed x.past c.args.actor c.args.table) c.args.change ≡ None) _ i.journal.newest c.args.self.now c.self.view_is c.requires.admitted in
    let good = change_good (schema_of (known (opened i.catalog i.loads i.manager.log) i.journal.newest) c.args.table) (closed i.journal.newest c.args.actor c.args.table) c.args.change admitted in
    let g = fields c.write.new.self c.append.new.self.spare i.clients.newest i.known i.phase i.spec i.cursor i.position in
    let asks : AsksChange i.catalog i.loads i.journal.newest f c.args.self.now c.args.actor c.args.txn c.args.table c.args.change =
    record { holds = holds; comes = c.requires.comes; place = c.requires.place; in_txn = c.requires.inside; good = good } in
    let room : length i.clients.newest ≤ c.append.new.self.spare = omega (arith, c.in_ok-reserve.ensures.room, c.append.ensures.room, c.room_and.ensures) in
    let beside : Beside f g = record { known = refl; now = refl; spec = refl; cursor = refl; position = refl; room = room } in
    let longer = c.append.ensures.item ∙ ap (λ q. client_entry c.args.actor q c.write_told.result ∷ c.reserve.new.self.newest) (c.asked_for.ensures ∙ ap (asked_for c.args.table) c.in_ok-asked.ensures)
    ∙ ap (λ r. client_entry c.args.actor (asked_for c.args.table c.args.change) r ∷ c.reserve.new.self.newest) c.write_told.ensures
    ∙ ap (λ l. client_entry c.args.actor (asked_for c.args.table c.args.change) (write_told c.in_ok-answer.answer) ∷ l) c.reserve.ensures.items in
    let t = write_took i.catalog i.loads i.journal.newest c.append.new.self.newest f g c.args.self.now c.args.actor c.args.txn c.args.table c.args.change c.in_ok-answer.answer asks c.in_ok-answer.ensures.ok refl beside longer in
    (t.within, t.kept)

pub returns : goal.returns
returns g c =
    let i = c.self.inside in
    let f = fields i.manager i.journal.spare i.clients.newest i.known i.phase i.spec i.cursor i.position in
    let holds : Holds i.catalog i.loads i.journal.newest f c.args.self.now = record { within = c.self.invariant.0; kept = c.self.invariant.1; view = c.self.view_is } in
    let admitted = from_view (λ (x : Machine). change_refused (known_schema x c.args.table) (closed x.past c.args.actor c.args.table) c.args.change ≡ None) _ i.journal.newest c.args.self.now c.self.view_is c.requires.admitted in
    let good = change_good (schema_of (known (opened i.catalog i.loads i.manager.log) i.journal.newest) c.args.table) (closed i.journal.newest c.args.actor c.args.table) c.args.change admitted in
    let g = fields c.write.new.self c.append.new.self.spare i.clients.newest i.known i.phase i.spec i.cursor i.position in
    let asks : AsksChange i.catalog i.loads i.journal.newest f c.args.self.now c.args.actor c.args.txn c.args.table c.args.change =
    record { holds = holds; comes = c.requires.comes; place = c.requires.place; in_txn = c.requires.inside; good = good } in
    let room : length i.clients.newest ≤ c.append.new.self.spare = omega (arith, c.in_ok-reserve.ensures.room, c.append.ensures.room, c.room_and.ensures) in
    let beside : Beside f g = record { known = refl; now = refl; spec = refl; cursor = refl; position = refl; room = room } in
    let longer = c.append.ensures.item ∙ ap (λ q. client_entry c.args.actor q c.write_told.result ∷ c.reserve.new.self.newest) (c.asked_for.ensures ∙ ap (asked_for c.args.table) c.in_ok-asked.ensures)
    ∙ ap (λ r. client_entry c.args.actor (asked_for c.args.table c.args.change) r ∷ c.reserve.new.self.newest) c.write_told.ensures
    ∙ ap (λ l. client_entry c.args.actor (asked_for c.args.table c.args.change) (write_told c.in_ok-answer.answer) ∷ l) c.reserve.ensures.items in
    let t = write_took i.catalog i.loads i.journal.newest c.append.new.self.newest f g c.args.self.now c.args.actor c.args.txn c.args.table c.args.change c.in_ok-answer.answer asks c.in_ok-answer.ensures.ok refl beside longer in
    let told = told_as i.catalog i.loads c.append.new.self.newest g c.args.self.now c.args.actor (Client (asked_for c.args.table c.args.change)) (write_told c.in_ok-answer.answer) c.write_told-2.result c.write_told-2.ensures t in
    (client_right _ _ c.args.actor (asked_for c.args.table c.args.change) c.write_told-2.result told.turns, told.turns)
