use Rattle.sx_model.specs.Replies.{client_reply}
use Rattle.std.proofs.Common.{◌≡◌, ◌≤◌, ◌∷◌, ◌∙◌, length, ap, refl, arith}
use Rattle.sx_journal.specs.declared.entry.Event.TheVariants.{Client}
use Rattle.sx_journal.specs.declared.entry.Request.TheVariants as request
use Rattle.std.proofs.Common.{None}
use Rattle.sx_values.specs.Catalogs.{schema_of}
use Rattle.sx_values.specs.Layouts.{key_fault}
use Rattle.sx_model.specs.Known.{known}
use Rattle.sx_model.specs.Closed.{closed}
use Rattle.sx_core.specs.Machines.{Machine}
use Rattle.sx_core.proofs.TurnLemmas.{with_journal, memory_fails, fields, opened, from_view, Holds, Leaves, stays, live_there, ending_there, told_as, client_right}
use Rattle.sx_core.specs.Refusals.{known_schema, key_refused, read_told}
use Rattle.sx_core.proofs.ReplyLemmas.{key_good}
use Rattle.sx_core.proofs.ClientLemmas.{client_entry, Beside, AsksKey, table_is_there, read_took}
use Rattle.sx_core.proofs.machine.Core.read_there.Goals as goal

pub read_twice-requires : goal.read_twice-requires
read_twice-requires g c =
    let i = c.self.inside in
    let f = fields i.manager i.journal.spare i.clients.newest i.known i.phase i.spec i.cursor i.position in
    let holds : Holds i.catalog i.loads i.journal.newest f c.args.self.now = record { within = c.self.invariant.0; kept = c.self.invariant.1; view = c.self.view_is } in
    let admitted = from_view (λ (x : Machine). key_refused (known_schema x c.args.table) (closed x.past c.args.actor c.args.table) c.args.key ≡ None) _ i.journal.newest c.args.self.now c.self.view_is c.requires.admitted in
    let good = key_good (schema_of (known (opened i.catalog i.loads i.manager.log) i.journal.newest) c.args.table) (closed i.journal.newest c.args.actor c.args.table) c.args.key admitted in
    record {
      live = live_there i.catalog i.loads i.journal.newest f c.args.self.now c.args.actor c.args.txn holds c.requires.inside.inside;
      resting = ending_there i.catalog i.loads i.journal.newest f c.args.self.now c.args.actor c.args.txn holds c.requires.inside.inside ∙ c.requires.inside.resting;
      there = table_is_there (opened i.catalog i.loads i.manager.log) i.journal.newest i.manager c.args.actor c.args.table (λ schema. key_fault schema c.args.key) holds.kept.manager_meets good;
    }

pub invariant_of-self-in_err-read : goal.invariant_of-self-in_err-read
invariant_of-self-in_err-read g c =
    let i = c.self.inside in
    let f = fields i.manager i.journal.spare i.clients.newest i.known i.phase i.spec i.cursor i.position in
    let holds : Holds i.catalog i.loads i.journal.newest f c.args.self.now = record { within = c.self.invariant.0; kept = c.self.invariant.1; view = c.self.view_is } in
    let g = fields c.read_twice.new.self c.reserve.new.self.spare i.clients.newest i.known i.phase i.spec i.cursor i.position in
    let leaves : Leaves f g = record { managed = c.in_err-read.ensures.err; clients = refl; room = c.reserve.ensures.no_less; known = refl; now = refl; spec = refl; cursor = refl; position = refl } in
    let h = with_journal i.catalog i.loads i.journal.newest c.reserve.new.self.newest g c.args.self.now c.reserve.ensures.items (stays i.catalog i.loads i.journal.newest f g c.args.self.now holds leaves) in
    (h.within, h.kept)

pub returns-in_err-read : goal.returns-in_err-read
returns-in_err-read g c =
    let i = c.self.inside in
    let f = fields i.manager i.journal.spare i.clients.newest i.known i.phase i.spec i.cursor i.position in
    let holds : Holds i.catalog i.loads i.journal.newest f c.args.self.now = record { within = c.self.invariant.0; kept = c.self.invariant.1; view = c.self.view_is } in
    let g = fields c.read_twice.new.self c.reserve.new.self.spare i.clients.newest i.known i.phase i.spec i.cursor i.position in
    let leaves : Leaves f g = record { managed = c.in_err-read.ensures.err; clients = refl; room = c.reserve.ensures.no_less; known = refl; now = refl; spec = refl; cursor = refl; position = refl } in
    let h = with_journal i.catalog i.loads i.journal.newest c.reserve.new.self.newest g c.args.self.now c.reserve.ensures.items (stays i.catalog i.loads i.journal.newest f g c.args.self.now holds leaves) in
    let m = c.args.self.now in
    memory_fails (λ reply. reply ≡ client_reply m.opening m.past c.args.actor (request.Read c.args.table c.args.key)) m _ c.args.actor (Client (request.Read c.args.table c.args.key)) c.from_residual-in_err-read.result c.from_residual-in_err-read.ensures.1 h.view

pub invariant_of-self-2 : goal.invariant_of-self-2
invariant_of-self-2 g c =
    let i = c.self.inside in
    let f = fields i.manager i.journal.spare i.clients.newest i.known i.phase i.spec i.cursor i.position in
    let holds : Holds i.catalog i.loads i.journal.newest f c.args.self.now = record { within = c.self.invariant.0; kept = c.self.invariant.1; view = c.self.view_is } in
    let admitted = from_view (λ (x : Machine). key_refused (known_schema x c.args.table) (closed x.past c.args.actor c.args.table) c.args.key ≡ None) _ i.journal.newest c.args.self.now c.self.view_is c.requires.admitted in
    let good = key_good (schema_of (known (opened i.catalog i.loads i.manager.log) i.journal.newest) c.args.table) (closed i.journal.newest c.args.actor c.args.table) c.args.key admitted in
    let g = fields c.read_twice.new.self c.append.new.self.spare i.clients.newest i.known i.phase i.spec i.cursor i.position in
    let asks : AsksKey i.catalog i.loads i.journal.newest f c.args.self.now c.args.actor c.args.txn c.args.table c.args.key =
    record { holds = holds; comes = c.requires.comes; place = c.requires.place; in_txn = c.requires.inside; good = good } in
    let room : length i.clients.newest ≤ c.append.new.self.spare = omega (arith, c.in_ok-reserve.ensures.room, c.append.ensures.room, c.room_and.ensures) in
    let beside : Beside f g = record { known = refl; now = refl; spec = refl; cursor = refl; position = refl; room = room } in
    let longer = c.append.ensures.item ∙ ap (λ r. client_entry c.args.actor (request.Read c.args.table c.args.key) r ∷ c.reserve.new.self.newest) c.read_told.ensures
    ∙ ap (λ l. client_entry c.args.actor (request.Read c.args.table c.args.key) (read_told c.in_ok-read.read) ∷ l) c.reserve.ensures.items in
    let t = read_took i.catalog i.loads i.journal.newest c.append.new.self.newest f g c.args.self.now c.args.actor c.args.txn c.args.table c.args.key c.in_ok-read.read asks c.in_ok-read.ensures.ok refl beside longer in
    (t.within, t.kept)

pub returns : goal.returns
returns g c =
    let i = c.self.inside in
    let f = fields i.manager i.journal.spare i.clients.newest i.known i.phase i.spec i.cursor i.position in
    let holds : Holds i.catalog i.loads i.journal.newest f c.args.self.now = record { within = c.self.invariant.0; kept = c.self.invariant.1; view = c.self.view_is } in
    let admitted = from_view (λ (x : Machine). key_refused (known_schema x c.args.table) (closed x.past c.args.actor c.args.table) c.args.key ≡ None) _ i.journal.newest c.args.self.now c.self.view_is c.requires.admitted in
    let good = key_good (schema_of (known (opened i.catalog i.loads i.manager.log) i.journal.newest) c.args.table) (closed i.journal.newest c.args.actor c.args.table) c.args.key admitted in
    let g = fields c.read_twice.new.self c.append.new.self.spare i.clients.newest i.known i.phase i.spec i.cursor i.position in
    let asks : AsksKey i.catalog i.loads i.journal.newest f c.args.self.now c.args.actor c.args.txn c.args.table c.args.key =
    record { holds = holds; comes = c.requires.comes; place = c.requires.place; in_txn = c.requires.inside; good = good } in
    let room : length i.clients.newest ≤ c.append.new.self.spare = omega (arith, c.in_ok-reserve.ensures.room, c.append.ensures.room, c.room_and.ensures) in
    let beside : Beside f g = record { known = refl; now = refl; spec = refl; cursor = refl; position = refl; room = room } in
    let longer = c.append.ensures.item ∙ ap (λ r. client_entry c.args.actor (request.Read c.args.table c.args.key) r ∷ c.reserve.new.self.newest) c.read_told.ensures
    ∙ ap (λ l. client_entry c.args.actor (request.Read c.args.table c.args.key) (read_told c.in_ok-read.read) ∷ l) c.reserve.ensures.items in
    let t = read_took i.catalog i.loads i.journal.newest c.append.new.self.newest f g c.args.self.now c.args.actor c.args.txn c.args.table c.args.key c.in_ok-read.read asks c.in_ok-read.ensures.ok refl beside longer in
    let same = ap read_told c.in_ok-read.ensures.same in
    let told = told_as i.catalog i.loads c.append.new.self.newest g c.args.self.now c.args.actor (Client (request.Read c.args.table c.args.key)) (read_told c.in_ok-read.read) c.read_told-2.result (c.read_told-2.ensures ∙ same) t in
    (client_right _ _ c.args.actor (request.Read c.args.table c.args.key) c.read_told-2.result told.turns, told.turns)
