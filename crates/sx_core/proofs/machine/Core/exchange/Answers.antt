use Rattle.std.proofs.Common.{◌≤◌, ◌∷◌, ◌∙◌, length, ap, refl, arith}
use Rattle.sx_journal.specs.declared.entry.Event.TheVariants.{Switch}
use Rattle.sx_journal.specs.declared.entry.Reply.TheVariants as reply
use Rattle.sx_sync.specs.declared.Phase.TheVariants.{Done}
use Rattle.sx_core.proofs.TurnLemmas.{fields, Holds, Leaves, stays, with_journal}
use Rattle.sx_core.proofs.FetchLemmas.{own_entry}
use Rattle.sx_core.proofs.AttemptLemmas.{not_failed, Aside, attempted}
use Rattle.sx_core.proofs.SwitchedLemmas.{Attempted, can_follow, names_apart, switched_took}
use Rattle.sx_core.proofs.machine.Core.exchange.Goals as goal

pub invariant_of-self-then-is_err-2 : goal.invariant_of-self-then-is_err-2
invariant_of-self-then-is_err-2 c =
    let i = c.self.inside in
    let f = fields i.manager i.journal.spare i.clients.newest i.known i.phase i.spec i.cursor i.position in
    let holds : Holds i.catalog i.loads i.journal.newest f c.args.self.now = record { within = c.self.invariant.0; kept = c.self.invariant.1; view = c.self.view_is } in
    let g = fields c.room.new.self c.reserve.new.self.spare i.clients.newest i.known i.phase i.spec i.cursor i.position in
    let leaves : Leaves f g = record { managed = c.room.ensures.same; clients = refl; room = c.reserve.ensures.no_less; known = refl; now = refl; spec = refl; cursor = refl; position = refl } in
    let h = with_journal i.catalog i.loads i.journal.newest c.reserve.new.self.newest g c.args.self.now c.reserve.ensures.items (stays i.catalog i.loads i.journal.newest f g c.args.self.now holds leaves) in
    (h.within, h.kept)

pub fresh_tables-requires : goal.fresh_tables-requires
fresh_tables-requires c =
    let i = c.self.inside in
    let f = fields i.manager i.journal.spare i.clients.newest i.known i.phase i.spec i.cursor i.position in
    let holds : Holds i.catalog i.loads i.journal.newest f c.args.self.now = record { within = c.self.invariant.0; kept = c.self.invariant.1; view = c.self.view_is } in
    let a : Attempted i.catalog i.loads i.journal.newest f c.args.self.now c.room.new.self c.args.image c.tables-tables.result.now = record {
      holds = holds;
      place = c.requires.place;
      scanned = c.requires.scanned;
      stands = c.requires.stands;
      answered = c.requires.answered;
      stays = c.room.ensures.same;
      meets = c.tables-tables.ensures.meets;
      lends = c.tables-tables.ensures.now;
      apart = c.len-count.ensures.apart;
      relation = c.source_len-rows.ensures.relation;
    } in
    record { next = can_follow i.catalog i.loads i.journal.newest f c.args.self.now c.room.new.self c.args.image c.tables-tables.result.now c.log.result.now.newest a c.log.ensures.log }

pub put_new-requires-clause-apart : goal.put_new-requires-clause-apart
put_new-requires-clause-apart c =
    let i = c.self.inside in
    let f = fields i.manager i.journal.spare i.clients.newest i.known i.phase i.spec i.cursor i.position in
    let holds : Holds i.catalog i.loads i.journal.newest f c.args.self.now = record { within = c.self.invariant.0; kept = c.self.invariant.1; view = c.self.view_is } in
    let a : Attempted i.catalog i.loads i.journal.newest f c.args.self.now c.room.new.self c.args.image c.tables-tables.result.now = record {
      holds = holds;
      place = c.requires.place;
      scanned = c.requires.scanned;
      stands = c.requires.stands;
      answered = c.requires.answered;
      stays = c.room.ensures.same;
      meets = c.tables-tables.ensures.meets;
      lends = c.tables-tables.ensures.now;
      apart = c.len-count.ensures.apart;
      relation = c.source_len-rows.ensures.relation;
    } in
    names_apart i.catalog i.loads i.journal.newest f c.args.self.now c.room.new.self c.args.image c.tables-tables.result.now c.in-Ok.tables c.log.result.now.newest a c.log.ensures.log c.in-Ok.ensures

pub invariant_of-self-in-Ok : goal.invariant_of-self-in-Ok
invariant_of-self-in-Ok c =
    let i = c.self.inside in
    let f = fields i.manager i.journal.spare i.clients.newest i.known i.phase i.spec i.cursor i.position in
    let holds : Holds i.catalog i.loads i.journal.newest f c.args.self.now = record { within = c.self.invariant.0; kept = c.self.invariant.1; view = c.self.view_is } in
    let a : Attempted i.catalog i.loads i.journal.newest f c.args.self.now c.room.new.self c.args.image c.tables-tables.result.now = record {
      holds = holds;
      place = c.requires.place;
      scanned = c.requires.scanned;
      stands = c.requires.stands;
      answered = c.requires.answered;
      stays = c.room.ensures.same;
      meets = c.tables-tables.ensures.meets;
      lends = c.tables-tables.ensures.now;
      apart = c.len-count.ensures.apart;
      relation = c.source_len-rows.ensures.relation;
    } in
    let g = fields c.note-lsn.new.self c.append.new.self.spare i.clients.newest i.known Done i.spec i.cursor i.position in
    let room : length i.clients.newest ≤ c.append.new.self.spare = (let reserved = not_failed c.reserve.result c.is_err.result _ c.is_err.ensures.value c.if-is_err.false c.reserve.ensures.room in omega (arith, c.append.ensures.room, c.room_and.ensures)) in
    let aside : Aside f g = record { clients = refl; known = refl; spec = refl; position = refl; room = room } in
    let longer = c.append.ensures.item ∙ ap (λ l. own_entry Switch (reply.Switched c.note-lsn.result) ∷ l) c.reserve.ensures.items in
    let t = switched_took i.catalog i.loads i.journal.newest c.append.new.self.newest f g c.args.self.now c.room.new.self c.put_new.new.self c.args.image c.tables-tables.result.now c.in-Ok.tables c.log.result.now.newest c.note-lsn.result
    a c.log.ensures.log c.in-Ok.ensures c.put_new.ensures.tables c.put_new.ensures.others c.note-lsn.ensures aside refl longer in
    (t.within, t.kept)

pub invariant_of-self-in-Err : goal.invariant_of-self-in-Err
invariant_of-self-in-Err c =
    let i = c.self.inside in
    let f = fields i.manager i.journal.spare i.clients.newest i.known i.phase i.spec i.cursor i.position in
    let holds : Holds i.catalog i.loads i.journal.newest f c.args.self.now = record { within = c.self.invariant.0; kept = c.self.invariant.1; view = c.self.view_is } in
    let g = fields c.room.new.self c.reserve.new.self.spare i.clients.newest i.known i.phase i.spec i.cursor i.position in
    let leaves : Leaves f g = record { managed = c.room.ensures.same; clients = refl; room = c.reserve.ensures.no_less; known = refl; now = refl; spec = refl; cursor = refl; position = refl } in
    let h = with_journal i.catalog i.loads i.journal.newest c.reserve.new.self.newest g c.args.self.now c.reserve.ensures.items (stays i.catalog i.loads i.journal.newest f g c.args.self.now holds leaves) in
    (h.within, h.kept)

pub returns-in-Ok : goal.returns-in-Ok
returns-in-Ok c =
    let i = c.self.inside in
    let f = fields i.manager i.journal.spare i.clients.newest i.known i.phase i.spec i.cursor i.position in
    let holds : Holds i.catalog i.loads i.journal.newest f c.args.self.now = record { within = c.self.invariant.0; kept = c.self.invariant.1; view = c.self.view_is } in
    let a : Attempted i.catalog i.loads i.journal.newest f c.args.self.now c.room.new.self c.args.image c.tables-tables.result.now = record {
      holds = holds;
      place = c.requires.place;
      scanned = c.requires.scanned;
      stands = c.requires.stands;
      answered = c.requires.answered;
      stays = c.room.ensures.same;
      meets = c.tables-tables.ensures.meets;
      lends = c.tables-tables.ensures.now;
      apart = c.len-count.ensures.apart;
      relation = c.source_len-rows.ensures.relation;
    } in
    let g = fields c.note-lsn.new.self c.append.new.self.spare i.clients.newest i.known Done i.spec i.cursor i.position in
    let room : length i.clients.newest ≤ c.append.new.self.spare = (let reserved = not_failed c.reserve.result c.is_err.result _ c.is_err.ensures.value c.if-is_err.false c.reserve.ensures.room in omega (arith, c.append.ensures.room, c.room_and.ensures)) in
    let aside : Aside f g = record { clients = refl; known = refl; spec = refl; position = refl; room = room } in
    let longer = c.append.ensures.item ∙ ap (λ l. own_entry Switch (reply.Switched c.note-lsn.result) ∷ l) c.reserve.ensures.items in
    let t = switched_took i.catalog i.loads i.journal.newest c.append.new.self.newest f g c.args.self.now c.room.new.self c.put_new.new.self c.args.image c.tables-tables.result.now c.in-Ok.tables c.log.result.now.newest c.note-lsn.result
    a c.log.ensures.log c.in-Ok.ensures c.put_new.ensures.tables c.put_new.ensures.others c.note-lsn.ensures aside refl longer in
    attempted c.args.self.now _ (reply.Switched c.note-lsn.result) t.turns
