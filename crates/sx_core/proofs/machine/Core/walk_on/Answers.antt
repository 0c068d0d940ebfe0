use Rattle.std.proofs.Common.{◌≤◌, ◌∷◌, ◌∙◌, length, map, ap, arith}
use Rattle.sx_journal.specs.declared.entry.Event.TheVariants.{Scan}
use Rattle.sx_journal.specs.declared.entry.Reply.TheVariants.{Scanned}
use Rattle.sx_heap.specs.declared.seen.Seen.{Seen}
use Rattle.sx_core.proofs.TurnLemmas.{fields, Holds, told_as, scan_right}
use Rattle.sx_core.proofs.FetchLemmas.{own_entry}
use Rattle.sx_core.proofs.ScanTurnLemmas.{LendsOwn, scans_now, source_is_there, scanned_fields, scan_took, rows_seen}
use Rattle.sx_core.proofs.machine.Core.walk_on.Goals as goal

pub walk_source-requires : goal.walk_source-requires
walk_source-requires g c =
    let i = c.self.inside in
    let f = fields i.manager i.journal.spare i.clients.newest i.known i.phase i.spec i.cursor i.position in
    let holds : Holds i.catalog i.loads i.journal.newest f c.args.self.now = record { within = c.self.invariant.0; kept = c.self.invariant.1; view = c.self.view_is } in
    let lends : LendsOwn i.manager c.tables-tables.result.now = record { now = c.tables-tables.ensures.now; lends = record { tables = c.tables-tables.ensures.tables; shapes = c.tables-tables.ensures.shapes } } in
    source_is_there _ i.journal.newest f c.tables-tables.result.now (scans_now i.catalog i.loads i.journal.newest f c.args.self.now c.tables-tables.result.now holds c.requires.scanning lends)

pub invariant_of-self-2 : goal.invariant_of-self-2
invariant_of-self-2 g c =
    let i = c.self.inside in
    let f = fields i.manager i.journal.spare i.clients.newest i.known i.phase i.spec i.cursor i.position in
    let holds : Holds i.catalog i.loads i.journal.newest f c.args.self.now = record { within = c.self.invariant.0; kept = c.self.invariant.1; view = c.self.view_is } in
    let lends : LendsOwn i.manager c.tables-tables.result.now = record { now = c.tables-tables.ensures.now; lends = record { tables = c.tables-tables.ensures.tables; shapes = c.tables-tables.ensures.shapes } } in
    let walked = c.in_ok-seen.field-0 in
    let room : length i.clients.newest ≤ c.append.new.self.spare = omega (arith, c.in_ok-reserve.ensures.room, c.append.ensures.room, c.room_and.ensures) in
    let longer = c.append.ensures.item ∙ ap (λ l. own_entry (Scan c.args.n) (Scanned 0 c.in_ok-lsns_of.field-0 walked.over) ∷ l) c.reserve.ensures.items in
    let named = c.in_ok-lsns_of.ensures ∙ ap (map (λ (s : Seen). s.lsn)) c.as_slice.ensures in
    let t = scan_took i.catalog i.loads i.journal.newest c.append.new.self.newest f c.args.self.now c.args.n c.append.new.self.spare c.phase_behind-self-inside.result c.tables-tables.result.now walked c.in_ok-lsns_of.field-0 holds c.requires.scanning c.requires.asks lends c.in_ok-seen.ensures.walked named
    room c.phase_behind-self-inside.ensures longer in
    (t.within, t.kept)

pub returns-clause-answer : goal.returns-clause-answer
returns-clause-answer g c =
    let i = c.self.inside in
    let f = fields i.manager i.journal.spare i.clients.newest i.known i.phase i.spec i.cursor i.position in
    let holds : Holds i.catalog i.loads i.journal.newest f c.args.self.now = record { within = c.self.invariant.0; kept = c.self.invariant.1; view = c.self.view_is } in
    let lends : LendsOwn i.manager c.tables-tables.result.now = record { now = c.tables-tables.ensures.now; lends = record { tables = c.tables-tables.ensures.tables; shapes = c.tables-tables.ensures.shapes } } in
    let walked = c.in_ok-seen.field-0 in
    let room : length i.clients.newest ≤ c.append.new.self.spare = omega (arith, c.in_ok-reserve.ensures.room, c.append.ensures.room, c.room_and.ensures) in
    let longer = c.append.ensures.item ∙ ap (λ l. own_entry (Scan c.args.n) (Scanned 0 c.in_ok-lsns_of.field-0 walked.over) ∷ l) c.reserve.ensures.items in
    let named = c.in_ok-lsns_of.ensures ∙ ap (map (λ (s : Seen). s.lsn)) c.as_slice.ensures in
    let t = scan_took i.catalog i.loads i.journal.newest c.append.new.self.newest f c.args.self.now c.args.n c.append.new.self.spare c.phase_behind-self-inside.result c.tables-tables.result.now walked c.in_ok-lsns_of.field-0 holds c.requires.scanning c.requires.asks lends c.in_ok-seen.ensures.walked named
    room c.phase_behind-self-inside.ensures longer in
    let told = told_as i.catalog i.loads c.append.new.self.newest (scanned_fields f c.append.new.self.spare c.phase_behind-self-inside.result walked.next) c.args.self.now 0 (Scan c.args.n) (Scanned 0 c.in_ok-lsns_of.field-0 walked.over) c.in_ok-answer.answer c.in_ok-answer.ensures t in
    record {
      right = scan_right _ _ c.args.n c.in_ok-answer.answer told.turns;
      turns = told.turns;
      seen = rows_seen i.catalog i.loads i.journal.newest f c.args.self.now c.args.n c.tables-tables.result.now walked c.in_ok-lsns_of.field-0 c.in_ok-answer.answer holds c.requires.scanning lends c.in_ok-seen.ensures.walked named c.in_ok-answer.ensures;
    }
