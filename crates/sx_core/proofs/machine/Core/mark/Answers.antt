use Rattle.sx_model.specs.Replies.{start_reply}
use Rattle.std.proofs.Common.{◌≡◌, ◌≤◌, ◌∷◌, ◌∙◌, length, ap, sym, refl, subst, arith, List, Option, Some, None}
use Rattle.sx_values.specs.declared.value.Value.{Value}
use Rattle.sx_sync.specs.declared.Phase.TheVariants.{Scanning}
use Rattle.sx_journal.specs.declared.entry.Event.TheVariants.{Start}
use Rattle.sx_journal.specs.declared.entry.Reply.TheVariants.{Started}
use Rattle.sx_core.specs.Machines.{Machine}
use Rattle.sx_ops.specs.Checks.{spec_fault}
use Rattle.sx_core.specs.Kept.{IsKept}
use Rattle.sx_core.proofs.TurnLemmas.{from_view, with_journal, memory_fails, fields, opened, Holds, Leaves, stays, start_right}
use Rattle.sx_core.proofs.FetchLemmas.{own_entry}
use Rattle.sx_core.proofs.StartLemmas.{started_took}
use Rattle.sx_core.proofs.machine.Core.mark.Goals as goal

pub invariant_of-self-in_err-room : goal.invariant_of-self-in_err-room
invariant_of-self-in_err-room c =
    let i = c.self.inside in
    let f = fields i.manager i.journal.spare i.clients.newest i.known i.phase i.spec i.cursor i.position in
    let holds : Holds i.catalog i.loads i.journal.newest f c.args.self.now = record { within = c.self.invariant.0; kept = c.self.invariant.1; view = c.self.view_is } in
    let g = fields c.room.new.self c.reserve.new.self.spare i.clients.newest i.known i.phase i.spec i.cursor i.position in
    let leaves : Leaves f g = record { managed = c.room.ensures.same; clients = refl; room = c.reserve.ensures.no_less; known = refl; now = refl; spec = refl; cursor = refl; position = refl } in
    let h = with_journal i.catalog i.loads i.journal.newest c.reserve.new.self.newest g c.args.self.now c.reserve.ensures.items (stays i.catalog i.loads i.journal.newest f g c.args.self.now holds leaves) in
    (h.within, h.kept)

pub returns-in_err-room : goal.returns-in_err-room
returns-in_err-room c =
    let i = c.self.inside in
    let f = fields i.manager i.journal.spare i.clients.newest i.known i.phase i.spec i.cursor i.position in
    let holds : Holds i.catalog i.loads i.journal.newest f c.args.self.now = record { within = c.self.invariant.0; kept = c.self.invariant.1; view = c.self.view_is } in
    let g = fields c.room.new.self c.reserve.new.self.spare i.clients.newest i.known i.phase i.spec i.cursor i.position in
    let leaves : Leaves f g = record { managed = c.room.ensures.same; clients = refl; room = c.reserve.ensures.no_less; known = refl; now = refl; spec = refl; cursor = refl; position = refl } in
    let h = with_journal i.catalog i.loads i.journal.newest c.reserve.new.self.newest g c.args.self.now c.reserve.ensures.items (stays i.catalog i.loads i.journal.newest f g c.args.self.now holds leaves) in
    let m = c.args.self.now in
    memory_fails (λ reply. reply ≡ start_reply m.opening m.past c.args.spec) m _ 0 (Start c.args.spec c.args.strategy) c.from_residual-in_err-room.result c.from_residual-in_err-room.ensures.1 h.view

pub invariant_of-self-2 : goal.invariant_of-self-2
invariant_of-self-2 c =
    let i = c.self.inside in
    let f = fields i.manager i.journal.spare i.clients.newest i.known i.phase i.spec i.cursor i.position in
    let holds : Holds i.catalog i.loads i.journal.newest f c.args.self.now = record { within = c.self.invariant.0; kept = c.self.invariant.1; view = c.self.view_is } in
    let room : length i.clients.newest ≤ c.append.new.self.spare = omega (arith, c.in_ok-reserve.ensures.room, c.append.ensures.room, c.room_and.ensures) in
    let fits = from_view (λ (x : Machine). spec_fault x.opening.catalog c.args.spec ≡ None) (opened i.catalog i.loads i.manager.log) i.journal.newest c.args.self.now c.self.view_is c.requires.fits in
    let longer = c.append.ensures.item ∙ ap (λ l. own_entry (Start c.args.spec c.args.strategy) (Started c.note-lsn.result) ∷ l) c.reserve.ensures.items in
    let t = started_took i.catalog i.loads i.journal.newest c.append.new.self.newest f c.args.self.now c.room.new.self c.note-lsn.new.self c.append.new.self.spare c.note-lsn.result c.in_ok-known.known c.args.spec c.in_ok-kept.kept c.args.strategy holds c.requires.starts c.requires.idle fits
    c.in_ok-known.ensures c.in_ok-kept.ensures c.room.ensures.same c.note-lsn.ensures room longer in
    (t.within, subst (λ (k : Option (List Value)). IsKept (opened i.catalog i.loads c.note-lsn.new.self.log) c.append.new.self.newest (fields c.note-lsn.new.self c.append.new.self.spare i.clients.newest c.in_ok-known.known Scanning (Some c.in_ok-kept.kept) k c.note-lsn.result)) (sym c.start.ensures) t.kept)

pub returns : goal.returns
returns c =
    let i = c.self.inside in
    let f = fields i.manager i.journal.spare i.clients.newest i.known i.phase i.spec i.cursor i.position in
    let holds : Holds i.catalog i.loads i.journal.newest f c.args.self.now = record { within = c.self.invariant.0; kept = c.self.invariant.1; view = c.self.view_is } in
    let room : length i.clients.newest ≤ c.append.new.self.spare = omega (arith, c.in_ok-reserve.ensures.room, c.append.ensures.room, c.room_and.ensures) in
    let fits = from_view (λ (x : Machine). spec_fault x.opening.catalog c.args.spec ≡ None) (opened i.catalog i.loads i.manager.log) i.journal.newest c.args.self.now c.self.view_is c.requires.fits in
    let longer = c.append.ensures.item ∙ ap (λ l. own_entry (Start c.args.spec c.args.strategy) (Started c.note-lsn.result) ∷ l) c.reserve.ensures.items in
    let t = started_took i.catalog i.loads i.journal.newest c.append.new.self.newest f c.args.self.now c.room.new.self c.note-lsn.new.self c.append.new.self.spare c.note-lsn.result c.in_ok-known.known c.args.spec c.in_ok-kept.kept c.args.strategy holds c.requires.starts c.requires.idle fits
    c.in_ok-known.ensures c.in_ok-kept.ensures c.room.ensures.same c.note-lsn.ensures room longer in
    (start_right _ _ c.args.spec c.args.strategy (Started c.note-lsn.result) t.turns, t.turns)
