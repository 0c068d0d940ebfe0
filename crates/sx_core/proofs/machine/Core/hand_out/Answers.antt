use Rattle.std.proofs.Common.{◌≤◌, ◌+◌, ◌∷◌, ◌∙◌, length, min, ap, arith}
use Rattle.sx_journal.specs.declared.entry.Event.TheVariants.{Fetch}
use Rattle.sx_journal.specs.declared.entry.Reply.TheVariants.{Fetched}
use Rattle.sx_core.proofs.TurnLemmas.{fields, Holds, fetch_right}
use Rattle.sx_core.proofs.FetchLemmas.{own_entry, read_there, up_to, to_behind, handed_took, handed}
use Rattle.sx_core.proofs.machine.Core.hand_out.Goals as goal

pub overflow_sub-to : goal.overflow_sub-to
overflow_sub-to c =
    let i = c.self.inside in
    let f = fields i.manager i.journal.spare i.clients.newest i.known i.phase i.spec i.cursor i.position in
    let holds : Holds i.catalog i.loads i.journal.newest f c.args.self.now = record { within = c.self.invariant.0; kept = c.self.invariant.1; view = c.self.view_is } in
    let read = read_there i.catalog i.loads i.journal.newest f c.args.self.now holds c.requires.scanned in
    to_behind i.position c.args.n _ _ c.min-to.result (up_to i.position c.args.n c.saturating_add.result c.len.result c.min-to.result c.saturating_add.ensures c.len.type_inv c.min-to.ensures) (c.len.ensures ∙ ap length c.log-log.ensures.log) read

pub invariant_of-self-2 : goal.invariant_of-self-2
invariant_of-self-2 c =
    let i = c.self.inside in
    let f = fields i.manager i.journal.spare i.clients.newest i.known i.phase i.spec i.cursor i.position in
    let holds : Holds i.catalog i.loads i.journal.newest f c.args.self.now = record { within = c.self.invariant.0; kept = c.self.invariant.1; view = c.self.view_is } in
    let room : length i.clients.newest ≤ c.append.new.self.spare = omega (arith, c.in_ok-reserve.ensures.room, c.append.ensures.room, c.room_and.ensures) in
    let longer = c.append.ensures.item ∙ ap (λ l. own_entry (Fetch c.args.n) (Fetched i.position c.min-to.result) ∷ l) c.reserve.ensures.items in
    let end = up_to i.position c.args.n c.saturating_add.result c.len.result c.min-to.result c.saturating_add.ensures c.len.type_inv c.min-to.ensures ∙ ap (min (i.position + c.args.n)) (c.len.ensures ∙ ap length c.log-log.ensures.log) in
    let t = handed_took i.catalog i.loads i.journal.newest c.append.new.self.newest f c.args.self.now c.args.n c.append.new.self.spare c.min-to.result holds c.requires.asks c.requires.scanned end room longer in
    (t.within, t.kept)

pub returns : goal.returns
returns c =
    let i = c.self.inside in
    let f = fields i.manager i.journal.spare i.clients.newest i.known i.phase i.spec i.cursor i.position in
    let holds : Holds i.catalog i.loads i.journal.newest f c.args.self.now = record { within = c.self.invariant.0; kept = c.self.invariant.1; view = c.self.view_is } in
    let room : length i.clients.newest ≤ c.append.new.self.spare = omega (arith, c.in_ok-reserve.ensures.room, c.append.ensures.room, c.room_and.ensures) in
    let longer = c.append.ensures.item ∙ ap (λ l. own_entry (Fetch c.args.n) (Fetched i.position c.min-to.result) ∷ l) c.reserve.ensures.items in
    let end = up_to i.position c.args.n c.saturating_add.result c.len.result c.min-to.result c.saturating_add.ensures c.len.type_inv c.min-to.ensures ∙ ap (min (i.position + c.args.n)) (c.len.ensures ∙ ap length c.log-log.ensures.log) in
    let t = handed_took i.catalog i.loads i.journal.newest c.append.new.self.newest f c.args.self.now c.args.n c.append.new.self.spare c.min-to.result holds c.requires.asks c.requires.scanned end room longer in
    record {
      right = fetch_right _ _ c.args.n (Fetched i.position c.min-to.result) t.turns;
      turns = t.turns;
      recs = handed i.catalog i.loads i.journal.newest f c.args.self.now i.position c.min-to.result c.in_ok-recs.recs c.log-log.result.now.newest holds c.log-log.ensures.log c.in_ok-recs.ensures;
    }
