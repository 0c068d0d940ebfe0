-- The image stands for the copy that the journal tells, turn by turn.
use Rattle.std.specs.Prelude.{slice_get}
use Rattle.std.proofs.Common.{◌≡◌, ◌==◌, ◌≤◌, ◌+◌, ◌-◌, ◌⊎◌, ◌∷◌, ◌++◌, [], ℕ, zero, suc, min, option_map, List, length, map, take, drop, reverse, Bool, true, false, Option, Some, None, refl, sym, ◌∙◌, ap, subst, arith, inl, inr, if◌then◌else◌}
use Rattle.std.specs.List.{AllByRecursion}
use Rattle.std.proofs.Math.Nat.{min-le_right, le-min}
use Rattle.std.proofs.Math.Seq.{take-append_seam}
use Rattle.std.proofs.lemmas.List.{length-drop, length-reverse, reverse-append, take-append-drop, drop-append-le}
use Rattle.sx_lists.specs.Places.{numbered, following}
use Rattle.sx_values.specs.declared.value.Value.{Value}
use Rattle.sx_values.specs.declared.catalog.Declared.{Declared}
use Rattle.sx_values.specs.Values.{values_eq}
use Rattle.std.proofs.lemmas.Bool.{false≢true}
use Rattle.sx_log.specs.declared.record.Rec.{Rec}
use Rattle.sx_log.specs.declared.record.Body.{Body}
use Rattle.sx_log.specs.State.{Stored, stored, state_at, oldest}
use Rattle.sx_log.specs.Copies.{after_reading, redone}
use Rattle.sx_heap.specs.declared.seen.Seen.{Seen}
use Rattle.sx_ops.specs.declared.spec.Spec.{Spec}
use Rattle.sx_ops.specs.Operators.{sources_of}
use Rattle.sx_sync.specs.declared.Phase.{Phase}
use Rattle.sx_sync.specs.declared.Phase.TheVariants.{Idle, Scanning, Chasing, Draining, Late, Done}
use Rattle.sx_sync.specs.declared.Strategy.{Strategy}
use Rattle.sx_journal.specs.declared.entry.Entry.{Entry}
use Rattle.sx_journal.specs.declared.entry.Event.TheVariants.{Start, Scan, Fetch, Switch}
use Rattle.sx_journal.specs.declared.entry.Reply.TheVariants as reply
use Rattle.sx_copy.specs.Readings.{learnt, merged}
use Rattle.sx_image.specs.declared.image.Kind.{Kind}
use Rattle.sx_image.specs.declared.image.Kind.TheVariants.{Dead, Part}
use Rattle.sx_values.specs.Layouts.{Layout}
use Rattle.sx_values.specs.Catalogs.{schema_of}
use Rattle.sx_log.specs.Images.{FitsImage, FitsTables}
use Rattle.sx_heap.specs.Relations.{IsRowOf}
use Rattle.sx_part.specs.PartImages.{schema_in}
use Rattle.sx_image.specs.Images.{Copy, StandsFor, FitsScan, Populates, CanFollow, Follows, copy_behind_all, copy_behind_scan, no_copy}
use Rattle.sx_model.specs.Effects.{Effect, Nothing, Reads, Begins, Writes, Undoes, Commits, Aborts, Starts, Sees, Fetches, Checks, Conflicts, Violates, Switches, Cancels, effect}
use Rattle.sx_model.specs.Openings.{Opening}
use Rattle.sx_model.specs.Leaves.{Started, started, phase, begun}
use Rattle.sx_model.specs.Logs.{log_of}
use Rattle.sx_model.specs.Scans.{is_about, side_table, IsScanTurn}
use Rattle.sx_model.specs.NewRows.{row_from}
use Rattle.sx_model.specs.Copies.{copy, with_reading, reading_of, behind_readings, copied_by}
use Rattle.sx_model.specs.Switches.{position}
use Rattle.sx_model.specs.Fetches.{fetched, fetch_in, fetch_reply}
use Rattle.sx_model.specs.Legal.{Legal}
use Rattle.sx_model.proofs.TestLaws.{by_cases}
use Rattle.sx_model.proofs.Outcomes.{Outcome, rests, begins, reads, writes, commits, undoes, aborts, starts, sees, fetches, conflicts, switches, outcome}
use Rattle.sx_model.proofs.LegalLaws.{Progress, before, under_way, legal_progress}
use Rattle.sx_model.proofs.LsnLaws.{record_of, about_one, values_eq_tells}
use Rattle.sx_model.proofs.StateLaws.{values_eq-refl}
use Rattle.sx_model.proofs.ImageLaws.{AllFit, row_fits}
use Rattle.sx_model.proofs.FitLaws.{declared_fit}
use Rattle.sx_model.proofs.NowLaws.{from_none}
use Rattle.sx_model.proofs.CopyLaws.{IsOf, Leaves, one_source, side_first, left_copy, copied_start, own_reading, foreign_reading}
use Rattle.sx_core.specs.Asked.{IsScanned}
use Rattle.sx_core.specs.Answers.{SeesRows}
use Rattle.sx_core.specs.Stands.{StandsNow, StandsIn, Stands}
use Rattle.sx_core.proofs.ClientLemmas.{LeavesIt, IsLeft, phase_left, started_left, position_left}
use Rattle.sx_core.proofs.FetchLemmas.{own_entry}
use Rattle.sx_core.proofs.FreshLemmas.{all_drop, behind_redone}
use Rattle.sx_model.proofs.AllLaws.{all_reverse}

-- ** images **

-- an image that stands for a copy stands for whatever is the same for the source
pub stands_by : (catalog : List Declared) (spec : Spec) (one other : Copy) (place : ℕ) (image : Kind) → ((key : List Value) → one 0 key ≡ other 0 key) → StandsFor catalog spec one place image → StandsFor catalog spec other place image
stands_by catalog spec one other place Dead same stands = absurd stands
stands_by catalog spec one other place (Part None) same stands = absurd stands
stands_by catalog spec one other place (Part (Some parts)) same stands = record { made = stands.made; position = stands.position; has = λ key. stands.has key ∙ same key }

-- from phase to phase before the switch
in_phase : (o : Opening) (past : List Entry) (e : Entry) (image next : Kind) (at : Phase) → (StandsNow o past image (started past) → StandsNow o (e ∷ past) next (started (e ∷ past))) → StandsIn o past image at → StandsIn o (e ∷ past) next at
in_phase o past e image next Idle moves stands = tt
in_phase o past e image next Scanning moves stands = moves stands
in_phase o past e image next Chasing moves stands = moves stands
in_phase o past e image next Draining moves stands = moves stands
in_phase o past e image next Late moves stands = tt
in_phase o past e image next Done moves stands = tt

-- where a transformation is before its switch the image stands for its copy
pub stands_now : (o : Opening) (past : List Entry) (image : Kind) (s : Started) → started past ≡ Some s → (phase past ≡ Scanning) ⊎ (phase past ≡ Chasing) ⊎ (phase past ≡ Draining) → Stands o past image → StandsFor o.catalog s.spec (copy o past) (position o past) image
stands_now o past image s is at stands = subst (StandsNow o past image) is (by at)
  where
    by : (phase past ≡ Scanning) ⊎ (phase past ≡ Chasing) ⊎ (phase past ≡ Draining) → StandsNow o past image (started past)
    by (inl e) = subst (StandsIn o past image) e stands
    by (inr (inl e)) = subst (StandsIn o past image) e stands
    by (inr (inr e)) = subst (StandsIn o past image) e stands

-- and back
pub now_stands : (o : Opening) (past : List Entry) (image : Kind) (s : Started) → started past ≡ Some s → StandsFor o.catalog s.spec (copy o past) (position o past) image → Stands o past image
now_stands o past image s is stands = by (phase past) (subst (StandsNow o past image) (sym is) stands)
  where
    by : (at : Phase) → StandsNow o past image (started past) → StandsIn o past image at
    by Idle now = tt
    by Scanning now = now
    by Chasing now = now
    by Draining now = now
    by Late now = tt
    by Done now = tt

-- the transformation's one source
pub is_of : (s : Started) (o : Opening) (past : List Entry) → Legal o past → started past ≡ Some s → (table : List ℕ) × IsOf s table
is_of s o past legal is = by (legal_progress o past legal)
  where
    one : (a b : Started) → Some a ≡ Some b → a ≡ b
    one a b e = cc

    by : Progress o.catalog (phase past) (started past) (position o past) (length (log_of o past)) → (table : List ℕ) × IsOf s table
    by (before idle none) = absurd (let e : None ≡ Some s = sym none ∙ is in cc)
    by (under_way w) =
        let source = one_source w.s.spec w.shaped in
        (source.0, record { one = ap (λ (t : Started). sources_of t.spec) (sym (one w.s s (sym w.this ∙ is))) ∙ source.1 })

-- ** turns that leave the copy **

leaves-it : (f : Effect) → LeavesIt f → Leaves f
leaves-it Nothing left = tt
leaves-it Reads left = tt
leaves-it (Begins txn) left = tt
leaves-it Writes left = tt
leaves-it Undoes left = tt
leaves-it Commits left = tt
leaves-it Aborts left = tt
leaves-it (Starts mark) left = absurd left
leaves-it (Sees lsns last) left = absurd left
leaves-it (Fetches place) left = absurd left
leaves-it Checks left = absurd left
leaves-it Conflicts left = absurd left
leaves-it Violates left = absurd left
leaves-it Switches left = absurd left
leaves-it Cancels left = absurd left

-- an entry that leaves the transformation, the copy and the position
now_left : (o : Opening) (past : List Entry) (e : Entry) (image : Kind) (f : Effect) → Legal o past → effect e.reply ≡ f → Leaves f → started (e ∷ past) ≡ started past → position o (e ∷ past) ≡ position o past → StandsNow o past image (started past) → StandsNow o (e ∷ past) image (started (e ∷ past))
now_left o past e image f legal told left same still stands = by (started past) refl stands
  where
    by : (s : Option Started) → started past ≡ s → StandsNow o past image s → StandsNow o (e ∷ past) image (started (e ∷ past))
    by None is now = subst (StandsNow o (e ∷ past) image) (sym (same ∙ is)) tt
    by (Some s) is now =
        let of = is_of s o past legal is in
        let moved = subst (λ place. StandsFor o.catalog s.spec (copy o past) place image) (sym still) now in
        subst (StandsNow o (e ∷ past) image) (sym (same ∙ is))
        (stands_by o.catalog s.spec (copy o past) (copy o (e ∷ past)) (position o (e ∷ past)) image (λ key. sym (left_copy o past e s of.0 key f told left (same ∙ is) of.1)) moved)

-- a client's turn, or one that is refused
pub stands_left : (o : Opening) (past : List Entry) (e : Entry) (image : Kind) → Legal o past → IsLeft e → Stands o past image → Stands o (e ∷ past) image
stands_left o past e image legal is stands =
    subst (StandsIn o (e ∷ past) image) (sym (phase_left past e is))
    (in_phase o past e image image (phase past) (now_left o past e image is.f legal is.told (leaves-it is.f is.left) (started_left past e is) (position_left o past e is)) stands)

pub client_left : (o : Opening) (past : List Entry) (e : Entry) → Legal o (e ∷ past) → 1 ≤ e.actor → IsLeft e
client_left o past e legal from_one = by (outcome o past e legal)
  where
    by : Outcome o past e → IsLeft e
    by (rests told) = record { f = Nothing; told = told; left = tt }
    by (begins b) = record { f = Begins (begun past + 1); told = b.told; left = tt }
    by (reads r) = record { f = Reads; told = r.told; left = tt }
    by (writes w) = record { f = Writes; told = w.told; left = tt }
    by (commits c) = record { f = Commits; told = c.told; left = tt }
    by (undoes u) = record { f = Undoes; told = u.told; left = tt }
    by (aborts a) = record { f = Aborts; told = a.told; left = tt }
    by (starts s) = absurd (let e = s.own in omega arith)
    by (sees s) = absurd (let e = s.own in omega arith)
    by (fetches f) = absurd (let e = f.own in omega arith)
    by (conflicts a told) = absurd (let e = a.own in omega arith)
    by (switches w) = absurd (let e = w.attempt.own in omega arith)

-- ** a start **

pub stands_started : (o : Opening) (past : List Entry) (spec : Spec) (strategy : Strategy) (lsn : ℕ) (image : Kind) → Legal o (own_entry (Start spec strategy) (reply.Started lsn) ∷ past) → StandsFor o.catalog spec no_copy lsn image → Stands o (own_entry (Start spec strategy) (reply.Started lsn) ∷ past) image
unfolding effect
stands_started o past spec strategy lsn image legal stands =
    let s : Started = record { spec = spec; strategy = strategy; mark = lsn } in
    let of = is_of (record { spec = spec; strategy = strategy; mark = lsn }) o (own_entry (Start spec strategy) (reply.Started lsn) ∷ past) legal refl in
    now_stands o (own_entry (Start spec strategy) (reply.Started lsn) ∷ past) image (record { spec = spec; strategy = strategy; mark = lsn }) refl
    (stands_by o.catalog spec no_copy (copy o (own_entry (Start spec strategy) (reply.Started lsn) ∷ past)) lsn image
    (λ key. sym (side_first o past (own_entry (Start spec strategy) (reply.Started lsn)) (record { spec = spec; strategy = strategy; mark = lsn }) of.0 key refl of.1
    ∙ copied_start (log_of o (own_entry (Start spec strategy) (reply.Started lsn) ∷ past)) (position o past) (reply.Started lsn) 0 lsn of.0 key (copy o past 0 key) refl)) stands)

-- ** a turn of the scan **

-- the readings by their LSNs are those of the rows
one_reading : (log : List Rec) (table : List ℕ) (s : Seen) (key : List Value) (known : Option Stored) → state_at log table s.key ≡ Some (s.row, s.lsn) → with_reading (reading_of (numbered log s.lsn) s.lsn table key) known ≡ learnt s key known
one_reading log table s key known there =
    let r = record_of log table s.key s.row s.lsn there in
    ap (λ at. with_reading (reading_of at s.lsn table key) known) r.has_number
    ∙ by_cases (is_about r.rec.body table key)
    (λ about.
    let same : s.key ≡ key = about_one r.rec.body table s.key key r.about about in
    ap (λ read. with_reading read known) (own_reading r.rec s.lsn table key about ∙ ap (stored s.lsn) r.image)
    ∙ sym (ap (λ b. if b then after_reading (s.row, s.lsn) known else known) (same_keys s.key key same)))
    (λ away.
    ap (λ read. with_reading read known) (foreign_reading r.rec s.lsn table key away)
    ∙ sym (ap (λ b. if b then after_reading (s.row, s.lsn) known else known) (other_keys s.key key r.rec.body r.about away)))
  where
    itself : (k : List Value) → values_eq k k ≡ true
    itself k = values_eq-refl k

    same_keys : (a b : List Value) → a ≡ b → values_eq a b ≡ true
    same_keys a b is = ap (values_eq a) (sym is) ∙ itself a

    other_keys : (a b : List Value) (body : Body) → is_about body table a ≡ true → is_about body table b ≡ false → values_eq a b ≡ false
    other_keys a b body about away = by_cases (values_eq a b) (λ is. absurd (false≢true (sym away ∙ ap (is_about body table) (sym (values_eq_tells a b is)) ∙ about))) (λ is. is)

pub readings_merged : (log : List Rec) (table : List ℕ) (seen : List Seen) (key : List Value) (known : Option Stored) → AllByRecursion (λ (s : Seen). state_at log table s.key ≡ Some (s.row, s.lsn)) seen
    → behind_readings log (map (λ (s : Seen). s.lsn) seen) table key known ≡ merged seen key known
readings_merged log table [] key known there = refl
readings_merged log table (s ∷ seen) key known there =
    ap (behind_readings log (map (λ (t : Seen). t.lsn) seen) table key) (one_reading log table s key known there.0) ∙ readings_merged log table seen key (learnt s key known) there.1

-- a transformation with one source has one side
first_side : (table : List ℕ) (side : ℕ) (name : List ℕ) → slice_get (table ∷ []) side ≡ Some name → (side ≡ 0) × (table ≡ name)
first_side table zero name is = (refl, (let e : Some table ≡ Some name = is in cc))
first_side table (suc side) name is = absurd (let e : None ≡ Some name = is in cc)

saw-position : (o : Opening) (past : List Entry) (n side : ℕ) (lsns : List ℕ) (last : Bool) → position o (own_entry (Scan n) (reply.Scanned side lsns last) ∷ past) ≡ position o past
unfolding effect
saw-position o past n side lsns last = refl

saw-started : (past : List Entry) (n side : ℕ) (lsns : List ℕ) (last : Bool) → started (own_entry (Scan n) (reply.Scanned side lsns last) ∷ past) ≡ started past
unfolding effect
saw-started past n side lsns last = refl

saw-log : (o : Opening) (past : List Entry) (n side : ℕ) (lsns : List ℕ) (last : Bool) → log_of o (own_entry (Scan n) (reply.Scanned side lsns last) ∷ past) ≡ log_of o past
unfolding effect
saw-log o past n side lsns last = refl

copied-scan : (log : List Rec) (from : ℕ) (lsns : List ℕ) (last : Bool) (table : List ℕ) (key : List Value) (known : Option Stored) → copied_by log from (reply.Scanned 0 lsns last) 0 table key known ≡ behind_readings log lsns table key known
unfolding copied_by
copied-scan log from lsns last table key known = refl

-- the copy behind a turn of the scan
pub stands_scanned : (o : Opening) (past : List Entry) (n side : ℕ) (lsns : List ℕ) (last : Bool) (seen : List Seen) (image next : Kind) → Legal o past → IsScanTurn o past n side lsns last → SeesRows (log_of o past) (side_table (started past) side) lsns seen
    → Populates side seen image next → Stands o past image → Stands o (own_entry (Scan n) (reply.Scanned side lsns last) ∷ past) next
stands_scanned o past n side lsns last seen image next legal turn rows populates stands = by (started past) refl
  where
    by : (at : Option Started) → started past ≡ at → Stands o (own_entry (Scan n) (reply.Scanned side lsns last) ∷ past) next
    by None is = absurd (let e : side_table None side ≡ Some turn.table = sym (ap (λ s. side_table s side) is) ∙ turn.of_side in let f : None ≡ Some turn.table = e in cc)
    by (Some s) is =
        let of = is_of s o past legal is in
        let here : slice_get (of.0 ∷ []) side ≡ Some turn.table = sym (ap (λ tables. slice_get tables side) of.1.one) ∙ sym (ap (λ t. side_table t side) is) ∙ turn.of_side in
        let first = first_side of.0 side turn.table here in
        let there = rows.there of.0 (turn.of_side ∙ ap Some (sym first.1)) in
        let before = stands_now o past image s is (inl turn.scanning) stands in
        let moved = populates o.catalog s.spec (copy o past) (position o past) before in
        let e = own_entry (Scan n) (reply.Scanned side lsns last) in
        now_stands o (own_entry (Scan n) (reply.Scanned side lsns last) ∷ past) next s (saw-started past n side lsns last ∙ is)
        (subst (λ place. StandsFor o.catalog s.spec (copy o (own_entry (Scan n) (reply.Scanned side lsns last) ∷ past)) place next) (sym (saw-position o past n side lsns last))
        (stands_by o.catalog s.spec (copy_behind_scan side seen (copy o past)) (copy o (own_entry (Scan n) (reply.Scanned side lsns last) ∷ past)) (position o past) next
        (λ key.
        ap (λ at. if at == 0 then merged seen key (copy o past 0 key) else copy o past 0 key) first.0
        ∙ sym (side_first o past (own_entry (Scan n) (reply.Scanned side lsns last)) s of.0 key (saw-started past n side lsns last ∙ is) of.1
        ∙ ap (λ log. copied_by log (position o past) (reply.Scanned side lsns last) 0 of.0 key (copy o past 0 key)) (saw-log o past n side lsns last)
        ∙ ap (λ at. copied_by (log_of o past) (position o past) (reply.Scanned at lsns last) 0 of.0 key (copy o past 0 key)) first.0
        ∙ copied-scan (log_of o past) (position o past) lsns last of.0 key (copy o past 0 key)
        ∙ ap (λ l. behind_readings (log_of o past) l of.0 key (copy o past 0 key)) rows.named
        ∙ readings_merged (log_of o past) of.0 seen key (copy o past 0 key) there)) moved))

-- ** what may be given to an image **

seen_fit : (layout : Layout) (log : List Rec) (schema : List ℕ → Option Layout) (table : List ℕ) (seen : List Seen) → AllFit schema log → schema table ≡ Some layout → AllByRecursion (λ (s : Seen). state_at log table s.key ≡ Some (s.row, s.lsn)) seen → AllByRecursion (IsRowOf layout) seen
seen_fit layout log schema table [] all is there = tt
seen_fit layout log schema table (s ∷ seen) all is there =
    let fits = row_fits schema (λ name key. None) log table s.key layout (λ name key. tt) all is in
    let row : row_from (λ name key. None) log table s.key ≡ Some s.row = ap (option_map (λ (x : Stored). x.0)) (from_none log table s.key ∙ there.0) in
    let fit = subst (FitsImage layout s.key) row fits in
    (record { admitted = fit.0; keyed = fit.1 }, seen_fit layout log schema table seen all is there.1)

pub scan_fits : (o : Opening) (past : List Entry) (n side : ℕ) (lsns : List ℕ) (last : Bool) (seen : List Seen) (image : Kind) → AllFit (schema_of o.catalog) o.loads → Legal o past → IsScanTurn o past n side lsns last → SeesRows (log_of o past) (side_table (started past) side) lsns seen
    → Stands o past image → FitsScan side seen image
scan_fits o past n side lsns last seen image loads legal turn rows stands = by (started past) refl
  where
    undone : phase past ≡ Done → ⊥
    undone done = (let scanning = turn.scanning in cc)

    fit : (s : Started) (table : List ℕ) (k : Kind) → IsOf s table → side ≡ 0 → AllByRecursion (λ (x : Seen). state_at (log_of o past) table x.key ≡ Some (x.row, x.lsn)) seen → StandsFor o.catalog s.spec (copy o past) (position o past) k → FitsScan side seen k
    fit s table Dead of first there now = tt
    fit s table (Part None) of first there now = absurd now
    fit s table (Part (Some parts)) of first there now =
        let named : parts.source ≡ table = (let e : parts.source ∷ [] ≡ table ∷ [] = sym (ap sources_of now.made.split) ∙ of.one in cc) in
        (first, seen_fit (schema_in parts) (log_of o past) (schema_of o.catalog) table seen (declared_fit o past loads legal undone) (ap (schema_of o.catalog) (sym named) ∙ now.made.schema) there)

    by : (at : Option Started) → started past ≡ at → FitsScan side seen image
    by None is = absurd (let e : side_table None side ≡ Some turn.table = sym (ap (λ s. side_table s side) is) ∙ turn.of_side in let f : None ≡ Some turn.table = e in cc)
    by (Some s) is =
        let of = is_of s o past legal is in
        let here : slice_get (of.0 ∷ []) side ≡ Some turn.table = sym (ap (λ tables. slice_get tables side) of.1.one) ∙ sym (ap (λ t. side_table t side) is) ∙ turn.of_side in
        let first = first_side of.0 side turn.table here in
        fit s of.0 image of.1 first.0 (rows.there of.0 (turn.of_side ∙ ap Some (sym first.1))) (stands_now o past image s is (inl turn.scanning) stands)

-- ** a fetch **

-- what a fetch hands out where the scan has ended
pub record HandsOut (o : Opening) (past : List Entry) (n from to : ℕ) : Type 0 where
  pub scanned : IsScanned (phase past)
  pub at : from ≡ position o past
  pub up_to : to ≡ min (position o past + n) (length (log_of o past))

pub hands_out : (o : Opening) (past : List Entry) (n from to : ℕ) → reply.Fetched from to ≡ fetch_reply o past n → HandsOut o past n from to
hands_out o past n from to right = by (phase past) refl right
  where
    both : (a b : ℕ) → reply.Fetched from to ≡ reply.Fetched a b → (from ≡ a) × (to ≡ b)
    both a b e = (cc, cc)

    ends : IsScanned (phase past) → reply.Fetched from to ≡ fetched (position o past) (length (log_of o past)) n → HandsOut o past n from to
    ends scanned e = let two = both (position o past) (min (position o past + n) (length (log_of o past))) e in record { scanned = scanned; at = two.0; up_to = two.1 }

    by : (p : Phase) → phase past ≡ p → reply.Fetched from to ≡ fetch_in o past n p → HandsOut o past n from to
    by Idle is e = absurd (cc)
    by Scanning is e = absurd (cc)
    by Chasing is e = ends (inl is) e
    by Draining is e = ends (inr is) e
    by Late is e = absurd (cc)
    by Done is e = absurd (cc)

-- a record handed out stands between the places that are named
pub record Within (o : Opening) (past : List Entry) (from to : ℕ) : Type 0 where
  pub ordered : from ≤ to
  pub until : to ≤ length (log_of o past)

handed_within : (o : Opening) (past : List Entry) (n from to : ℕ) → Legal o past → HandsOut o past n from to → Within o past from to
handed_within o past n from to legal h = by (legal_progress o past legal)
  where
    running : IsScanned (phase past) → phase past ≡ Idle → ⊥
    running (inl e) idle = cc
    running (inr e) idle = cc

    by : Progress o.catalog (phase past) (started past) (position o past) (length (log_of o past)) → Within o past from to
    by (before idle none) = absurd (running h.scanned idle)
    by (under_way w) =
        let read = w.read in
        let at = h.at in
        let up_to = h.up_to in
        let most = min-le_right (position o past + n) (length (log_of o past)) in
        let least = le-min {k = position o past} {a = position o past + n} {b = length (log_of o past)} (omega arith) (omega arith) in
        record { ordered = omega arith; until = omega arith }

-- the records between two places, the oldest first
following_oldest : (log : List Rec) (from to : ℕ) → from ≤ to → to ≤ length log → following log from (to - from) ≡ drop from (reverse (oldest to log))
following_oldest log from to ordered until =
    let newer = take (length log - to) log in
    let old = oldest to log in
    let long : length (oldest to log) ≡ to = (let l = length-drop (length log - to) log in omega arith) in
    let turned : length (reverse (oldest to log)) ≡ to = length-reverse (oldest to log) ∙ long in
    let rest : length (drop from (reverse (oldest to log))) ≡ to - from = length-drop from (reverse (oldest to log)) ∙ ap (λ k. k - from) turned in
    let parts : reverse log ≡ reverse (oldest to log) ++ reverse newer = ap reverse (sym (take-append-drop (length log - to) log)) ∙ reverse-append newer (oldest to log) in
    ap (λ l. take (to - from) (drop from l)) parts
    ∙ ap (take (to - from)) (drop-append-le from (reverse (oldest to log)) (reverse newer) (omega arith))
    ∙ ap (λ k. take k (drop from (reverse (oldest to log)) ++ reverse newer)) (sym rest)
    ∙ take-append_seam (drop from (reverse (oldest to log))) (reverse newer)

in_scanned : (at : Phase) → IsScanned at → (at ≡ Scanning) ⊎ (at ≡ Chasing) ⊎ (at ≡ Draining)
in_scanned at (inl e) = inr (inl e)
in_scanned at (inr e) = inr (inr e)

not_done : (at : Phase) → IsScanned at → at ≡ Done → ⊥
not_done at (inl e) done = cc
not_done at (inr e) done = cc

one_was_started : (o : Opening) (past : List Entry) → Legal o past → IsScanned (phase past) → (s : Started) × (started past ≡ Some s)
one_was_started o past legal scanned = by (legal_progress o past legal)
  where
    running : IsScanned (phase past) → phase past ≡ Idle → ⊥
    running (inl e) idle = cc
    running (inr e) idle = cc

    by : Progress o.catalog (phase past) (started past) (position o past) (length (log_of o past)) → (s : Started) × (started past ≡ Some s)
    by (before idle none) = absurd (running scanned idle)
    by (under_way w) = (w.s, w.this)

all_take : (P : Rec → Type 0) (n : ℕ) (xs : List Rec) → AllByRecursion P xs → AllByRecursion P (take n xs)
all_take P zero xs all = tt
all_take P (suc n) [] all = tt
all_take P (suc n) (x ∷ xs) all = (all.0, all_take P n xs all.1)

-- the image can follow what a fetch hands out
pub can_follow : (o : Opening) (past : List Entry) (n from to : ℕ) (recs : List Rec) (image : Kind) → AllFit (schema_of o.catalog) o.loads → Legal o past → reply.Fetched from to ≡ fetch_reply o past n → recs ≡ following (log_of o past) from (to - from) → Stands o past image → CanFollow recs to image
can_follow o past n from to recs image loads legal right are stands =
    let h = hands_out o past n from to right in
    let w = handed_within o past n from to legal h in
    let s = one_was_started o past legal h.scanned in
    let fit = declared_fit o past loads legal (not_done (phase past) h.scanned) in
    let at = h.at in
    let long : length recs ≡ to - from =
    ap length (are ∙ following_oldest (log_of o past) from to w.ordered w.until) ∙ length-drop from (reverse (oldest to (log_of o past)))
    ∙ ap (λ k. k - from) (length-reverse (oldest to (log_of o past)) ∙ (let l = length-drop (length (log_of o past) - to) (log_of o past) in let u = w.until in omega arith)) in
    record {
      catalog = o.catalog;
      spec = s.0.spec;
      copy = copy o past;
      place = position o past;
      stands = stands_now o past image s.0 s.1 (in_scanned (phase past) h.scanned) stands;
      ends = (let ordered = w.ordered in omega arith);
      fit = subst (AllByRecursion (λ (r : Rec). FitsTables (schema_of o.catalog) r.body)) (sym are) (all_take (λ (r : Rec). FitsTables (schema_of o.catalog) r.body) (to - from) (drop from (reverse (log_of o past))) (all_drop (λ (r : Rec). FitsTables (schema_of o.catalog) r.body) from (reverse (log_of o past)) (all_reverse (λ (r : Rec). FitsTables (schema_of o.catalog) r.body) (log_of o past) fit)));
    }

fetched-log : (o : Opening) (past : List Entry) (n from to : ℕ) → log_of o (own_entry (Fetch n) (reply.Fetched from to) ∷ past) ≡ log_of o past
unfolding effect
fetched-log o past n from to = refl

fetched-position : (o : Opening) (past : List Entry) (n from to : ℕ) → position o (own_entry (Fetch n) (reply.Fetched from to) ∷ past) ≡ to
unfolding effect
fetched-position o past n from to = refl

fetched-started : (past : List Entry) (n from to : ℕ) → started (own_entry (Fetch n) (reply.Fetched from to) ∷ past) ≡ started past
unfolding effect
fetched-started past n from to = refl

copied-fetch : (log : List Rec) (place from to : ℕ) (table : List ℕ) (key : List Value) (known : Option Stored) → copied_by log place (reply.Fetched from to) 0 table key known ≡ redone (oldest to log) from table key known
unfolding copied_by
copied-fetch log place from to table key known = refl

-- and behind it stands for the next copy
pub stands_fetched : (o : Opening) (past : List Entry) (n from to : ℕ) (recs : List Rec) (image next : Kind) → Legal o past → reply.Fetched from to ≡ fetch_reply o past n → recs ≡ following (log_of o past) from (to - from) → Follows recs to image next → Stands o past image
    → Stands o (own_entry (Fetch n) (reply.Fetched from to) ∷ past) next
stands_fetched o past n from to recs image next legal right are follows stands =
    let h = hands_out o past n from to right in
    let w = handed_within o past n from to legal h in
    let s = one_was_started o past legal h.scanned in
    let of = is_of s.0 o past legal s.1 in
    let at = h.at in
    let same = are ∙ following_oldest (log_of o past) from to w.ordered w.until in
    let old : length (oldest to (log_of o past)) ≡ to = (let l = length-drop (length (log_of o past) - to) (log_of o past) in let u = w.until in omega arith) in
    let long : length recs ≡ to - from = ap length same ∙ length-drop from (reverse (oldest to (log_of o past))) ∙ ap (λ k. k - from) (length-reverse (oldest to (log_of o past)) ∙ old) in
    let moved = follows o.catalog s.0.spec (copy o past) (position o past) (let ordered = w.ordered in omega arith) (stands_now o past image s.0 s.1 (in_scanned (phase past) h.scanned) stands) in
    now_stands o (own_entry (Fetch n) (reply.Fetched from to) ∷ past) next s.0 (fetched-started past n from to ∙ s.1)
    (subst (λ place. StandsFor o.catalog s.0.spec (copy o (own_entry (Fetch n) (reply.Fetched from to) ∷ past)) place next) (sym (fetched-position o past n from to))
    (stands_by o.catalog s.0.spec (copy_behind_all s.0.spec (position o past) recs (copy o past)) (copy o (own_entry (Fetch n) (reply.Fetched from to) ∷ past)) to next
    (λ key.
    ap (λ l. copy_behind_all s.0.spec (position o past) l (copy o past) 0 key) same
    ∙ ap (λ place. copy_behind_all s.0.spec place (drop from (reverse (oldest to (log_of o past)))) (copy o past) 0 key) (sym h.at)
    ∙ behind_redone s.0.spec of.0 of.1.one (oldest to (log_of o past)) from (copy o past) key (let ordered = w.ordered in omega arith)
    ∙ sym (side_first o past (own_entry (Fetch n) (reply.Fetched from to)) s.0 of.0 key (fetched-started past n from to ∙ s.1) of.1
    ∙ ap (λ log. copied_by log (position o past) (reply.Fetched from to) 0 of.0 key (copy o past 0 key)) (fetched-log o past n from to)
    ∙ copied-fetch (log_of o past) (position o past) from to of.0 key (copy o past 0 key))) moved))

-- ** an attempt to switch **

drained-position : (o : Opening) (past : List Entry) (txn : ℕ) → position o (own_entry Switch (reply.Conflict txn) ∷ past) ≡ position o past
unfolding effect
drained-position o past txn = refl

drained-started : (past : List Entry) (txn : ℕ) → started (own_entry Switch (reply.Conflict txn) ∷ past) ≡ started past
unfolding effect
drained-started past txn = refl

effect-conflict : (txn : ℕ) → effect (reply.Conflict txn) ≡ Conflicts
unfolding effect
effect-conflict txn = refl

-- one that a transaction hinders leaves the copy
pub stands_hindered : (o : Opening) (past : List Entry) (txn : ℕ) (image : Kind) → Legal o past → IsScanned (phase past) → Stands o past image → Stands o (own_entry Switch (reply.Conflict txn) ∷ past) image
stands_hindered o past txn image legal scanned stands =
    let s = one_was_started o past legal scanned in
    let of = is_of s.0 o past legal s.1 in
    let is = drained-started past txn ∙ s.1 in
    let now = stands_now o past image s.0 s.1 (in_scanned (phase past) scanned) stands in
    now_stands o (own_entry Switch (reply.Conflict txn) ∷ past) image s.0 is
    (subst (λ place. StandsFor o.catalog s.0.spec (copy o (own_entry Switch (reply.Conflict txn) ∷ past)) place image) (sym (drained-position o past txn))
    (stands_by o.catalog s.0.spec (copy o past) (copy o (own_entry Switch (reply.Conflict txn) ∷ past)) (position o past) image
    (λ key. sym (left_copy o past (own_entry Switch (reply.Conflict txn)) s.0 of.0 key Conflicts (effect-conflict txn) tt is of.1)) now))

-- behind the switch no image is held
pub stands_switched : (o : Opening) (past : List Entry) (lsn : ℕ) (image : Kind) → Stands o (own_entry Switch (reply.Switched lsn) ∷ past) image
unfolding effect
stands_switched o past lsn image = tt

-- a refusal changes nothing
pub stands_refused : (o : Opening) (past : List Entry) (e : Entry) (image : Kind) → Legal o past → effect e.reply ≡ Nothing → Stands o past image → Stands o (e ∷ past) image
stands_refused o past e image legal told stands = stands_left o past e image legal (record { f = Nothing; told = told; left = tt }) stands
