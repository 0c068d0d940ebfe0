-- The image is held, and stands for the copy, behind each turn of the propagator.
use Rattle.std.proofs.Common.{◌≡◌, ◌+◌, ◌-◌, ◌∷◌, ◌⊎◌, min, length, [], ℕ, List, Bool, true, false, Option, Some, None, is_some, IfSome, nat_lt, Err, refl, sym, ap, ◌∙◌, subst, inl, inr, if◌then◌else◌}
use Rattle.std.specs.List.{AllByRecursion}
use Rattle.sx_values.specs.declared.catalog.Declared.{Declared}
use Rattle.sx_values.specs.Catalogs.{schema_of}
use Rattle.sx_ops.specs.declared.spec.Spec.{Spec}
use Rattle.sx_log.specs.declared.record.Rec.{Rec}
use Rattle.sx_log.specs.Images.{FitsTables}
use Rattle.sx_lists.specs.Places.{following}
use Rattle.sx_image.specs.Images.{Copy, StandsFor, position_in, Populates, Follows}
use Rattle.sx_image.specs.declared.image.Kind.TheVariants.{Dead, Part}
use Rattle.sx_heap.specs.declared.seen.Seen.{Seen}
use Rattle.sx_image.specs.declared.image.Kind.{Kind}
use Rattle.sx_sync.specs.declared.Phase.{Phase}
use Rattle.sx_sync.specs.declared.Phase.TheVariants.{Idle, Scanning, Chasing, Draining, Late, Done}
use Rattle.sx_journal.specs.declared.entry.Entry.{Entry}
use Rattle.sx_journal.specs.declared.entry.Event.{Event}
use Rattle.sx_journal.specs.declared.entry.Event.TheVariants.{Scan, Fetch, Switch}
use Rattle.sx_journal.specs.declared.entry.Reply.{Reply}
use Rattle.sx_journal.specs.declared.entry.Reply.TheVariants as reply
use Rattle.sx_values.specs.declared.value.Value.{Value}
use Rattle.sx_model.specs.Effects.{Nothing, Violates, effect}
use Rattle.sx_model.specs.Openings.{Opening}
use Rattle.sx_model.specs.Leaves.{started, phase, phase_after, drains}
use Rattle.sx_model.specs.Logs.{log_of}
use Rattle.sx_model.specs.Copies.{copy}
use Rattle.sx_model.proofs.LegalLaws.{Progress, before, under_way, legal_progress}
use Rattle.sx_model.specs.Scans.{side_table, IsScanTurn}
use Rattle.sx_model.specs.Switches.{position, switch_in, switch_reply}
use Rattle.sx_model.specs.Fetches.{fetch_in, fetch_reply}
use Rattle.sx_model.specs.Legal.{Legal, ScanAnswer}
use Rattle.sx_model.specs.Schedules.{Plan, holds_image, opening_of}
use Rattle.sx_model.proofs.LoadLaws.{loads_fit}
use Rattle.sx_script.specs.Sound.{IsRunnable}
use Rattle.sx_core.specs.Machines.{Machine, Turns}
use Rattle.sx_core.specs.Asked.{IsScanned}
use Rattle.sx_core.specs.Answers.{SeesRows, AreSeen, AreFetched, Attempts, ComesBack}
use Rattle.sx_core.specs.declared.machine.CoreFault.{CoreFault}
use Rattle.sx_core.specs.declared.machine.CoreFault.TheVariants.{Memory, Full}
use Rattle.sx_core.specs.declared.switch.Cause.{Cause}
use Rattle.sx_core.specs.declared.switch.Cause.TheVariants as cause
use Rattle.sx_model.proofs.Outcomes.{Outcome, rests, begins, reads, writes, commits, undoes, aborts, starts, sees, fetches, conflicts, switches, outcome}
use Rattle.sx_core.specs.Stands.{Stands}
use Rattle.sx_core.proofs.FetchLemmas.{own_entry}
use Rattle.sx_core.proofs.StandLaws.{stands_now, stands_refused, stands_scanned, scan_fits, can_follow, stands_fetched, hands_out, stands_hindered}
use Rattle.shiftrun.specs.Holding.{Holds, Held, TakesOn, is_behind, FitsAnswer, LearnsAnswer, LearnsIf, FitsFetch, LearnsFetch, LearnsFetchIf, IsTurned, fault_of}

-- ** a turn of the scan **

turn_of : (o : Opening) (past : List Entry) (n side : ℕ) (lsns : List ℕ) (last : Bool) → ScanAnswer o past n (reply.Scanned side lsns last) → IsScanTurn o past n side lsns last
unfolding ScanAnswer
turn_of o past n side lsns last right = right

rows_of : (m : Machine) (side : ℕ) (lsns : List ℕ) (last : Bool) (seen : List Seen) → AreSeen m (reply.Scanned side lsns last) seen → SeesRows (log_of m.opening m.past) (side_table (started m.past) side) lsns seen
unfolding AreSeen
rows_of m side lsns last seen are = are

-- what is handed out fits the image
pub answer_fits : (old : Machine) (n : ℕ) (answer : Reply) (seen : List Seen) (image : Kind) → Held old (Some image) → ScanAnswer old.opening old.past n answer → AreSeen old answer seen → FitsAnswer answer seen image
unfolding FitsAnswer
answer_fits old n (reply.Scanned side lsns last) seen image held right are =
    scan_fits old.opening old.past n side lsns last seen image held.fit held.legal (turn_of old.opening old.past n side lsns last right) (rows_of old side lsns last seen are) held.holds.1
answer_fits old n other seen image held right are = tt

scanned_phase : (past : List Entry) (n side : ℕ) (lsns : List ℕ) (last : Bool) → phase past ≡ Scanning → holds_image (phase (own_entry (Scan n) (reply.Scanned side lsns last) ∷ past)) ≡ true
unfolding effect
scanned_phase past n side lsns true scanning = refl
scanned_phase past n side lsns false scanning = ap holds_image scanning

quiet_phase : (past : List Entry) (e : Entry) → effect e.reply ≡ Nothing → phase (e ∷ past) ≡ phase past
quiet_phase past e told = ap (λ f. phase_after (started past) f (phase past)) told

-- a machine behind an entry
pub behind : (old new : Machine) (e : Entry) (P : Opening → List Entry → Type 0) → new.opening ≡ old.opening → new.past ≡ e ∷ old.past → P old.opening (e ∷ old.past) → P new.opening new.past
behind old new e P opening entry h = subst (λ o. P o new.past) (sym opening) (subst (P old.opening) (sym entry) h)

-- the last entry of a machine's journal is that of the turn, and legal
pub turned_legal : (old new : Machine) (actor : ℕ) (event : Event) (answer : Reply) → Turns old new actor event answer → Legal old.opening (record { actor = actor; event = event; reply = answer } ∷ old.past)
turned_legal old new actor event answer turn = subst (λ p. Legal old.opening p) turn.entry (subst (λ (o : Opening). Legal o new.past) turn.opening turn.legal)

-- at first none is held
pub held_first : (plan : Plan) (m : Machine) → IsRunnable plan → m ≡ record { opening = opening_of plan; past = [] } → Held m None
held_first plan m runs is = subst (λ (n : Machine). Held n None) (sym is) (record { legal = tt; fit = loads_fit plan.catalog plan.loads runs.loads; holds = refl })

-- whether an image is held is told by the phase
pub held_tells : (m : Machine) (image : Option Kind) → Held m image → is_some image ≡ holds_image (phase m.past)
held_tells m None held = sym held.holds
held_tells m (Some kind) held = sym held.holds.0

-- its position is where the propagator has come to in the log
place_of_image : (catalog : List Declared) (spec : Spec) (copy : Copy) (place : ℕ) (image : Kind) → StandsFor catalog spec copy place image → position_in image ≡ place
place_of_image catalog spec copy place Dead stands = absurd stands
place_of_image catalog spec copy place (Part None) stands = absurd stands
place_of_image catalog spec copy place (Part (Some parts)) stands = stands.position

position_now : (m : Machine) (image : Kind) → Held m (Some image) → IsScanned (phase m.past) → position_in image ≡ position m.opening m.past
position_now m image held scanned = by (legal_progress m.opening m.past held.legal)
  where
    not_idle : (phase_now : Phase) → IsScanned phase_now → phase_now ≡ Idle → ⊥
    not_idle phase_now (inl e) idle = cc
    not_idle phase_now (inr e) idle = cc

    at : (phase m.past ≡ Scanning) ⊎ (phase m.past ≡ Chasing) ⊎ (phase m.past ≡ Draining)
    at = inr scanned

    by : Progress m.opening.catalog (phase m.past) (started m.past) (position m.opening m.past) (length (log_of m.opening m.past)) → position_in image ≡ position m.opening m.past
    by (before idle none) = absurd (not_idle (phase m.past) scanned idle)
    by (under_way u) = place_of_image m.opening.catalog u.s.spec (copy m.opening m.past) (position m.opening m.past) image (stands_now m.opening m.past image u.s u.this at held.holds.1)

pub behind_now : (m : Machine) (image : Option Kind) (kind : Kind) (at end : ℕ) → Held m image → image ≡ Some kind → IsScanned (phase m.past) → at ≡ position_in kind → end ≡ length (log_of m.opening m.past) → nat_lt at end ≡ is_behind m
behind_now m image kind at end held is scanned place long =
    ap (λ n. nat_lt n end) (place ∙ position_now m kind (subst (Held m) is held) scanned) ∙ ap (nat_lt (position m.opening m.past)) long

-- the same where one may be held
pub answer_fits_if : (old : Machine) (n : ℕ) (answer : Reply) (seen : List Seen) (image : Option Kind) → Held old image → ScanAnswer old.opening old.past n answer → AreSeen old answer seen → IfSome image (FitsAnswer answer seen)
answer_fits_if old n answer seen None held right are = tt
answer_fits_if old n answer seen (Some image) held right are = answer_fits old n answer seen image held right are

-- a refusal leaves the image
pub quiet_held : (old new : Machine) (e : Entry) (image : Option Kind) → Held old image → new.opening ≡ old.opening → new.past ≡ e ∷ old.past → effect e.reply ≡ Nothing → Holds new image
quiet_held old new e None held opening entry told = ap (λ l. holds_image (phase l)) entry ∙ ap holds_image (quiet_phase old.past e told) ∙ held.holds
quiet_held old new e (Some image) held opening entry told = (
  ap (λ l. holds_image (phase l)) entry ∙ ap holds_image (quiet_phase old.past e told) ∙ held.holds.0,
  behind old new e (λ o past. Stands o past image) opening entry (stands_refused old.opening old.past e image held.legal told held.holds.1),
)

pub held_by : (old new : Machine) (image : Option Kind) (e : Entry) → Held old image → Legal new.opening new.past → new.opening ≡ old.opening → (next : Option Kind) → Holds new next → Held new next
held_by old new image e held legal opening next holds = record { legal = legal; fit = subst (λ (o : Opening). AllByRecursion (λ (r : Rec). FitsTables (schema_of o.catalog) r.body) o.loads) (sym opening) held.fit; holds = holds }

no_transform : effect reply.NoTransform ≡ Nothing
unfolding effect
no_transform = refl

not_scanned : effect reply.NotScanned ≡ Nothing
unfolding effect
not_scanned = refl

scan_over : effect reply.ScanOver ≡ Nothing
unfolding effect
scan_over = refl

-- what an image learns from a refusal
learns_none : (answer : Reply) (seen : List Seen) (image next : Option Kind) → effect answer ≡ Nothing → LearnsIf answer seen image next → next ≡ image
unfolding LearnsAnswer effect
learns_none (reply.Scanned side lsns last) seen image next told learns = absurd (cc)
learns_none other seen None next told learns = learns
learns_none other seen (Some old) (Some new) told learns = ap Some learns
learns_none other seen (Some old) None told learns = absurd learns

learns_scan : (side : ℕ) (lsns : List ℕ) (last : Bool) (seen : List Seen) (old new : Kind) → LearnsAnswer (reply.Scanned side lsns last) seen old new → Populates side seen old new
unfolding LearnsAnswer
learns_scan side lsns last seen old new learns = learns

scan_holds : (old new : Machine) (n : ℕ) (answer : Reply) (seen : List Seen) (image next : Option Kind) → Held old image → ScanAnswer old.opening old.past n answer → Turns old new 0 (Scan n) answer → AreSeen old answer seen → LearnsIf answer seen image next → Holds new next
unfolding ScanAnswer
scan_holds old new n (reply.Scanned side lsns last) seen None next held right turn are learns = absurd (let scanning : phase old.past ≡ Scanning = right.scanning in let h : true ≡ false = sym (ap holds_image scanning) ∙ held.holds in cc)
scan_holds old new n (reply.Scanned side lsns last) seen (Some image) None held right turn are learns = absurd learns
scan_holds old new n (reply.Scanned side lsns last) seen (Some image) (Some next) held right turn are learns = (
  ap (λ l. holds_image (phase l)) turn.entry ∙ scanned_phase old.past n side lsns last right.scanning,
  behind old new (own_entry (Scan n) (reply.Scanned side lsns last)) (λ o past. Stands o past next) turn.opening turn.entry
      (stands_scanned old.opening old.past n side lsns last seen image next held.legal right (rows_of old side lsns last seen are) (learns_scan side lsns last seen image next learns) held.holds.1),
)
scan_holds old new n reply.NoTransform seen image next held right turn are learns = subst (Holds new) (sym (learns_none reply.NoTransform seen image next no_transform learns)) (quiet_held old new (own_entry (Scan n) reply.NoTransform) image held turn.opening turn.entry no_transform)
scan_holds old new n reply.ScanOver seen image next held right turn are learns = subst (Holds new) (sym (learns_none reply.ScanOver seen image next scan_over learns)) (quiet_held old new (own_entry (Scan n) reply.ScanOver) image held turn.opening turn.entry scan_over)
scan_holds old new n other seen image next held right turn are learns = absurd right

pub scan_held : (old new : Machine) (n : ℕ) (answer : Reply) (seen : List Seen) (image next : Option Kind) → Held old image → ScanAnswer old.opening old.past n answer → Turns old new 0 (Scan n) answer → AreSeen old answer seen → LearnsIf answer seen image next → TakesOn old new next 0 (Scan n)
scan_held old new n answer seen image next held right turn are learns = record {
  reply = answer;
  turn = turn;
  held = held_by old new image (own_entry (Scan n) answer) held turn.legal turn.opening next (scan_holds old new n answer seen image next held right turn are learns);
}

-- ** a fetch **

recs_of : (m : Machine) (from to : ℕ) (recs : List Rec) → AreFetched m (reply.Fetched from to) recs → recs ≡ following (log_of m.opening m.past) from (to - from)
unfolding AreFetched
recs_of m from to recs are = are

pub fetch_fits_if : (old : Machine) (n : ℕ) (answer : Reply) (recs : List Rec) (image : Option Kind) → Held old image → answer ≡ fetch_reply old.opening old.past n → AreFetched old answer recs → IfSome image (FitsFetch answer recs)
unfolding FitsFetch
fetch_fits_if old n answer recs None held right are = tt
fetch_fits_if old n (reply.Fetched from to) recs (Some image) held right are = can_follow old.opening old.past n from to recs image held.fit held.legal right (recs_of old from to recs are) held.holds.1
fetch_fits_if old n other recs (Some image) held right are = tt

fetched_phase : (past : List Entry) (n from to : ℕ) → IsScanned (phase past) → holds_image (phase (own_entry (Fetch n) (reply.Fetched from to) ∷ past)) ≡ true
unfolding effect
fetched_phase past n from to (inl chasing) = ap holds_image chasing
fetched_phase past n from to (inr draining) = ap holds_image draining

unheld : (at : Phase) → IsScanned at → holds_image at ≡ false → ⊥
unheld at (inl e) none = (let h : true ≡ false = sym (ap holds_image e) ∙ none in cc)
unheld at (inr e) none = (let h : true ≡ false = sym (ap holds_image e) ∙ none in cc)

-- an answer to a fetch that hands out nothing
refused_fetch : (o : Opening) (past : List Entry) (n : ℕ) (answer : Reply) → answer ≡ fetch_reply o past n → ((from to : ℕ) → answer ≡ reply.Fetched from to → ⊥) → effect answer ≡ Nothing
refused_fetch o past n answer right other = by (phase past) right
  where
    by : (at : Phase) → answer ≡ fetch_in o past n at → effect answer ≡ Nothing
    by Idle e = ap effect e ∙ no_transform
    by Scanning e = ap effect e ∙ not_scanned
    by Chasing e = absurd (other (position o past) (min (position o past + n) (length (log_of o past))) e)
    by Draining e = absurd (other (position o past) (min (position o past + n) (length (log_of o past))) e)
    by Late e = ap effect e ∙ no_transform
    by Done e = ap effect e ∙ no_transform

learns_follow : (from to : ℕ) (recs : List Rec) (old new : Kind) → LearnsFetch (reply.Fetched from to) recs old new → Follows recs to old new
unfolding LearnsFetch
learns_follow from to recs old new learns = learns

learns_nothing : (answer : Reply) (recs : List Rec) (image next : Option Kind) → ((from to : ℕ) → answer ≡ reply.Fetched from to → ⊥) → LearnsFetchIf answer recs image next → next ≡ image
unfolding LearnsFetch
learns_nothing (reply.Fetched from to) recs image next other learns = absurd (other from to refl)
learns_nothing answer recs None next other learns = learns
learns_nothing answer recs (Some old) (Some new) other learns = ap Some learns
learns_nothing answer recs (Some old) None other learns = absurd learns

fetch_refused : (old new : Machine) (n : ℕ) (answer : Reply) (recs : List Rec) (image next : Option Kind) → Held old image → answer ≡ fetch_reply old.opening old.past n → Turns old new 0 (Fetch n) answer → ((from to : ℕ) → answer ≡ reply.Fetched from to → ⊥) → LearnsFetchIf answer recs image next → Holds new next
fetch_refused old new n answer recs image next held right turn other learns =
    subst (Holds new) (sym (learns_nothing answer recs image next other learns)) (quiet_held old new (own_entry (Fetch n) answer) image held turn.opening turn.entry (refused_fetch old.opening old.past n answer right other))

fetch_holds : (old new : Machine) (n : ℕ) (answer : Reply) (recs : List Rec) (image next : Option Kind) → Held old image → answer ≡ fetch_reply old.opening old.past n → Turns old new 0 (Fetch n) answer → AreFetched old answer recs → LearnsFetchIf answer recs image next → Holds new next
fetch_holds old new n (reply.Fetched from to) recs None next held right turn are learns = absurd (unheld (phase old.past) (hands_out old.opening old.past n from to right).scanned held.holds)
fetch_holds old new n (reply.Fetched from to) recs (Some image) None held right turn are learns = absurd learns
fetch_holds old new n (reply.Fetched from to) recs (Some image) (Some next) held right turn are learns = (
  ap (λ l. holds_image (phase l)) turn.entry ∙ fetched_phase old.past n from to (hands_out old.opening old.past n from to right).scanned,
  behind old new (own_entry (Fetch n) (reply.Fetched from to)) (λ o past. Stands o past next) turn.opening turn.entry
      (stands_fetched old.opening old.past n from to recs image next held.legal right (recs_of old from to recs are) (learns_follow from to recs image next learns) held.holds.1),
)
fetch_holds old new n answer recs image next held right turn are learns = fetch_refused old new n answer recs image next held right turn (λ from to e. cc) learns

pub fetch_held : (old new : Machine) (n : ℕ) (answer : Reply) (recs : List Rec) (image next : Option Kind) → Held old image → answer ≡ fetch_reply old.opening old.past n → Turns old new 0 (Fetch n) answer → AreFetched old answer recs → LearnsFetchIf answer recs image next → TakesOn old new next 0 (Fetch n)
fetch_held old new n answer recs image next held right turn are learns = record {
  reply = answer;
  turn = turn;
  held = held_by old new image (own_entry (Fetch n) answer) held turn.legal turn.opening next (fetch_holds old new n answer recs image next held right turn are learns);
}

-- ** an attempt to switch **

switched_phase : (past : List Entry) (lsn : ℕ) → holds_image (phase (own_entry Switch (reply.Switched lsn) ∷ past)) ≡ false
unfolding effect
switched_phase past lsn = refl

-- behind the switch no image is held
pub switch_held : (old new : Machine) (lsn : ℕ) (image : Option Kind) → Held old image → Turns old new 0 Switch (reply.Switched lsn) → TakesOn old new None 0 Switch
switch_held old new lsn image held turn = record {
  reply = reply.Switched lsn;
  turn = turn;
  held = held_by old new image (own_entry Switch (reply.Switched lsn)) held turn.legal turn.opening None (ap (λ l. holds_image (phase l)) turn.entry ∙ switched_phase old.past lsn);
}

drained_held : (drain : Bool) (at : Phase) → holds_image at ≡ true → holds_image (if drain then Draining else at) ≡ true
drained_held true at holds = refl
drained_held false at holds = holds

hindered_phase : (past : List Entry) (txn : ℕ) → holds_image (phase past) ≡ true → holds_image (phase (own_entry Switch (reply.Conflict txn) ∷ past)) ≡ true
unfolding effect
hindered_phase past txn holds = drained_held (drains (started past)) (phase past) holds

-- a transaction hinders an attempt only where the scan has ended
conflict_scanned : (o : Opening) (past : List Entry) (txn : ℕ) → reply.Conflict txn ≡ switch_reply o past → IsScanned (phase past)
conflict_scanned o past txn right = by (phase past) refl right
  where
    by : (at : Phase) → phase past ≡ at → reply.Conflict txn ≡ switch_in o past at → IsScanned (phase past)
    by Idle is e = absurd (cc)
    by Scanning is e = absurd (cc)
    by Chasing is e = inl is
    by Draining is e = inr is
    by Late is e = absurd (cc)
    by Done is e = absurd (cc)

violates : (first second : List Value) → effect (reply.Violated first second) ≡ Violates
unfolding effect
violates first second = refl

-- no horizontal split is violated
never_violated : (o : Opening) (past : List Entry) (first second : List Value) → Legal o (own_entry Switch (reply.Violated first second) ∷ past) → ⊥
never_violated o past first second legal = by (outcome o past (own_entry Switch (reply.Violated first second)) legal)
  where
    told : effect (reply.Violated first second) ≡ Violates
    told = violates first second

    by : Outcome o past (own_entry Switch (reply.Violated first second)) → ⊥
    by (rests t) = (let e : Violates ≡ Nothing = sym told ∙ t in cc)
    by (begins b) = (let t = b.told in let e = sym told ∙ t in cc)
    by (reads r) = (let t = r.told in let e = sym told ∙ t in cc)
    by (writes w) = (let t = w.told in let e = sym told ∙ t in cc)
    by (commits c) = (let t = c.told in let e = sym told ∙ t in cc)
    by (undoes u) = (let t = u.told in let e = sym told ∙ t in cc)
    by (aborts a) = (let t = a.told in let e = sym told ∙ t in cc)
    by (starts s) = (let t = s.told in let e = sym told ∙ t in cc)
    by (sees s) = (let t = s.told in let e = sym told ∙ t in cc)
    by (fetches f) = (let t = f.told in let e = sym told ∙ t in cc)
    by (conflicts a t) = (let e = sym told ∙ t in cc)
    by (switches w) = (let t = w.told in let e = sym told ∙ t in cc)

back_on : (old new : Machine) (image back : Kind) (answer : Reply) → Held old (Some image) → Attempts old new answer → back ≡ image → Holds new (Some image) → TakesOn old new (Some back) 0 Switch
back_on old new image back answer held attempts same holds = record {
  reply = answer;
  turn = attempts.turns;
  held = held_by old new (Some image) (own_entry Switch answer) held attempts.turns.legal attempts.turns.opening (Some back) (subst (λ k. Holds new (Some k)) (sym same) holds);
}

unread : (pos end : ℕ) → effect (reply.Unread pos end) ≡ Nothing
unfolding effect
unread pos end = refl

-- an attempt that is refused
pub back_held : (old new : Machine) (image back : Kind) (why : Cause) → Held old (Some image) → ComesBack old new image back why → fault_of why ≡ None → TakesOn old new (Some back) 0 Switch
back_held old new image back cause.Memory held comes none = absurd (cc)
back_held old new image back cause.Full held comes none = absurd (cc)
back_held old new image back (cause.Worn turns) held comes none = absurd comes
back_held old new image back cause.NoTransform held comes none =
    back_on old new image back reply.NoTransform held comes.0 comes.1 (quiet_held old new (own_entry Switch reply.NoTransform) (Some image) held comes.0.turns.opening comes.0.turns.entry no_transform)
back_held old new image back cause.NotScanned held comes none =
    back_on old new image back reply.NotScanned held comes.0 comes.1 (quiet_held old new (own_entry Switch reply.NotScanned) (Some image) held comes.0.turns.opening comes.0.turns.entry not_scanned)
back_held old new image back (cause.Unread pos end) held comes none =
    back_on old new image back (reply.Unread pos end) held comes.0 comes.1 (quiet_held old new (own_entry Switch (reply.Unread pos end)) (Some image) held comes.0.turns.opening comes.0.turns.entry (unread pos end))
back_held old new image back (cause.Conflict txn) held comes none =
    back_on old new image back (reply.Conflict txn) held comes.0 comes.1 (
      ap (λ l. holds_image (phase l)) comes.0.turns.entry ∙ hindered_phase old.past txn held.holds.0,
      behind old new (own_entry Switch (reply.Conflict txn)) (λ o past. Stands o past image) comes.0.turns.opening comes.0.turns.entry (stands_hindered old.opening old.past txn image held.legal (conflict_scanned old.opening old.past txn comes.0.right) held.holds.1),
    )
back_held old new image back (cause.Violated first second) held comes none =
    absurd (never_violated old.opening old.past first second (subst (λ l. Legal old.opening l) comes.0.turns.entry (subst (λ (o : Opening). Legal o new.past) comes.0.turns.opening comes.0.turns.legal)))

-- one that is no turn
pub back_failed : (old new : Machine) (image back : Kind) (why : Cause) (fault : CoreFault) (next : Option Kind) → ComesBack old new image back why → fault_of why ≡ Some fault → IsTurned old new next 0 Switch (Err fault)
back_failed old new image back cause.Memory fault next comes is = subst (λ (f : CoreFault). IsTurned old new next 0 Switch (Err f)) (let e : Some Memory ≡ Some fault = is in let h : Memory ≡ fault = cc in h) tt
back_failed old new image back cause.Full fault next comes is = subst (λ (f : CoreFault). IsTurned old new next 0 Switch (Err f)) (let e : Some Full ≡ Some fault = is in let h : Full ≡ fault = cc in h) (comes.0, comes.2)
back_failed old new image back (cause.Worn turns) fault next comes is = absurd comes
back_failed old new image back cause.NoTransform fault next comes is = absurd (cc)
back_failed old new image back cause.NotScanned fault next comes is = absurd (cc)
back_failed old new image back (cause.Unread pos end) fault next comes is = absurd (cc)
back_failed old new image back (cause.Conflict txn) fault next comes is = absurd (cc)
back_failed old new image back (cause.Violated first second) fault next comes is = absurd (cc)
