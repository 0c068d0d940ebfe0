-- The propagator's turns that leave the log: what they keep, and what a fetch hands out.
use Rattle.std.proofs.Common.{◌≡◌, ◌≤◌, ◌<◌, ◌+◌, ◌-◌, ◌++◌, ◌∷◌, [], ℕ, List, length, map, min, option_map, Option, refl, sym, ◌∙◌, ap, subst, arith, inl, inr}
use Rattle.std.proofs.lemmas.Bool.Decides.{nat_tests}
use Rattle.std.proofs.Math.Nat.{le-min}
use Rattle.sx_lists.specs.Places.{following}
use Rattle.sx_values.specs.declared.value.Value.{Value}
use Rattle.sx_values.specs.declared.catalog.Declared.{Declared}
use Rattle.sx_log.specs.declared.record.Rec.{Rec}
use Rattle.sx_txn.specs.Managed.{Unchanged}
use Rattle.sx_sync.specs.declared.Phase.{Phase}
use Rattle.sx_sync.specs.declared.Phase.TheVariants.{Idle, Done}
use Rattle.sx_journal.specs.declared.entry.Entry.{Entry}
use Rattle.sx_journal.specs.declared.entry.Event.{Event}
use Rattle.sx_journal.specs.declared.entry.Event.TheVariants.{Fetch}
use Rattle.sx_journal.specs.declared.entry.Reply.{Reply}
use Rattle.sx_journal.specs.declared.entry.Reply.TheVariants as reply
use Rattle.sx_model.specs.Effects.{Effect, Nothing, Fetches, effect}
use Rattle.sx_model.specs.Openings.{Opening}
use Rattle.sx_model.specs.Leaves.{Started, phase, started}
use Rattle.sx_model.specs.Logs.{log_of}
use Rattle.sx_model.specs.Known.{adopted, new_tables, named_in, known}
use Rattle.sx_model.specs.Switches.{position, position_after}
use Rattle.sx_model.specs.Fetches.{fetched, fetch_in, fetch_reply}
use Rattle.sx_model.specs.Legal.{Legal, Allows, IsLegalEntry, HasRoom}
use Rattle.sx_model.proofs.EntryLaws.{living_by}
use Rattle.sx_model.proofs.LegalLaws.{Progress, before, under_way, legal_progress}
use Rattle.sx_core.specs.Machines.{Machine}
use Rattle.sx_core.specs.Kept.{Fields, ScanMeets, IsKept, shown_in, shown_now}
use Rattle.sx_core.specs.Asked.{AsksUpTo, IsScanned}
use Rattle.sx_core.specs.Answers.{AreFetched}
use Rattle.sx_core.proofs.ManagerLemmas.{IsSteady, IsQuiet, meets-quiet, quiet-fetches}
use Rattle.sx_core.proofs.ClientLemmas.{Beside, place_here, leaves-quiet, kept-client}
use Rattle.sx_core.proofs.TurnLemmas.{unchanged, Holds, from_view, no_longer, Took, took, opened, phase_by, started_told}

-- an entry of the propagator
abbrev pub own_entry : Event → Reply → Entry
own_entry event answer = record { actor = 0; event = event; reply = answer }

-- what a turn that leaves the log leaves of the fields
pub record OwnLeaves (o : Opening) (past : List Entry) (f g : Fields) (e : Entry) : Type 0 where
  pub managed : Unchanged f.managed g.managed
  pub clients : g.clients ≡ f.clients
  pub room : length g.clients ≤ g.spare
  pub knows : g.known ≡ f.known
  pub spec : g.spec ≡ f.spec
  pub now : g.now ≡ phase (e ∷ past)
  pub place : g.position ≡ position o (e ∷ past)
  pub scan : ScanMeets o (e ∷ past) g.cursor (phase (e ∷ past)) (started (e ∷ past))
  pub start : started (e ∷ past) ≡ started past
  pub shown : shown_now o (e ∷ past) ≡ shown_now o past
  pub named : known o (e ∷ past) ≡ known o past
  pub timely : phase (e ∷ past) ≡ Done → phase past ≡ Done

-- the machine keeps what it kept, behind the propagator's entry
pub kept-own : (o : Opening) (past : List Entry) (f g : Fields) (e : Entry) (does : Effect) → IsKept o past f → IsLegalEntry o past e → IsQuiet o past e does → OwnLeaves o past f g e → IsKept o (e ∷ past) g
kept-own o past f g e does kept entry quiet leaves =
    let steady : IsSteady o past e = record { opened = kept.opened; loads = kept.loads_fit; legal = (kept.legal, entry); shown = leaves.shown; timely = leaves.timely } in
    record {
      opened = kept.opened;
      loads_fit = kept.loads_fit;
      legal = (kept.legal, entry);
      manager_meets = meets-quiet o past f.managed g.managed e does steady kept.manager_meets leaves.managed quiet;
      clients_are = leaves.clients ∙ kept.clients_are ∙ sym (living_by past e does quiet.told ∙ quiet.lives);
      room = leaves.room;
      phase_is = leaves.now;
      known_is = leaves.knows ∙ kept.known_is ∙ sym leaves.named;
      spec_is = leaves.spec ∙ kept.spec_is ∙ ap (option_map (λ (s : Started). s.spec)) (sym leaves.start);
      position_is = leaves.place;
      scan_meets = leaves.scan;
    }

-- ** a turn that is refused **

pub refused_took : (catalog : List Declared) (loads : ℕ) (past journal : List Entry) (f g : Fields) (m : Machine) (event : Event) (answer : Reply)
    → Holds catalog loads past f m → IsLegalEntry (opened catalog loads f.managed.log) past (own_entry event answer) → effect answer ≡ Nothing
    → Unchanged f.managed g.managed → g.clients ≡ f.clients → Beside f g → journal ≡ own_entry event answer ∷ past
    → Took catalog loads journal g m 0 event answer
refused_took catalog loads past journal f g m event answer holds entry quiet stays clients beside is =
    let kept = kept-client (opened catalog loads f.managed.log) past f g (own_entry event answer) holds.kept entry (leaves-quiet (opened catalog loads f.managed.log) past f g (own_entry event answer) holds.kept stays clients quiet) beside in
    took catalog loads past journal f g m 0 event answer holds (no_longer stays.log) is (subst (λ j. IsKept (opened catalog loads f.managed.log) j g) (sym is) kept)

-- ** a fetch **

legal-fetch : (o : Opening) (past : List Entry) (n : ℕ) (answer : Reply) → HasRoom past answer → 1 ≤ n → n ≤ 256 → answer ≡ fetch_reply o past n → IsLegalEntry o past (own_entry (Fetch n) answer)
unfolding Allows
legal-fetch o past n answer room some few answered = record { room = room; allowed = record { propagator = refl; some = some; few = few; answered = answered } }

pub fetch_refused : (catalog : List Declared) (loads : ℕ) (past journal : List Entry) (f g : Fields) (m : Machine) (n : ℕ) (answer : Reply)
    → Holds catalog loads past f m → AsksUpTo m 256 n → fetch_reply m.opening m.past n ≡ answer → effect answer ≡ Nothing
    → Unchanged f.managed g.managed → g.clients ≡ f.clients → Beside f g → journal ≡ own_entry (Fetch n) answer ∷ past
    → Took catalog loads journal g m 0 (Fetch n) answer
fetch_refused catalog loads past journal f g m n answer holds asks answered quiet stays clients beside is =
    let told = from_view (λ (x : Machine). fetch_reply x.opening x.past n ≡ answer) (opened catalog loads f.managed.log) past m holds.view answered in
    let entry = legal-fetch (opened catalog loads f.managed.log) past n answer (place_here catalog loads past f m answer holds asks.place) asks.some asks.few (sym told) in
    refused_took catalog loads past journal f g m (Fetch n) answer holds entry quiet stays clients beside is

-- a refusal hands out nothing
pub none_fetched : (m : Machine) (answer : Reply) (recs : List Rec) → effect answer ≡ Nothing → recs ≡ [] → AreFetched m answer recs
unfolding AreFetched effect
none_fetched m (reply.Fetched from to) recs quiet none = absurd (cc)
none_fetched m other recs quiet none = none

pub effect-fetched : (from to : ℕ) → effect (reply.Fetched from to) ≡ Fetches to
unfolding effect
effect-fetched from to = refl

pub effect-not_scanned : effect reply.NotScanned ≡ Nothing
unfolding effect
effect-not_scanned = refl

pub effect-no_transform : effect reply.NoTransform ≡ Nothing
unfolding effect
effect-no_transform = refl

pub effect-scan_over : effect reply.ScanOver ≡ Nothing
unfolding effect
effect-scan_over = refl

-- what is handed out where the scan has ended
fetch-answered : (o : Opening) (past : List Entry) (n : ℕ) → IsScanned (phase past) → fetch_reply o past n ≡ fetched (position o past) (length (log_of o past)) n
fetch-answered o past n (inl chasing) = ap (fetch_in o past n) chasing
fetch-answered o past n (inr draining) = ap (fetch_in o past n) draining

-- the log was read no further than it is long
read_within : (o : Opening) (past : List Entry) → Legal o past → IsScanned (phase past) → position o past ≤ length (log_of o past)
read_within o past legal scanned = by (legal_progress o past legal)
  where
    busy : IsScanned (phase past) → phase past ≡ Idle → ⊥
    busy (inl e) idle = cc
    busy (inr e) idle = cc

    by : Progress o.catalog (phase past) (started past) (position o past) (length (log_of o past)) → position o past ≤ length (log_of o past)
    by (before idle none) = absurd (busy scanned idle)
    by (under_way u) = u.read

pub scanned_here : (catalog : List Declared) (loads : ℕ) (past : List Entry) (f : Fields) (m : Machine) → Holds catalog loads past f m → IsScanned (phase m.past) → IsScanned (phase past)
scanned_here catalog loads past f m holds scanned = from_view (λ (x : Machine). IsScanned (phase x.past)) (opened catalog loads f.managed.log) past m holds.view scanned

pub read_there : (catalog : List Declared) (loads : ℕ) (past : List Entry) (f : Fields) (m : Machine) → Holds catalog loads past f m → IsScanned (phase m.past) → f.position ≤ length f.managed.log
read_there catalog loads past f m holds scanned =
    let read = read_within (opened catalog loads f.managed.log) past holds.kept.legal (scanned_here catalog loads past f m holds scanned) in
    let place = holds.kept.position_is in
    let long = ap length holds.kept.manager_meets.log_is in
    omega arith

-- the end of what is handed out, as it's counted
pub up_to : (from n sum end to : ℕ) → sum ≡ min (from + n) 18446744073709551615 → end < 18446744073709551616 → to ≡ min sum end → to ≡ min (from + n) end
up_to from n sum end to sums few is = grind (arith, nat_tests)

pub to_behind : (from n end long to : ℕ) → to ≡ min (from + n) end → end ≡ long → from ≤ long → from ≤ to
to_behind from n end long to is ends read = let l = le-min {k = from} {a = from + n} {b = end} (omega arith) (omega arith) in omega arith

-- nothing is kept of a scan that has ended
ended : (o : Opening) (past : List Entry) (cursor : Option (List Value)) (at : Phase) (s : Option Started) → IsScanned at → ScanMeets o past cursor at s
ended o past cursor at s (inl chasing) = rw chasing tt
ended o past cursor at s (inr draining) = rw draining tt

-- the fields behind a fetch
abbrev pub handed_fields : Fields → ℕ → ℕ → Fields
handed_fields f spare to = record { managed = f.managed; spare = spare; clients = f.clients; known = f.known; now = f.now; spec = f.spec; cursor = f.cursor; position = to }

handed_leaves : (o : Opening) (past : List Entry) (f : Fields) (e : Entry) (spare to : ℕ) → IsKept o past f → IsScanned (phase past) → effect e.reply ≡ Fetches to → length f.clients ≤ spare → OwnLeaves o past f (handed_fields f spare to) e
handed_leaves o past f e spare to kept scanned told room =
    let at : phase (e ∷ past) ≡ phase past = phase_by past e (Fetches to) told in
    let is : started (e ∷ past) ≡ started past = started_told past e (Fetches to) told in
    record {
      managed = unchanged f.managed;
      clients = refl;
      room = room;
      knows = refl;
      spec = refl;
      now = kept.phase_is ∙ sym at;
      place = sym (ap (λ does. position_after (length (log_of o (e ∷ past))) does (position o past)) told);
      scan = ended o (e ∷ past) f.cursor (phase (e ∷ past)) (started (e ∷ past)) (subst IsScanned (sym at) scanned);
      start = is;
      shown = same_shown o past e at is;
      named = same_known o past e at is;
      timely = λ done. sym at ∙ done;
    }
  where
    same_shown : (o : Opening) (past : List Entry) (e : Entry) → phase (e ∷ past) ≡ phase past → started (e ∷ past) ≡ started past → shown_now o (e ∷ past) ≡ shown_now o past
    same_shown o past e at is = ap (λ p. map adopted (shown_in p (new_tables o.catalog (started (e ∷ past))))) at ∙ ap (λ s. map adopted (shown_in (phase past) (new_tables o.catalog s))) is

    same_known : (o : Opening) (past : List Entry) (e : Entry) → phase (e ∷ past) ≡ phase past → started (e ∷ past) ≡ started past → known o (e ∷ past) ≡ known o past
    same_known o past e at is = ap (λ p. o.catalog ++ map adopted (named_in p (new_tables o.catalog (started (e ∷ past))))) at ∙ ap (λ s. o.catalog ++ map adopted (named_in (phase past) (new_tables o.catalog s))) is

-- records are handed out
pub handed_took : (catalog : List Declared) (loads : ℕ) (past journal : List Entry) (f : Fields) (m : Machine) (n spare to : ℕ)
    → Holds catalog loads past f m → AsksUpTo m 256 n → IsScanned (phase m.past) → to ≡ min (f.position + n) (length f.managed.log) → length f.clients ≤ spare → journal ≡ own_entry (Fetch n) (reply.Fetched f.position to) ∷ past
    → Took catalog loads journal (handed_fields f spare to) m 0 (Fetch n) (reply.Fetched f.position to)
handed_took catalog loads past journal f m n spare to holds asks scanned up_to room is =
    let at = scanned_here catalog loads past f m holds scanned in
    let answered : reply.Fetched f.position to ≡ fetch_reply (opened catalog loads f.managed.log) past n =
    ap (reply.Fetched f.position) up_to
    ∙ ap (λ log. fetched f.position (length log) n) holds.kept.manager_meets.log_is
    ∙ ap (λ p. fetched p (length (log_of (opened catalog loads f.managed.log) past)) n) holds.kept.position_is
    ∙ sym (fetch-answered (opened catalog loads f.managed.log) past n at) in
    let entry = legal-fetch (opened catalog loads f.managed.log) past n (reply.Fetched f.position to) (place_here catalog loads past f m (reply.Fetched f.position to) holds asks.place) asks.some asks.few answered in
    let told = effect-fetched f.position to in
    let kept = kept-own (opened catalog loads f.managed.log) past f (handed_fields f spare to) (own_entry (Fetch n) (reply.Fetched f.position to)) (Fetches to) holds.kept entry
    (quiet-fetches (opened catalog loads f.managed.log) past (own_entry (Fetch n) (reply.Fetched f.position to)) to told)
    (handed_leaves (opened catalog loads f.managed.log) past f (own_entry (Fetch n) (reply.Fetched f.position to)) spare to holds.kept at told room) in
    took catalog loads past journal f (handed_fields f spare to) m 0 (Fetch n) (reply.Fetched f.position to) holds (no_longer refl) is
    (subst (λ j. IsKept (opened catalog loads f.managed.log) j (handed_fields f spare to)) (sym is) kept)

-- these are the records that the answer names
pub handed : (catalog : List Declared) (loads : ℕ) (past : List Entry) (f : Fields) (m : Machine) (from to : ℕ) (recs log : List Rec)
    → Holds catalog loads past f m → log ≡ f.managed.log → recs ≡ following log from (to - from) → AreFetched m (reply.Fetched from to) recs
unfolding AreFetched
handed catalog loads past f m from to recs log holds is taken =
    taken ∙ ap (λ l. following l from (to - from)) (is ∙ holds.kept.manager_meets.log_is ∙ ap (λ (x : Machine). log_of x.opening x.past) holds.view)
