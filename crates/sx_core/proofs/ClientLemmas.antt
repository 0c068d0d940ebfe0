-- A client's turn, outcome by outcome: from what the manager answers to what the fields keep.
use Rattle.std.specs.Option.{option_to_list}
use Rattle.std.proofs.lemmas.List.{append-nil}
use Rattle.sx_values.specs.declared.schema.BadRow.{BadRow}
use Rattle.std.proofs.Common.{◌≡◌, ◌≤◌, ◌+◌, ◌++◌, ◌⊎◌, ◌∷◌, [], ℕ, Bool, false, List, length, map, option_map, Option, Some, None, refl, sym, ◌∙◌, ap, subst, inl, inr, IsSome}
use Rattle.sx_values.specs.declared.value.Value.{Value}
use Rattle.sx_values.specs.declared.catalog.Declared.{Declared}
use Rattle.sx_values.specs.Layouts.{Layout, key_fault}
use Rattle.sx_values.specs.Names.{same_name}
use Rattle.sx_values.specs.Catalogs.{schema_of}
use Rattle.sx_log.specs.declared.record.Rec.{Rec}
use Rattle.sx_log.specs.declared.record.Body.TheVariants.{Write, Commit, Abort}
use Rattle.sx_log.specs.Undoing.{Rows, writes_left, undo_last}
use Rattle.sx_locks.specs.declared.mode.Mode.TheVariants.{Shared, Exclusive}
use Rattle.sx_txn.specs.declared.answers.Change.{Change}
use Rattle.sx_txn.specs.declared.answers.Change.TheVariants.{Insert, Replace, Delete}
use Rattle.sx_txn.specs.declared.answers.TxnRead.{TxnRead}
use Rattle.sx_txn.specs.declared.answers.TxnRead.TheVariants as read
use Rattle.sx_txn.specs.declared.answers.TxnWrite.{TxnWrite}
use Rattle.sx_txn.specs.declared.answers.TxnWrite.TheVariants as write
use Rattle.sx_txn.specs.Managed.{Managed, Unchanged, schema_in, row_now as has_now}
use Rattle.sx_txn.specs.Turns.{Begins as ManagerBegins, Reads as ManagerReads, Writes as ManagerWrites, Ends, Undoes as ManagerUndoes, Hinders, CanChange, FitsSchema, key_of_change, image_of, CanUndoLast}
use Rattle.sx_txn.specs.Answers.{AnswersRead, AnswersWrite, AnswersAt, Refuses, Makes, Aborts as ManagerAborts, refusal}
use Rattle.sx_sync.specs.declared.Phase.{Phase}
use Rattle.sx_sync.specs.declared.Phase.TheVariants.{Idle, Scanning, Chasing, Draining, Late, Done}
use Rattle.sx_journal.specs.declared.entry.Event.{Event}
use Rattle.sx_journal.specs.declared.entry.Entry.{Entry}
use Rattle.sx_journal.specs.declared.entry.Event.TheVariants.{Client}
use Rattle.sx_journal.specs.declared.entry.Request.{Request}
use Rattle.sx_journal.specs.declared.entry.Request.TheVariants as request
use Rattle.sx_journal.specs.declared.entry.Reply.{Reply}
use Rattle.sx_journal.specs.declared.entry.Reply.TheVariants as reply
use Rattle.sx_model.specs.Effects.{Effect, effect, Nothing, Reads, Begins, Writes, Undoes, Commits, Aborts, Starts, Sees, Fetches, Checks, Conflicts, Violates, Switches, Cancels}
use Rattle.sx_model.specs.Openings.{Opening}
use Rattle.sx_model.specs.Leaves.{Started, living, without, phase, phase_after, started, started_by, txn_of, txn_among, begun}
use Rattle.sx_model.specs.Known.{adopted, new_tables, named_in, known}
use Rattle.sx_model.specs.NewRows.{row_in}
use Rattle.sx_model.specs.Closed.{closed}
use Rattle.sx_model.specs.Scans.{seen, seen_after, IsNextSide, next_side_after}
use Rattle.sx_model.specs.Cursors.{IsWalked}
use Rattle.sx_model.specs.Switches.{position, position_after}
use Rattle.sx_model.specs.Logs.{log_of, next_lsn, row_now, entry_record}
use Rattle.sx_model.specs.Held.{is_ending, holder}
use Rattle.sx_model.specs.Replies.{client_reply, unless_held, read_answer}
use Rattle.sx_model.specs.Legal.{Allows, IsLegalEntry, HasRoom}
use Rattle.sx_model.proofs.TestLaws.{by_cases}
use Rattle.sx_model.proofs.EntryLaws.{living_by}
use Rattle.sx_model.proofs.LegalLaws.{never_late}
use Rattle.sx_model.proofs.KnownLaws.{open_schema}
use Rattle.sx_model.proofs.FitLaws.{is_done}
use Rattle.sx_model.proofs.CursorLaws.{walked_grows}
use Rattle.sx_core.specs.Machines.{Machine}
use Rattle.sx_core.specs.Kept.{Fields, ManagerMeets, ScanMeets, IsKept, shapes_of, shown_in, shown_now, is_behind}
use Rattle.sx_core.specs.Asked.{Comes, HasPlace, IsInside, asked_for}
use Rattle.sx_core.specs.Refusals.{change_fault, read_told, write_told}
use Rattle.sx_core.proofs.LivingLemmas.{one_fewer}
use Rattle.sx_core.proofs.HolderLemmas.{holder-named, holder-none}
use Rattle.sx_core.proofs.ManagerLemmas.{IsSteady, row-there, undo-made, quiet-nothing, meets-quiet, meets-begun, meets-read, meets-written, meets-ended, meets-undone, commit_ends, abort_ends}
use Rattle.sx_core.proofs.ReplyLemmas.{begin-answered, undone-answered, aborted-answered, commit-answered, read-answered, change-answered, IsGood, change_told, told-done, told-exists, told-missing, change-key, read-key, change-record, effect-row, effect-absent, effect-begun, effect-done, effect-committed, effect-undone, effect-aborted, quiet-held, quiet-exists, quiet-missing, committed-true}
use Rattle.sx_core.proofs.TurnLemmas.{Holds, from_view, Longer, no_longer, by_one, Took, took, opened, phase_by, started_told, next_there}

-- the entry of a client's request with its answer
abbrev pub client_entry : ℕ → Request → Reply → Entry
client_entry actor asked answer = record { actor = actor; event = Client asked; reply = answer }

-- the effects of clients: they leave the transformation as it is
abbrev pub LeavesIt : Effect → Type 0
LeavesIt Nothing = Unit {0}
LeavesIt Reads = Unit {0}
LeavesIt (Begins txn) = Unit {0}
LeavesIt Writes = Unit {0}
LeavesIt Undoes = Unit {0}
LeavesIt Commits = Unit {0}
LeavesIt Aborts = Unit {0}
LeavesIt (Starts mark) = ⊥
LeavesIt (Sees lsns last) = ⊥
LeavesIt (Fetches place) = ⊥
LeavesIt Checks = ⊥
LeavesIt Conflicts = ⊥
LeavesIt Violates = ⊥
LeavesIt Switches = ⊥
LeavesIt Cancels = ⊥

-- an entry with such an effect
pub record IsLeft (e : Entry) : Type 0 where
  pub f : Effect
  pub told : effect e.reply ≡ f
  pub left : LeavesIt f

phase-left : (s : Option Started) (f : Effect) (at : Phase) → LeavesIt f → phase_after s f at ≡ at
phase-left s Nothing at left = refl
phase-left s Reads at left = refl
phase-left s (Begins txn) at left = refl
phase-left s Writes at left = refl
phase-left s Undoes at left = refl
phase-left s Commits at left = refl
phase-left s Aborts at left = refl
phase-left s (Starts mark) at left = absurd left
phase-left s (Sees lsns last) at left = absurd left
phase-left s (Fetches place) at left = absurd left
phase-left s Checks at left = absurd left
phase-left s Conflicts at left = absurd left
phase-left s Violates at left = absurd left
phase-left s Switches at left = absurd left
phase-left s Cancels at left = absurd left

started-left : (asked : Event) (f : Effect) (s : Option Started) → LeavesIt f → started_by asked f s ≡ s
started-left asked Nothing s left = refl
started-left asked Reads s left = refl
started-left asked (Begins txn) s left = refl
started-left asked Writes s left = refl
started-left asked Undoes s left = refl
started-left asked Commits s left = refl
started-left asked Aborts s left = refl
started-left asked (Starts mark) s left = absurd left
started-left asked (Sees lsns last) s left = absurd left
started-left asked (Fetches place) s left = absurd left
started-left asked Checks s left = absurd left
started-left asked Conflicts s left = absurd left
started-left asked Violates s left = absurd left
started-left asked Switches s left = absurd left
started-left asked Cancels s left = absurd left

seen-left : (f : Effect) (seen_before : List ℕ) → LeavesIt f → seen_after f seen_before ≡ seen_before
seen-left Nothing seen_before left = refl
seen-left Reads seen_before left = refl
seen-left (Begins txn) seen_before left = refl
seen-left Writes seen_before left = refl
seen-left Undoes seen_before left = refl
seen-left Commits seen_before left = refl
seen-left Aborts seen_before left = refl
seen-left (Starts mark) seen_before left = absurd left
seen-left (Sees lsns last) seen_before left = absurd left
seen-left (Fetches place) seen_before left = absurd left
seen-left Checks seen_before left = absurd left
seen-left Conflicts seen_before left = absurd left
seen-left Violates seen_before left = absurd left
seen-left Switches seen_before left = absurd left
seen-left Cancels seen_before left = absurd left

position-left : (end : ℕ) (f : Effect) (place : ℕ) → LeavesIt f → position_after end f place ≡ place
position-left end Nothing place left = refl
position-left end Reads place left = refl
position-left end (Begins txn) place left = refl
position-left end Writes place left = refl
position-left end Undoes place left = refl
position-left end Commits place left = refl
position-left end Aborts place left = refl
position-left end (Starts mark) place left = absurd left
position-left end (Sees lsns last) place left = absurd left
position-left end (Fetches at) place left = absurd left
position-left end Checks place left = absurd left
position-left end Conflicts place left = absurd left
position-left end Violates place left = absurd left
position-left end Switches place left = absurd left
position-left end Cancels place left = absurd left

pub phase_left : (past : List Entry) (e : Entry) → IsLeft e → phase (e ∷ past) ≡ phase past
phase_left past e is = phase_by past e is.f is.told ∙ phase-left (started past) is.f (phase past) is.left

pub started_left : (past : List Entry) (e : Entry) → IsLeft e → started (e ∷ past) ≡ started past
started_left past e is = started_told past e is.f is.told ∙ started-left e.event is.f (started past) is.left

seen_left : (past : List Entry) (e : Entry) → IsLeft e → seen (e ∷ past) ≡ seen past
seen_left past e is = ap (λ f. seen_after f (seen past)) is.told ∙ seen-left is.f (seen past) is.left

pub position_left : (o : Opening) (past : List Entry) (e : Entry) → IsLeft e → position o (e ∷ past) ≡ position o past
position_left o past e is = ap (λ f. position_after (length (log_of o (e ∷ past))) f (position o past)) is.told ∙ position-left (length (log_of o (e ∷ past))) is.f (position o past) is.left

-- ** a scan under way **

-- the next side stays
side-left : (log : List Rec) (s : Option Started) (lsns : List ℕ) (asked : Event) (answer : Reply) (next : ℕ) (earlier : Type 0) → LeavesIt (effect answer) → next_side_after log s lsns asked answer next earlier ≡ earlier
unfolding effect next_side_after
side-left log s lsns asked (reply.Started lsn) next earlier left = absurd left
side-left log s lsns asked (reply.Scanned side turn last) next earlier left = absurd left
side-left log s lsns asked other next earlier left = refl

more_walked : (item : Option Rec) (log : List Rec) (mark : ℕ) (lsns table : List ℕ) (behind : List Value → Bool) → IsWalked log mark lsns table behind → IsWalked (option_to_list item ++ log) mark lsns table behind
more_walked None log mark lsns table behind walked = walked
more_walked (Some r) log mark lsns table behind walked = walked_grows r log mark lsns table behind walked

-- what a client's turn leaves of the fields
pub record ClientLeaves (o : Opening) (past : List Entry) (f g : Fields) (e : Entry) : Type 0 where
  pub manager : IsSteady o past e → ManagerMeets o (e ∷ past) g.managed
  pub clients : g.clients ≡ living (e ∷ past)
  pub left : IsLeft e

-- the fields that no client's turn touches, and the room that there is for the end of each live transaction
pub record Beside (f g : Fields) : Type 0 where
  pub known : g.known ≡ f.known
  pub now : g.now ≡ f.now
  pub spec : g.spec ≡ f.spec
  pub cursor : g.cursor ≡ f.cursor
  pub position : g.position ≡ f.position
  pub room : length g.clients ≤ g.spare

legal-client : (o : Opening) (past : List Entry) (actor : ℕ) (asked : Request) (answer : Reply) → 1 ≤ actor → actor ≤ 8 → HasRoom past answer → answer ≡ client_reply o past actor asked
    → IsLegalEntry o past (client_entry actor asked answer)
unfolding Allows
legal-client o past actor asked answer from_one to_eight room answered =
    record { room = room; allowed = record { from_one = from_one; to_eight = to_eight; answered = answered } }

-- a client's entry shows no new tables
pub steady_left : (o : Opening) (past : List Entry) (f : Fields) (e : Entry) → IsKept o past f → IsLegalEntry o past e → IsLeft e → IsSteady o past e
steady_left o past f e kept entry is = record {
  opened = kept.opened;
  loads = kept.loads_fit;
  legal = (kept.legal, entry);
  shown = ap (λ at. map adopted (shown_in at (new_tables o.catalog (started (e ∷ past))))) (phase_left past e is) ∙ ap (λ s. map adopted (shown_in (phase past) (new_tables o.catalog s))) (started_left past e is);
  timely = λ done. sym (phase_left past e is) ∙ done;
}

scan_left : (o : Opening) (past : List Entry) (e : Entry) (cursor : Option (List Value)) (at : Phase) (s : Option Started) → IsLeft e → ScanMeets o past cursor at s → ScanMeets o (e ∷ past) cursor at s
scan_left o past e cursor Scanning (Some s) is scan = record {
  next_side = subst (λ (side : Type 0). side) (sym (side-left (log_of o (e ∷ past)) (started (e ∷ past)) (seen (e ∷ past)) e.event e.reply 0 (IsNextSide o past 0) (subst LeavesIt (sym is.told) is.left))) scan.next_side;
  walked = λ name only. subst (λ lsns. IsWalked (log_of o (e ∷ past)) s.mark lsns name (is_behind cursor)) (sym (seen_left past e is))
      (more_walked (entry_record o past (log_of o past) e) (log_of o past) s.mark (seen past) name (is_behind cursor) (scan.walked name only));
}
scan_left o past e cursor Scanning None is scan = tt
scan_left o past e cursor Idle s is scan = tt
scan_left o past e cursor Chasing s is scan = tt
scan_left o past e cursor Draining s is scan = tt
scan_left o past e cursor Late s is scan = tt
scan_left o past e cursor Done s is scan = tt

-- the machine keeps what it kept, behind the client's entry
pub kept-client : (o : Opening) (past : List Entry) (f g : Fields) (e : Entry) → IsKept o past f → IsLegalEntry o past e → ClientLeaves o past f g e → Beside f g → IsKept o (e ∷ past) g
kept-client o past f g e kept entry leaves beside =
    let at = phase_left past e leaves.left in
    let is = started_left past e leaves.left in
    record {
      opened = kept.opened;
      loads_fit = kept.loads_fit;
      legal = (kept.legal, entry);
      manager_meets = leaves.manager (steady_left o past f e kept entry leaves.left);
      clients_are = leaves.clients;
      room = beside.room;
      phase_is = beside.now ∙ kept.phase_is ∙ sym at;
      known_is =
          beside.known ∙ kept.known_is
          ∙ sym (ap (λ p. o.catalog ++ map adopted (named_in p (new_tables o.catalog (started (e ∷ past))))) at ∙ ap (λ s. o.catalog ++ map adopted (named_in (phase past) (new_tables o.catalog s))) is);
      spec_is = beside.spec ∙ kept.spec_is ∙ ap (option_map (λ (s : Started). s.spec)) (sym is);
      position_is = beside.position ∙ kept.position_is ∙ sym (position_left o past e leaves.left);
      scan_meets =
          subst (λ cursor. ScanMeets o (e ∷ past) cursor (phase (e ∷ past)) (started (e ∷ past))) (sym beside.cursor)
          (subst (λ p. ScanMeets o (e ∷ past) f.cursor p (started (e ∷ past))) (sym at) (subst (ScanMeets o (e ∷ past) f.cursor (phase past)) (sym is) (scan_left o past e f.cursor (phase past) (started past) leaves.left kept.scan_meets)));
    }

-- a client's turn, from what it leaves
pub client_took : (catalog : List Declared) (loads : ℕ) (past journal : List Entry) (f g : Fields) (m : Machine) (actor : ℕ) (asked : Request) (answer : Reply)
    → Holds catalog loads past f m → Comes actor → HasRoom past answer → Longer f.managed.log g.managed.log → journal ≡ client_entry actor asked answer ∷ past
    → answer ≡ client_reply (opened catalog loads f.managed.log) past actor asked → ClientLeaves (opened catalog loads f.managed.log) past f g (client_entry actor asked answer) → Beside f g
    → Took catalog loads journal g m actor (Client asked) answer
client_took catalog loads past journal f g m actor asked answer holds comes room longer is answered leaves beside =
    let entry = legal-client (opened catalog loads f.managed.log) past actor asked answer comes.from_one comes.to_eight room answered in
    let kept = kept-client (opened catalog loads f.managed.log) past f g (client_entry actor asked answer) holds.kept entry leaves beside in
    took catalog loads past journal f g m actor (Client asked) answer holds longer is (subst (λ j. IsKept (opened catalog loads f.managed.log) j g) (sym is) kept)

pub place_here : (catalog : List Declared) (loads : ℕ) (past : List Entry) (f : Fields) (m : Machine) (answer : Reply) → Holds catalog loads past f m → HasPlace m → HasRoom past answer
place_here catalog loads past f m answer holds place = inl (from_view HasPlace (opened catalog loads f.managed.log) past m holds.view place)

pub inside_here : (catalog : List Declared) (loads : ℕ) (past : List Entry) (f : Fields) (m : Machine) (actor txn : ℕ) → Holds catalog loads past f m → txn_of m.past actor ≡ Some txn → txn_of past actor ≡ Some txn
inside_here catalog loads past f m actor txn holds inside = from_view (λ (x : Machine). txn_of x.past actor ≡ Some txn) (opened catalog loads f.managed.log) past m holds.view inside

rests_here : (catalog : List Declared) (loads : ℕ) (past : List Entry) (f : Fields) (m : Machine) (txn : ℕ) → Holds catalog loads past f m → is_ending m.past txn ≡ false → is_ending past txn ≡ false
rests_here catalog loads past f m txn holds rests = from_view (λ (x : Machine). is_ending x.past txn ≡ false) (opened catalog loads f.managed.log) past m holds.view rests

-- ** an answer that changes nothing **

pub leaves-quiet : (o : Opening) (past : List Entry) (f g : Fields) (e : Entry) → IsKept o past f → Unchanged f.managed g.managed → g.clients ≡ f.clients → effect e.reply ≡ Nothing → ClientLeaves o past f g e
leaves-quiet o past f g e kept stays clients told = record {
  manager = λ steady. meets-quiet o past f.managed g.managed e Nothing steady kept.manager_meets stays (quiet-nothing o past e told);
  clients = clients ∙ kept.clients_are ∙ sym (living_by past e Nothing told);
  left = record { f = Nothing; told = told; left = tt };
}

pub noted : (catalog : List Declared) (loads : ℕ) (past journal : List Entry) (f g : Fields) (m : Machine) (actor : ℕ) (asked : Request) (answer : Reply)
    → Holds catalog loads past f m → Comes actor → HasPlace m → client_reply m.opening m.past actor asked ≡ answer → effect answer ≡ Nothing
    → Unchanged f.managed g.managed → g.clients ≡ f.clients → Beside f g → journal ≡ client_entry actor asked answer ∷ past
    → Took catalog loads journal g m actor (Client asked) answer
noted catalog loads past journal f g m actor asked answer holds comes place answered quiet stays clients beside is =
    let told = from_view (λ (x : Machine). client_reply x.opening x.past actor asked ≡ answer) (opened catalog loads f.managed.log) past m holds.view answered in
    client_took catalog loads past journal f g m actor asked answer holds comes (place_here catalog loads past f m answer holds place) (no_longer stays.log) is (sym told)
    (leaves-quiet (opened catalog loads f.managed.log) past f g (client_entry actor asked answer) holds.kept stays clients quiet) beside

-- ** a begin **

leaves-begun : (o : Opening) (past : List Entry) (f g : Fields) (actor txn : ℕ) → IsKept o past f → ManagerBegins f.managed g.managed txn → txn_of past actor ≡ None → g.clients ≡ record { client = actor; txn = txn } ∷ f.clients
    → ClientLeaves o past f g (client_entry actor request.Begin (reply.Begun txn))
leaves-begun o past f g actor txn kept begins outside clients =
    let e = client_entry actor request.Begin (reply.Begun txn) in
    let told = effect-begun txn in
    record {
      manager = λ steady. meets-begun o past f.managed g.managed (client_entry actor request.Begin (reply.Begun txn)) txn steady kept.manager_meets begins told outside;
      clients = clients ∙ ap (λ l. record { client = actor; txn = txn } ∷ l) kept.clients_are ∙ sym (living_by past (client_entry actor request.Begin (reply.Begun txn)) (Begins txn) told);
      left = record { f = (Begins txn); told = told; left = tt };
    }

pub begun_took : (catalog : List Declared) (loads : ℕ) (past journal : List Entry) (f g : Fields) (m : Machine) (actor txn : ℕ)
    → Holds catalog loads past f m → Comes actor → HasPlace m → txn_of m.past actor ≡ None
    → ManagerBegins f.managed g.managed txn → g.clients ≡ record { client = actor; txn = txn } ∷ f.clients → Beside f g → journal ≡ client_entry actor request.Begin (reply.Begun txn) ∷ past
    → Took catalog loads journal g m actor (Client request.Begin) (reply.Begun txn)
begun_took catalog loads past journal f g m actor txn holds comes place outside begins clients beside is =
    let none = from_view (λ (x : Machine). txn_of x.past actor ≡ None) (opened catalog loads f.managed.log) past m holds.view outside in
    let number : txn ≡ begun past + 1 = begins.number ∙ ap (λ n. n + 1) holds.kept.manager_meets.begun in
    client_took catalog loads past journal f g m actor request.Begin (reply.Begun txn) holds comes (place_here catalog loads past f m (reply.Begun txn) holds place) (no_longer begins.log) is
    (ap reply.Begun number ∙ sym (begin-answered (opened catalog loads f.managed.log) past actor none))
    (leaves-begun (opened catalog loads f.managed.log) past f g actor txn holds.kept begins none clients) beside

-- a client's turn that ends its transaction leaves room for the others' ends
pub fewer_there : (catalog : List Declared) (loads : ℕ) (past : List Entry) (f : Fields) (m : Machine) (actor txn : ℕ) → Holds catalog loads past f m → txn_of m.past actor ≡ Some txn → length (without actor f.clients) + 1 ≤ length f.clients
fewer_there catalog loads past f m actor txn holds in_txn =
    let inside = inside_here catalog loads past f m actor txn holds in_txn in
    one_fewer f.clients actor txn (ap (λ l. txn_among l actor) holds.kept.clients_are ∙ inside)

-- ** a commit **

leaves-committed : (o : Opening) (past : List Entry) (f g : Fields) (actor txn lsn : ℕ) → IsKept o past f → Ends f.managed g.managed txn Commit lsn → txn_of past actor ≡ Some txn → g.clients ≡ without actor f.clients
    → ClientLeaves o past f g (client_entry actor request.Commit (reply.Committed lsn))
leaves-committed o past f g actor txn lsn kept ends inside clients =
    let told = effect-committed lsn in
    record {
      manager = λ steady. meets-ended o past f.managed g.managed (client_entry actor request.Commit (reply.Committed lsn)) Commits txn lsn Commit steady kept.manager_meets ends (commit_ends o past (client_entry actor request.Commit (reply.Committed lsn)) txn told inside);
      clients = clients ∙ ap (without actor) kept.clients_are ∙ sym (living_by past (client_entry actor request.Commit (reply.Committed lsn)) Commits told);
      left = record { f = Commits; told = told; left = tt };
    }

pub committed_took : (catalog : List Declared) (loads : ℕ) (past journal : List Entry) (f g : Fields) (m : Machine) (actor txn lsn : ℕ)
    → Holds catalog loads past f m → Comes actor → IsInside m actor txn
    → Ends f.managed g.managed txn Commit lsn → g.clients ≡ without actor f.clients → Beside f g → journal ≡ client_entry actor request.Commit (reply.Committed lsn) ∷ past
    → Took catalog loads journal g m actor (Client request.Commit) (reply.Committed lsn)
committed_took catalog loads past journal f g m actor txn lsn holds comes in_txn ends clients beside is =
    let inside = inside_here catalog loads past f m actor txn holds in_txn.inside in
    let rests = rests_here catalog loads past f m txn holds in_txn.resting in
    let next = next_there (opened catalog loads f.managed.log) past f.managed lsn holds.kept.manager_meets ends.place in
    client_took catalog loads past journal f g m actor request.Commit (reply.Committed lsn) holds comes (inr (committed-true lsn)) (by_one (record { txn = txn; body = Commit }) ends.log) is
    (ap reply.Committed next ∙ sym (commit-answered (opened catalog loads f.managed.log) past actor txn inside rests))
    (leaves-committed (opened catalog loads f.managed.log) past f g actor txn lsn holds.kept ends inside clients) beside

-- ** an undo **

leaves-undone : (o : Opening) (past : List Entry) (f g : Fields) (actor txn lsn : ℕ) → IsKept o past f → CanUndoLast f.managed txn → ManagerUndoes f.managed g.managed txn lsn → txn_of past actor ≡ Some txn → g.clients ≡ f.clients
    → ClientLeaves o past f g (client_entry actor request.Undo (reply.Undone lsn))
leaves-undone o past f g actor txn lsn kept can undoes inside clients =
    let told = effect-undone lsn in
    record {
      manager = λ steady. meets-undone o past f.managed g.managed (client_entry actor request.Undo (reply.Undone lsn)) txn lsn steady kept.manager_meets can undoes told inside;
      clients = clients ∙ kept.clients_are ∙ sym (living_by past (client_entry actor request.Undo (reply.Undone lsn)) Undoes told);
      left = record { f = Undoes; told = told; left = tt };
    }

-- something is left to undo where an undo makes a record
pub data HasLeft (left : List ℕ) : Type 0 where
  is_left : (lsn : ℕ) (rest : List ℕ) → left ≡ lsn ∷ rest → HasLeft left

left_of : (there : Rows) (log : List Rec) (txn : ℕ) (left : List ℕ) (back : Rec) → undo_last there log txn left ≡ Some back → HasLeft left
left_of there log txn [] back made = absurd (cc)
left_of there log txn (lsn ∷ rest) back made = is_left lsn rest refl

pub undone_took : (catalog : List Declared) (loads : ℕ) (past journal : List Entry) (f g : Fields) (m : Machine) (actor txn lsn : ℕ)
    → Holds catalog loads past f m → Comes actor → HasPlace m → txn_of m.past actor ≡ Some txn → CanUndoLast f.managed txn
    → ManagerUndoes f.managed g.managed txn lsn → g.clients ≡ f.clients → Beside f g → journal ≡ client_entry actor request.Undo (reply.Undone lsn) ∷ past
    → Took catalog loads journal g m actor (Client request.Undo) (reply.Undone lsn)
undone_took catalog loads past journal f g m actor txn lsn holds comes place in_txn can undoes clients beside is =
    let inside = inside_here catalog loads past f m actor txn holds in_txn in
    let next = next_there (opened catalog loads f.managed.log) past f.managed lsn holds.kept.manager_meets undoes.place in
    let made = undo-made (opened catalog loads f.managed.log) past f.managed txn undoes.back holds.kept.manager_meets can undoes.made in
    let answered = by inside (left_of (row_in (opened catalog loads f.managed.log) past (log_of (opened catalog loads f.managed.log) past)) (log_of (opened catalog loads f.managed.log) past) txn (writes_left txn (log_of (opened catalog loads f.managed.log) past)) undoes.back made) in
    client_took catalog loads past journal f g m actor request.Undo (reply.Undone lsn) holds comes (place_here catalog loads past f m (reply.Undone lsn) holds place) (by_one undoes.back undoes.log) is
    (ap reply.Undone next ∙ sym answered)
    (leaves-undone (opened catalog loads f.managed.log) past f g actor txn lsn holds.kept can undoes inside clients) beside
  where
    by : txn_of past actor ≡ Some txn → HasLeft (writes_left txn (log_of (opened catalog loads f.managed.log) past)) → client_reply (opened catalog loads f.managed.log) past actor request.Undo ≡ reply.Undone (next_lsn (opened catalog loads f.managed.log) past)
    by inside (is_left first rest left) = undone-answered (opened catalog loads f.managed.log) past actor txn first rest inside left

leaves-aborted : (o : Opening) (past : List Entry) (f g : Fields) (actor txn lsn : ℕ) → IsKept o past f → Ends f.managed g.managed txn Abort lsn → txn_of past actor ≡ Some txn → g.clients ≡ without actor f.clients
    → ClientLeaves o past f g (client_entry actor request.Undo (reply.Aborted lsn))
leaves-aborted o past f g actor txn lsn kept ends inside clients =
    let told = effect-aborted lsn in
    record {
      manager = λ steady. meets-ended o past f.managed g.managed (client_entry actor request.Undo (reply.Aborted lsn)) Aborts txn lsn Abort steady kept.manager_meets ends (abort_ends o past (client_entry actor request.Undo (reply.Aborted lsn)) txn told inside);
      clients = clients ∙ ap (without actor) kept.clients_are ∙ sym (living_by past (client_entry actor request.Undo (reply.Aborted lsn)) Aborts told);
      left = record { f = Aborts; told = told; left = tt };
    }

pub aborted_took : (catalog : List Declared) (loads : ℕ) (past journal : List Entry) (f g : Fields) (m : Machine) (actor txn lsn : ℕ)
    → Holds catalog loads past f m → Comes actor → HasPlace m → txn_of m.past actor ≡ Some txn
    → ManagerAborts f.managed g.managed txn lsn → g.clients ≡ without actor f.clients → Beside f g → journal ≡ client_entry actor request.Undo (reply.Aborted lsn) ∷ past
    → Took catalog loads journal g m actor (Client request.Undo) (reply.Aborted lsn)
aborted_took catalog loads past journal f g m actor txn lsn holds comes place in_txn aborts clients beside is =
    let inside = inside_here catalog loads past f m actor txn holds in_txn in
    let next = next_there (opened catalog loads f.managed.log) past f.managed lsn holds.kept.manager_meets aborts.ends.place in
    let left : writes_left txn (log_of (opened catalog loads f.managed.log) past) ≡ [] = ap (writes_left txn) (sym holds.kept.manager_meets.log_is) ∙ aborts.nothing in
    client_took catalog loads past journal f g m actor request.Undo (reply.Aborted lsn) holds comes (place_here catalog loads past f m (reply.Aborted lsn) holds place) (by_one (record { txn = txn; body = Abort }) aborts.ends.log) is
    (ap reply.Aborted next ∙ sym (aborted-answered (opened catalog loads f.managed.log) past actor txn inside left))
    (leaves-aborted (opened catalog loads f.managed.log) past f g actor txn lsn holds.kept aborts.ends inside clients) beside

-- ** what a table has **

-- the schemas of the manager's tables are those of its catalog
pub schema_shape : (catalog : List Declared) (table : List ℕ) → schema_in (shapes_of catalog) table ≡ schema_of catalog table
schema_shape [] table = refl
schema_shape (d ∷ catalog) table = by_cases (same_name d.name table) (λ t. rw t refl) (λ f. rw f (schema_shape catalog table))

-- before the switch the manager has the declared tables alone
pub none_shown : (o : Opening) (past : List Entry) → (phase past ≡ Done → ⊥) → o.catalog ++ shown_now o past ≡ o.catalog
none_shown o past early = by (phase past) early (never_late past)
  where
    by : (at : Phase) → (at ≡ Done → ⊥) → (at ≡ Late → ⊥) → o.catalog ++ map adopted (shown_in at (new_tables o.catalog (started past))) ≡ o.catalog
    by Idle early timely = append-nil o.catalog
    by Scanning early timely = append-nil o.catalog
    by Chasing early timely = append-nil o.catalog
    by Draining early timely = append-nil o.catalog
    by Late early timely = absurd (timely refl)
    by Done early timely = absurd (early refl)

-- a table that is open to a transaction has the schema that its name means
open_there : (o : Opening) (past : List Entry) (actor : ℕ) (table : List ℕ) → closed past actor table ≡ None → schema_of (o.catalog ++ shown_now o past) table ≡ schema_of (known o past) table
open_there o past actor table opened = by (is_done (phase past))
  where
    by : (phase past ≡ Done) ⊎ (phase past ≡ Done → ⊥) → schema_of (o.catalog ++ shown_now o past) table ≡ schema_of (known o past) table
    by (inl done) =
        ap (λ at. schema_of (o.catalog ++ map adopted (shown_in at (new_tables o.catalog (started past)))) table) done
        ∙ sym (ap (λ at. schema_of (o.catalog ++ map adopted (named_in at (new_tables o.catalog (started past)))) table) done)
    by (inr early) = ap (λ l. schema_of l table) (none_shown o past early) ∙ sym (open_schema o past actor table early (never_late past) opened)

-- a table that is open, of which a client asks what its schema admits
pub good_there : (o : Opening) (past : List Entry) (m : Managed) (actor : ℕ) (table : List ℕ) (fault : Layout → Option BadRow) → ManagerMeets o past m → (good : IsGood (schema_of (known o past) table) (closed past actor table) fault) → schema_in m.shapes table ≡ Some good.schema
good_there o past m actor table fault meets good =
    ap (λ shapes. schema_in shapes table) meets.shapes ∙ schema_shape (o.catalog ++ shown_now o past) table ∙ open_there o past actor table good.opened ∙ good.declared

pub table_is_there : (o : Opening) (past : List Entry) (m : Managed) (actor : ℕ) (table : List ℕ) (fault : Layout → Option BadRow) → ManagerMeets o past m → IsGood (schema_of (known o past) table) (closed past actor table) fault → IsSome (schema_in m.shapes table)
table_is_there o past m actor table fault meets good = subst IsSome (sym (good_there o past m actor table fault meets good)) refl

-- it has what the entries leave
pub has_left : (o : Opening) (past : List Entry) (m : Managed) (actor : ℕ) (table : List ℕ) (key : List Value) (fault : Layout → Option BadRow) → ManagerMeets o past m → IsGood (schema_of (known o past) table) (closed past actor table) fault
    → has_now m.tables table key ≡ row_now o past table key
has_left o past m actor table key fault meets good = row-there o past m table key meets (table_is_there o past m actor table fault meets good)

-- ** a read **

leaves-read : (o : Opening) (past : List Entry) (f g : Fields) (actor txn : ℕ) (table : List ℕ) (key : List Value) (row : Option (List Value)) (answer : Reply) → IsKept o past f → ManagerReads f.managed g.managed txn table key row
    → txn_of past actor ≡ Some txn → g.clients ≡ f.clients → effect answer ≡ Reads → ClientLeaves o past f g (client_entry actor (request.Read table key) answer)
leaves-read o past f g actor txn table key row answer kept reads inside clients told =
    record {
      manager = λ steady. meets-read o past f.managed g.managed (client_entry actor (request.Read table key) answer) txn table key row steady kept.manager_meets reads told inside (read-key (known o past) table key);
      clients = clients ∙ kept.clients_are ∙ sym (living_by past (client_entry actor (request.Read table key) answer) Reads told);
      left = record { f = Reads; told = told; left = tt };
    }

-- a client of a live transaction asks for a key that its table admits
pub record AsksKey (catalog : List Declared) (loads : ℕ) (past : List Entry) (f : Fields) (m : Machine) (actor txn : ℕ) (table : List ℕ) (key : List Value) : Type 0 where
  pub holds : Holds catalog loads past f m
  pub comes : Comes actor
  pub place : HasPlace m
  pub in_txn : IsInside m actor txn
  pub good : IsGood (schema_of (known (opened catalog loads f.managed.log) past) table) (closed past actor table) (λ schema. key_fault schema key)

shown-row : (row : Option (List Value)) → effect (read_answer row) ≡ Reads
shown-row (Some row) = effect-row row
shown-row None = effect-absent

pub shown_took : (catalog : List Declared) (loads : ℕ) (past journal : List Entry) (f g : Fields) (m : Machine) (actor txn : ℕ) (table : List ℕ) (key : List Value) (row : Option (List Value))
    → AsksKey catalog loads past f m actor txn table key → ManagerReads f.managed g.managed txn table key row → g.clients ≡ f.clients → Beside f g → journal ≡ client_entry actor (request.Read table key) (read_answer row) ∷ past
    → Took catalog loads journal g m actor (Client (request.Read table key)) (read_answer row)
shown_took catalog loads past journal f g m actor txn table key row asks reads clients beside is =
    let o = opened catalog loads f.managed.log in
    let inside = inside_here catalog loads past f m actor txn asks.holds asks.in_txn.inside in
    let rests = rests_here catalog loads past f m txn asks.holds asks.in_txn.resting in
    let meets = asks.holds.kept.manager_meets in
    let free = holder-none (opened catalog loads f.managed.log) past f.managed txn table key Shared meets reads.locks.free in
    let there : row_now (opened catalog loads f.managed.log) past table key ≡ row = sym (has_left (opened catalog loads f.managed.log) past f.managed actor table key (λ schema. key_fault schema key) meets asks.good) ∙ reads.there in
    client_took catalog loads past journal f g m actor (request.Read table key) (read_answer row) asks.holds asks.comes (place_here catalog loads past f m (read_answer row) asks.holds asks.place) (no_longer reads.log) is
    (sym (read-answered (opened catalog loads f.managed.log) past actor txn table key inside rests asks.good
    ∙ ap (λ by. unless_held by (read_answer (row_now (opened catalog loads f.managed.log) past table key))) free ∙ ap read_answer there))
    (leaves-read (opened catalog loads f.managed.log) past f g actor txn table key row (read_answer row) asks.holds.kept reads inside clients (shown-row row)) beside

pub read_held : (catalog : List Declared) (loads : ℕ) (past journal : List Entry) (f g : Fields) (m : Machine) (actor txn : ℕ) (table : List ℕ) (key : List Value) (by : ℕ)
    → AsksKey catalog loads past f m actor txn table key → Hinders f.managed g.managed txn table key Shared by → g.clients ≡ f.clients → Beside f g → journal ≡ client_entry actor (request.Read table key) (reply.Held by) ∷ past
    → Took catalog loads journal g m actor (Client (request.Read table key)) (reply.Held by)
read_held catalog loads past journal f g m actor txn table key by asks hinders clients beside is =
    let inside = inside_here catalog loads past f m actor txn asks.holds asks.in_txn.inside in
    let rests = rests_here catalog loads past f m txn asks.holds asks.in_txn.resting in
    let meets = asks.holds.kept.manager_meets in
    let named = holder-named (opened catalog loads f.managed.log) past f.managed txn table key Shared by asks.holds.kept.legal meets hinders.least in
    client_took catalog loads past journal f g m actor (request.Read table key) (reply.Held by) asks.holds asks.comes (place_here catalog loads past f m (reply.Held by) asks.holds asks.place) (no_longer hinders.same.log) is
    (sym (read-answered (opened catalog loads f.managed.log) past actor txn table key inside rests asks.good
    ∙ ap (λ by. unless_held by (read_answer (row_now (opened catalog loads f.managed.log) past table key))) named))
    (leaves-quiet (opened catalog loads f.managed.log) past f g (client_entry actor (request.Read table key) (reply.Held by)) asks.holds.kept hinders.same clients (quiet-held by)) beside

-- whatever the manager answers to a read
pub read_took : (catalog : List Declared) (loads : ℕ) (past journal : List Entry) (f g : Fields) (m : Machine) (actor txn : ℕ) (table : List ℕ) (key : List Value) (answer : TxnRead)
    → AsksKey catalog loads past f m actor txn table key → AnswersRead f.managed g.managed txn table key answer → g.clients ≡ f.clients → Beside f g → journal ≡ client_entry actor (request.Read table key) (read_told answer) ∷ past
    → Took catalog loads journal g m actor (Client (request.Read table key)) (read_told answer)
read_took catalog loads past journal f g m actor txn table key (read.Row row) asks answers clients beside is = shown_took catalog loads past journal f g m actor txn table key (Some row) asks answers clients beside is
read_took catalog loads past journal f g m actor txn table key read.Absent asks answers clients beside is = shown_took catalog loads past journal f g m actor txn table key None asks answers clients beside is
read_took catalog loads past journal f g m actor txn table key (read.Held by) asks answers clients beside is = read_held catalog loads past journal f g m actor txn table key by asks answers clients beside is

-- ** a change **

-- a client of a live transaction asks for a change that its table admits
pub record AsksChange (catalog : List Declared) (loads : ℕ) (past : List Entry) (f : Fields) (m : Machine) (actor txn : ℕ) (table : List ℕ) (change : Change) : Type 0 where
  pub holds : Holds catalog loads past f m
  pub comes : Comes actor
  pub place : HasPlace m
  pub in_txn : IsInside m actor txn
  pub good : IsGood (schema_of (known (opened catalog loads f.managed.log) past) table) (closed past actor table) (λ schema. change_fault schema change)

-- the key that it is about
abbrev pub key_asked : (catalog : List Declared) (loads : ℕ) (past : List Entry) (f : Fields) (m : Machine) (actor txn : ℕ) (table : List ℕ) (change : Change) → AsksChange catalog loads past f m actor txn table change → List Value
key_asked catalog loads past f m actor txn table change asks = key_of_change asks.good.schema change

-- an answer that changes nothing
change_quiet : (catalog : List Declared) (loads : ℕ) (past journal : List Entry) (f g : Fields) (m : Machine) (actor txn : ℕ) (table : List ℕ) (change : Change) (answer : Reply)
    → AsksChange catalog loads past f m actor txn table change → Unchanged f.managed g.managed → g.clients ≡ f.clients → Beside f g → journal ≡ client_entry actor (asked_for table change) answer ∷ past
    → answer ≡ client_reply (opened catalog loads f.managed.log) past actor (asked_for table change) → effect answer ≡ Nothing
    → Took catalog loads journal g m actor (Client (asked_for table change)) answer
change_quiet catalog loads past journal f g m actor txn table change answer asks stays clients beside is answered quiet =
    client_took catalog loads past journal f g m actor (asked_for table change) answer asks.holds asks.comes (place_here catalog loads past f m answer asks.holds asks.place) (no_longer stays.log) is answered
    (leaves-quiet (opened catalog loads f.managed.log) past f g (client_entry actor (asked_for table change) answer) asks.holds.kept stays clients quiet) beside

pub change_held : (catalog : List Declared) (loads : ℕ) (past journal : List Entry) (f g : Fields) (m : Machine) (actor txn : ℕ) (table : List ℕ) (change : Change) (by : ℕ)
    → (asks : AsksChange catalog loads past f m actor txn table change) → Hinders f.managed g.managed txn table (key_of_change asks.good.schema change) Exclusive by → g.clients ≡ f.clients → Beside f g
    → journal ≡ client_entry actor (asked_for table change) (reply.Held by) ∷ past → Took catalog loads journal g m actor (Client (asked_for table change)) (reply.Held by)
change_held catalog loads past journal f g m actor txn table change by asks hinders clients beside is =
    let inside = inside_here catalog loads past f m actor txn asks.holds asks.in_txn.inside in
    let rests = rests_here catalog loads past f m txn asks.holds asks.in_txn.resting in
    let key = key_of_change asks.good.schema change in
    let named = holder-named (opened catalog loads f.managed.log) past f.managed txn table (key_of_change asks.good.schema change) Exclusive by asks.holds.kept.legal asks.holds.kept.manager_meets hinders.least in
    change_quiet catalog loads past journal f g m actor txn table change (reply.Held by) asks hinders.same clients beside is
    (sym (change-answered (opened catalog loads f.managed.log) past actor txn table change inside rests asks.good
    ∙ ap (λ by. unless_held by (change_told (opened catalog loads f.managed.log) past change (row_now (opened catalog loads f.managed.log) past table (key_of_change asks.good.schema change)))) named))
    (quiet-held by)

-- what a change is answered that no lock hinders
free_answered : (catalog : List Declared) (loads : ℕ) (past : List Entry) (f : Fields) (m : Machine) (actor txn : ℕ) (table : List ℕ) (change : Change)
    → (asks : AsksChange catalog loads past f m actor txn table change) → holder (opened catalog loads f.managed.log) past txn table (key_of_change asks.good.schema change) Exclusive ≡ None
    → client_reply (opened catalog loads f.managed.log) past actor (asked_for table change) ≡ change_told (opened catalog loads f.managed.log) past change (row_now (opened catalog loads f.managed.log) past table (key_of_change asks.good.schema change))
free_answered catalog loads past f m actor txn table change asks free =
    let inside = inside_here catalog loads past f m actor txn asks.holds asks.in_txn.inside in
    let rests = rests_here catalog loads past f m txn asks.holds asks.in_txn.resting in
    change-answered (opened catalog loads f.managed.log) past actor txn table change inside rests asks.good
    ∙ ap (λ by. unless_held by (change_told (opened catalog loads f.managed.log) past change (row_now (opened catalog loads f.managed.log) past table (key_of_change asks.good.schema change)))) free

pub change_exists : (catalog : List Declared) (loads : ℕ) (past journal : List Entry) (f g : Fields) (m : Machine) (actor txn : ℕ) (table : List ℕ) (change : Change)
    → (asks : AsksChange catalog loads past f m actor txn table change) → Refuses f.managed g.managed txn table (key_of_change asks.good.schema change) change write.Exists → g.clients ≡ f.clients → Beside f g
    → journal ≡ client_entry actor (asked_for table change) reply.Exists ∷ past → Took catalog loads journal g m actor (Client (asked_for table change)) reply.Exists
change_exists catalog loads past journal f g m actor txn table change asks refuses clients beside is =
    let free = holder-none (opened catalog loads f.managed.log) past f.managed txn table (key_of_change asks.good.schema change) Exclusive asks.holds.kept.manager_meets refuses.free in
    change_quiet catalog loads past journal f g m actor txn table change reply.Exists asks refuses.same clients beside is
    (sym (free_answered catalog loads past f m actor txn table change asks free ∙ told-exists (opened catalog loads f.managed.log) past change (row_now (opened catalog loads f.managed.log) past table (key_of_change asks.good.schema change)) (ap (refusal change) (sym (has_left (opened catalog loads f.managed.log) past f.managed actor table (key_of_change asks.good.schema change) (λ schema. change_fault schema change) asks.holds.kept.manager_meets asks.good)) ∙ refuses.refused)))
    quiet-exists

pub change_missing : (catalog : List Declared) (loads : ℕ) (past journal : List Entry) (f g : Fields) (m : Machine) (actor txn : ℕ) (table : List ℕ) (change : Change)
    → (asks : AsksChange catalog loads past f m actor txn table change) → Refuses f.managed g.managed txn table (key_of_change asks.good.schema change) change write.Missing → g.clients ≡ f.clients → Beside f g
    → journal ≡ client_entry actor (asked_for table change) reply.Missing ∷ past → Took catalog loads journal g m actor (Client (asked_for table change)) reply.Missing
change_missing catalog loads past journal f g m actor txn table change asks refuses clients beside is =
    let free = holder-none (opened catalog loads f.managed.log) past f.managed txn table (key_of_change asks.good.schema change) Exclusive asks.holds.kept.manager_meets refuses.free in
    change_quiet catalog loads past journal f g m actor txn table change reply.Missing asks refuses.same clients beside is
    (sym (free_answered catalog loads past f m actor txn table change asks free ∙ told-missing (opened catalog loads f.managed.log) past change (row_now (opened catalog loads f.managed.log) past table (key_of_change asks.good.schema change)) (ap (refusal change) (sym (has_left (opened catalog loads f.managed.log) past f.managed actor table (key_of_change asks.good.schema change) (λ schema. change_fault schema change) asks.holds.kept.manager_meets asks.good)) ∙ refuses.refused)))
    quiet-missing

leaves-written : (o : Opening) (past : List Entry) (f g : Fields) (actor txn : ℕ) (table : List ℕ) (change : Change) (layout : Layout) (lsn : ℕ) → IsKept o past f → schema_of (known o past) table ≡ Some layout
    → ManagerWrites f.managed g.managed txn table (key_of_change layout change) (image_of change) lsn → has_now f.managed.tables table (key_of_change layout change) ≡ row_now o past table (key_of_change layout change)
    → txn_of past actor ≡ Some txn → g.clients ≡ f.clients
    → ClientLeaves o past f g (client_entry actor (asked_for table change) (reply.Done lsn))
leaves-written o past f g actor txn table change layout lsn kept declared writes was inside clients =
    let told = effect-done lsn in
    record {
      manager = λ steady. meets-written o past f.managed g.managed (client_entry actor (asked_for table change) (reply.Done lsn)) txn table (key_of_change layout change) (image_of change) lsn steady kept.manager_meets writes was told inside
          (change-key (known o past) table layout change declared) (change-record (known o past) (row_in o past (log_of o past)) txn table layout change declared);
      clients = clients ∙ kept.clients_are ∙ sym (living_by past (client_entry actor (asked_for table change) (reply.Done lsn)) Writes told);
      left = record { f = Writes; told = told; left = tt };
    }

pub change_done : (catalog : List Declared) (loads : ℕ) (past journal : List Entry) (f g : Fields) (m : Machine) (actor txn : ℕ) (table : List ℕ) (change : Change) (lsn : ℕ)
    → (asks : AsksChange catalog loads past f m actor txn table change) → Makes f.managed g.managed txn table (key_of_change asks.good.schema change) change lsn → g.clients ≡ f.clients → Beside f g
    → journal ≡ client_entry actor (asked_for table change) (reply.Done lsn) ∷ past → Took catalog loads journal g m actor (Client (asked_for table change)) (reply.Done lsn)
change_done catalog loads past journal f g m actor txn table change lsn asks makes clients beside is =
    let inside = inside_here catalog loads past f m actor txn asks.holds asks.in_txn.inside in
    let meets = asks.holds.kept.manager_meets in
    let next = next_there (opened catalog loads f.managed.log) past f.managed lsn meets makes.writes.place in
    let free = holder-none (opened catalog loads f.managed.log) past f.managed txn table (key_of_change asks.good.schema change) Exclusive meets makes.writes.locks.free in
    client_took catalog loads past journal f g m actor (asked_for table change) (reply.Done lsn) asks.holds asks.comes (place_here catalog loads past f m (reply.Done lsn) asks.holds asks.place)
    (by_one (record { txn = txn; body = Write table (key_of_change asks.good.schema change) (has_now f.managed.tables table (key_of_change asks.good.schema change)) (image_of change) }) makes.writes.log) is
    (ap reply.Done next ∙ sym (free_answered catalog loads past f m actor txn table change asks free ∙ told-done (opened catalog loads f.managed.log) past change (row_now (opened catalog loads f.managed.log) past table (key_of_change asks.good.schema change)) (ap (refusal change) (sym (has_left (opened catalog loads f.managed.log) past f.managed actor table (key_of_change asks.good.schema change) (λ schema. change_fault schema change) asks.holds.kept.manager_meets asks.good)) ∙ makes.allowed)))
    (leaves-written (opened catalog loads f.managed.log) past f g actor txn table change asks.good.schema lsn asks.holds.kept asks.good.declared makes.writes (has_left (opened catalog loads f.managed.log) past f.managed actor table (key_of_change asks.good.schema change) (λ schema. change_fault schema change) asks.holds.kept.manager_meets asks.good) inside clients) beside

-- whatever the manager answers to a change
changed_took : (catalog : List Declared) (loads : ℕ) (past journal : List Entry) (f g : Fields) (m : Machine) (actor txn : ℕ) (table : List ℕ) (change : Change) (answer : TxnWrite)
    → (asks : AsksChange catalog loads past f m actor txn table change) → AnswersAt f.managed g.managed txn table (key_of_change asks.good.schema change) change answer → g.clients ≡ f.clients → Beside f g
    → journal ≡ client_entry actor (asked_for table change) (write_told answer) ∷ past → Took catalog loads journal g m actor (Client (asked_for table change)) (write_told answer)
changed_took catalog loads past journal f g m actor txn table change (write.Done lsn) asks answers clients beside is = change_done catalog loads past journal f g m actor txn table change lsn asks answers clients beside is
changed_took catalog loads past journal f g m actor txn table change (write.Held by) asks answers clients beside is = change_held catalog loads past journal f g m actor txn table change by asks answers clients beside is
changed_took catalog loads past journal f g m actor txn table change write.Exists asks answers clients beside is = change_exists catalog loads past journal f g m actor txn table change asks answers clients beside is
changed_took catalog loads past journal f g m actor txn table change write.Missing asks answers clients beside is = change_missing catalog loads past journal f g m actor txn table change asks answers clients beside is

pub write_took : (catalog : List Declared) (loads : ℕ) (past journal : List Entry) (f g : Fields) (m : Machine) (actor txn : ℕ) (table : List ℕ) (change : Change) (answer : TxnWrite)
    → (asks : AsksChange catalog loads past f m actor txn table change) → AnswersWrite f.managed g.managed txn table change answer → g.clients ≡ f.clients → Beside f g
    → journal ≡ client_entry actor (asked_for table change) (write_told answer) ∷ past → Took catalog loads journal g m actor (Client (asked_for table change)) (write_told answer)
write_took catalog loads past journal f g m actor txn table change answer asks answers clients beside is =
    changed_took catalog loads past journal f g m actor txn table change answer asks (answers asks.good.schema (good_there (opened catalog loads f.managed.log) past f.managed actor table (λ schema. change_fault schema change) asks.holds.kept.manager_meets asks.good)) clients beside is

fits : (layout : Layout) (change : Change) → change_fault layout change ≡ None → FitsSchema layout change
fits layout (Insert row) good = good
fits layout (Replace row) good = good
fits layout (Delete key) good = tt

-- the manager can be asked for it
pub can_change : (o : Opening) (past : List Entry) (m : Managed) (actor : ℕ) (table : List ℕ) (change : Change) → ManagerMeets o past m → IsGood (schema_of (known o past) table) (closed past actor table) (λ schema. change_fault schema change) → CanChange m.shapes table change
can_change o past m actor table change meets good = record { layout = good.schema; there = good_there o past m actor table (λ schema. change_fault schema change) meets good; fits = fits good.schema change good.admitted }
