-- What a legal entry does, behind the entries before it.
use Rattle.std.proofs.Common.{◌≡◌, ◌≤◌, ◌+◌, ◌-◌, ◌⊎◌, nat_lt, length, if◌then◌else◌, ℕ, Bool, true, false, List, [], ◌∷◌, Option, Some, None, IfSome, IsSomeAnd, min, refl, sym, ap, ◌∙◌, subst, inl, inr}
use Rattle.sx_values.specs.declared.value.Value.{Value}
use Rattle.sx_values.specs.declared.schema.BadRow.{BadRow}
use Rattle.sx_values.specs.Layouts.{Layout, row_fault, key_fault, key_of}
use Rattle.sx_values.specs.Catalogs.{schema_of}
use Rattle.sx_log.specs.Images.{FitsImage}
use Rattle.sx_log.specs.State.{is_place}
use Rattle.sx_log.specs.Undoing.{writes_left}
use Rattle.sx_locks.specs.declared.mode.Mode.TheVariants.{Shared, Exclusive}
use Rattle.sx_ops.specs.declared.spec.Spec.{Spec}
use Rattle.sx_ops.specs.declared.spec.Spec.TheVariants.{Join, Split, Part, Union}
use Rattle.sx_ops.specs.declared.spec.SpecFault.{SpecFault}
use Rattle.sx_ops.specs.Checks.{IsShaped, spec_fault}
use Rattle.sx_ops.specs.Operators.{sources_of, targets_of}
use Rattle.sx_values.specs.Names.{has_name}
use Rattle.sx_sync.specs.declared.Strategy.{Strategy}
use Rattle.sx_sync.specs.declared.Strategy.TheVariants.{Blocking}
use Rattle.sx_sync.specs.declared.Phase.{Phase}
use Rattle.sx_sync.specs.declared.Phase.TheVariants.{Idle, Scanning, Chasing, Draining, Late, Done}
use Rattle.sx_journal.specs.declared.entry.Entry.{Entry}
use Rattle.sx_journal.specs.declared.entry.Event.{Event}
use Rattle.sx_journal.specs.declared.entry.Event.TheVariants as event
use Rattle.sx_journal.specs.declared.entry.Request.{Request}
use Rattle.sx_journal.specs.declared.entry.Request.TheVariants as request
use Rattle.sx_journal.specs.declared.entry.Reply.{Reply}
use Rattle.sx_journal.specs.declared.entry.Reply.TheVariants as reply
use Rattle.sx_model.specs.Effects.{Effect, Nothing, Reads, Begins, Writes, Undoes, Commits, Aborts, Starts, Sees, Fetches, Checks, Conflicts, Violates, Switches, Cancels, effect}
use Rattle.sx_model.specs.Openings.{Opening, key_under, key_in}
use Rattle.sx_model.specs.Leaves.{Started, started, started_as, started_by, txn_of, begun, phase}
use Rattle.sx_model.specs.Logs.{log_of, next_lsn, row_now, write_record, request_record, event_record}
use Rattle.sx_model.specs.Held.{asks_for_key, is_for_key, is_ending, holder}
use Rattle.sx_model.specs.Replies.{unless_closed, unless_bad, unless_held, read_answer, insert_answer, change_answer, read_reply, insert_reply, update_reply, delete_reply, undo_answer, reply_outside, reply_inside, reply_ending, reply_in, start_answer, start_in}
use Rattle.sx_model.specs.Scans.{IsScanTurn}
use Rattle.sx_model.specs.Known.{known}
use Rattle.sx_model.specs.NewRows.{row_in}
use Rattle.sx_model.specs.Closed.{closed, closed_in, closed_by}
use Rattle.sx_model.specs.Fetches.{fetched, fetch_in}
use Rattle.sx_model.specs.Switches.{violation, unless_violated, unless_hindered, attempt_reply, switch_in, conflict, position, has_lock_on, request_names, event_names}
use Rattle.sx_model.specs.Legal.{AllowsClient, AllowsStart, ScanAnswer, Allows, Legal}

-- an entry of a client
pub record ByClient (actor : ℕ) : Type 0 where
  pub from_one : 1 ≤ actor
  pub to_eight : actor ≤ 8

-- the client begins a transaction
pub record Begun (o : Opening) (past : List Entry) (e : Entry) : Type 0 where
  pub client : ByClient e.actor
  pub outside : txn_of past e.actor ≡ None
  pub told : effect e.reply ≡ Begins (begun past + 1)

-- it reads a key: no other live transaction writes it
pub record Read (o : Opening) (past : List Entry) (e : Entry) : Type 0 where
  pub client : ByClient e.actor
  pub txn : ℕ
  pub inside : txn_of past e.actor ≡ Some txn
  pub going_on : is_ending past txn ≡ false
  pub told : effect e.reply ≡ Reads
  pub table : List ℕ
  pub key : List Value
  pub asked : e.event ≡ event.Client (request.Read table key)
  pub opened : closed past e.actor table ≡ None
  pub free : holder o past txn table key Shared ≡ None
  pub shows : e.reply ≡ read_answer (row_now o past table key)

-- what a write may find and leave: it adds a row, puts a row in the place of another, or takes one away
pub data Change (before after : Option (List Value)) : Type 0 where
  inserts : (row : List Value) → before ≡ None → after ≡ Some row → Change before after
  updates : (old row : List Value) → before ≡ Some old → after ≡ Some row → Change before after
  deletes : (old : List Value) → before ≡ Some old → after ≡ None → Change before after

-- it writes a key: no other live transaction reads or writes it
pub record Written (o : Opening) (past : List Entry) (e : Entry) : Type 0 where
  pub client : ByClient e.actor
  pub txn : ℕ
  pub inside : txn_of past e.actor ≡ Some txn
  pub going_on : is_ending past txn ≡ false
  pub told : effect e.reply ≡ Writes
  pub table : List ℕ
  pub key : List Value
  pub after : Option (List Value)
  pub names : (tables : List (List ℕ)) → event_names tables e.event ≡ has_name tables table
  pub asks : (other : List ℕ) (at : List Value) → is_for_key (known o past) e.event other at ≡ is_place table key other at
  pub opened : closed past e.actor table ≡ None
  pub free : holder o past txn table key Exclusive ≡ None
  pub change : Change (row_now o past table key) after
  pub fits : IsSomeAnd (schema_of (known o past) table) (λ layout. FitsImage layout key after)
  pub made : event_record (known o past) (row_in o past (log_of o past)) txn e.event ≡ Some (write_record (row_in o past (log_of o past)) txn table key after)

-- it commits
pub record Committed (o : Opening) (past : List Entry) (e : Entry) : Type 0 where
  pub client : ByClient e.actor
  pub txn : ℕ
  pub inside : txn_of past e.actor ≡ Some txn
  pub going_on : is_ending past txn ≡ false
  pub told : effect e.reply ≡ Commits

-- it undoes the last of its writes that are left
pub record Undone (o : Opening) (past : List Entry) (e : Entry) : Type 0 where
  pub client : ByClient e.actor
  pub txn : ℕ
  pub inside : txn_of past e.actor ≡ Some txn
  pub told : effect e.reply ≡ Undoes
  pub lsn : ℕ
  pub rest : List ℕ
  pub left : writes_left txn (log_of o past) ≡ lsn ∷ rest

-- it ends its transaction, with no write left to undo
pub record Aborted (o : Opening) (past : List Entry) (e : Entry) : Type 0 where
  pub client : ByClient e.actor
  pub txn : ℕ
  pub inside : txn_of past e.actor ≡ Some txn
  pub told : effect e.reply ≡ Aborts
  pub left : writes_left txn (log_of o past) ≡ []

-- a transformation that fits the catalog starts
pub record Starting (o : Opening) (past : List Entry) (e : Entry) : Type 0 where
  pub own : e.actor ≡ 0
  pub idle : phase past ≡ Idle
  pub spec : Spec
  pub shaped : IsShaped spec
  pub fits : spec_fault o.catalog spec ≡ None
  pub asked : e.event ≡ event.Start spec Blocking
  pub told : effect e.reply ≡ Starts (next_lsn o past)

-- a scan turn sees rows
pub record Seeing (o : Opening) (past : List Entry) (e : Entry) : Type 0 where
  pub own : e.actor ≡ 0
  pub size : ℕ
  pub side : ℕ
  pub lsns : List ℕ
  pub last : Bool
  pub turn : IsScanTurn o past size side lsns last
  pub shows : e.reply ≡ reply.Scanned side lsns last
  pub told : effect e.reply ≡ Sees lsns last

-- records behind the position are handed out
pub record Fetching (o : Opening) (past : List Entry) (e : Entry) : Type 0 where
  pub own : e.actor ≡ 0
  pub size : ℕ
  pub scanned : (phase past ≡ Chasing) ⊎ (phase past ≡ Draining)
  pub answered : e.reply ≡ fetched (position o past) (length (log_of o past)) size
  pub place : ℕ
  pub up_to : place ≡ min (position o past + size) (length (log_of o past))
  pub told : effect e.reply ≡ Fetches place

-- a switch is tried, when the scan has ended
pub record Attempting (o : Opening) (past : List Entry) (e : Entry) : Type 0 where
  pub own : e.actor ≡ 0
  pub s : Started
  pub is : started past ≡ Some s
  pub scanned : (phase past ≡ Chasing) ⊎ (phase past ≡ Draining)

-- a switch that nobody hinders, with a short tail
pub record Switching (o : Opening) (past : List Entry) (e : Entry) : Type 0 where
  pub attempt : Attempting o past e
  pub short : nat_lt 256 (length (log_of o past) - position o past) ≡ false
  pub free : conflict o past attempt.s ≡ None
  pub told : effect e.reply ≡ Switches

-- what a legal entry does
pub data Outcome (o : Opening) (past : List Entry) (e : Entry) : Type 0 where
  rests : effect e.reply ≡ Nothing → Outcome o past e
  begins : Begun o past e → Outcome o past e
  reads : Read o past e → Outcome o past e
  writes : Written o past e → Outcome o past e
  commits : Committed o past e → Outcome o past e
  undoes : Undone o past e → Outcome o past e
  aborts : Aborted o past e → Outcome o past e
  starts : Starting o past e → Outcome o past e
  sees : Seeing o past e → Outcome o past e
  fetches : Fetching o past e → Outcome o past e
  conflicts : Attempting o past e → effect e.reply ≡ Conflicts → Outcome o past e
  switches : Switching o past e → Outcome o past e

-- a client's entry
abbrev asks : ℕ → Request → Reply → Entry
asks actor asked answer = record { actor = actor; event = event.Client asked; reply = answer }

-- the outcome of a reply that changes nothing
quiet_outcome : (o : Opening) (past : List Entry) (e : Entry) (shown : Reply) → e.reply ≡ shown → effect shown ≡ Nothing → Outcome o past e
quiet_outcome o past e shown same quiet = rests (ap effect same ∙ quiet)

-- an answer that changes nothing
abbrev pub IsRefusal : Reply → Type 0
IsRefusal answer = effect answer ≡ Nothing

-- what closes a table is a refusal
closed_in_refuses : (at : Phase) (is_new is_source has_lock : Bool) → IfSome (closed_in at is_new is_source has_lock) IsRefusal
unfolding effect
closed_in_refuses Idle is_new is_source has_lock = tt
closed_in_refuses Scanning true is_source has_lock = refl
closed_in_refuses Scanning false is_source has_lock = tt
closed_in_refuses Chasing true is_source has_lock = refl
closed_in_refuses Chasing false is_source has_lock = tt
closed_in_refuses Draining true is_source has_lock = refl
closed_in_refuses Draining false true true = tt
closed_in_refuses Draining false true false = refl
closed_in_refuses Draining false false has_lock = tt
closed_in_refuses Late is_new true has_lock = refl
closed_in_refuses Late is_new false has_lock = tt
closed_in_refuses Done is_new true has_lock = refl
closed_in_refuses Done is_new false has_lock = tt

closed_by_refuses : (past : List Entry) (client : ℕ) (table : List ℕ) (s : Option Started) → IfSome (closed_by past client table s) IsRefusal
closed_by_refuses past client table None = tt
closed_by_refuses past client table (Some s) = closed_in_refuses (phase past) (has_name (targets_of s.spec) table) (has_name (sources_of s.spec) table) (has_lock_on (sources_of s.spec) client past)

pub closed_refuses : (past : List Entry) (client : ℕ) (table : List ℕ) → IfSome (closed past client table) IsRefusal
closed_refuses past client table = closed_by_refuses past client table (started past)

-- the answer to a read tells nothing, or what the key has
data ReadOr (shut : Option Reply) (by : Option ℕ) (row : Option (List Value)) (answer : Reply) : Type 0 where
  refused : effect answer ≡ Nothing → ReadOr shut by row answer
  shown : shut ≡ None → by ≡ None → answer ≡ read_answer row → ReadOr shut by row answer

read_past : (shut : Option Reply) (bad : Option BadRow) (by : Option ℕ) (row : Option (List Value)) → IfSome shut IsRefusal → ReadOr shut by row (unless_closed shut (unless_bad bad (unless_held by (read_answer row))))
unfolding effect
read_past (Some refusal) bad by row quiet = refused quiet
read_past None (Some bad) by row quiet = refused refl
read_past None None (Some txn) row quiet = refused refl
read_past None None None row quiet = shown refl refl refl

read_or : (o : Opening) (past : List Entry) (actor txn : ℕ) (table : List ℕ) (layout : Option Layout) (key : List Value) → ReadOr (closed past actor table) (holder o past txn table key Shared) (row_now o past table key) (read_reply o past actor txn table layout key)
unfolding effect
read_or o past actor txn table None key = refused refl
read_or o past actor txn table (Some layout) key = read_past (closed past actor table) (key_fault layout key) (holder o past txn table key Shared) (row_now o past table key) (closed_refuses past actor table)

reads_row : (row : Option (List Value)) → effect (read_answer row) ≡ Reads
unfolding effect
reads_row (Some row) = refl
reads_row None = refl

-- the answer to a write changes nothing, or says that a row was written
data WriteOr (shut : Option Reply) (by : Option ℕ) (before after : Option (List Value)) (Fits : Type 0) (answer : Reply) : Type 0 where
  refused : effect answer ≡ Nothing → WriteOr shut by before after Fits answer
  written : shut ≡ None → by ≡ None → Change before after → Fits → effect answer ≡ Writes → WriteOr shut by before after Fits answer

insert_past : (o : Opening) (past : List Entry) (shut : Option Reply) (bad : Option BadRow) (by : Option ℕ) (before : Option (List Value)) (row : List Value) (Fits : Type 0) → (bad ≡ None → Fits) → IfSome shut IsRefusal → WriteOr shut by before (Some row) Fits (unless_closed shut (unless_bad bad (unless_held by (insert_answer o past before))))
unfolding effect
insert_past o past (Some refusal) bad by before row Fits fit quiet = refused quiet
insert_past o past None (Some bad) by before row Fits fit quiet = refused refl
insert_past o past None None (Some txn) before row Fits fit quiet = refused refl
insert_past o past None None None (Some old) row Fits fit quiet = refused refl
insert_past o past None None None None row Fits fit quiet = written refl refl (inserts row refl refl) (fit refl) refl

update_past : (o : Opening) (past : List Entry) (shut : Option Reply) (bad : Option BadRow) (by : Option ℕ) (before : Option (List Value)) (row : List Value) (Fits : Type 0) → (bad ≡ None → Fits) → IfSome shut IsRefusal → WriteOr shut by before (Some row) Fits (unless_closed shut (unless_bad bad (unless_held by (change_answer o past before))))
unfolding effect
update_past o past (Some refusal) bad by before row Fits fit quiet = refused quiet
update_past o past None (Some bad) by before row Fits fit quiet = refused refl
update_past o past None None (Some txn) before row Fits fit quiet = refused refl
update_past o past None None None None row Fits fit quiet = refused refl
update_past o past None None None (Some old) row Fits fit quiet = written refl refl (updates old row refl refl) (fit refl) refl

delete_past : (o : Opening) (past : List Entry) (shut : Option Reply) (bad : Option BadRow) (by : Option ℕ) (before : Option (List Value)) (Fits : Type 0) → Fits → IfSome shut IsRefusal → WriteOr shut by before None Fits (unless_closed shut (unless_bad bad (unless_held by (change_answer o past before))))
unfolding effect
delete_past o past (Some refusal) bad by before Fits fit quiet = refused quiet
delete_past o past None (Some bad) by before Fits fit quiet = refused refl
delete_past o past None None (Some txn) before Fits fit quiet = refused refl
delete_past o past None None None None Fits fit quiet = refused refl
delete_past o past None None None (Some old) Fits fit quiet = written refl refl (deletes old refl refl) fit refl

-- the same of an answer about a key
abbrev WriteAt : Opening → List Entry → ℕ → ℕ → List ℕ → Option Layout → List Value → Option (List Value) → Reply → Type 0
WriteAt o past actor txn table layout key after answer = WriteOr (closed past actor table) (holder o past txn table key Exclusive) (row_now o past table key) after (IsSomeAnd layout (λ (l : Layout). FitsImage l key after)) answer

insert_or : (o : Opening) (past : List Entry) (actor txn : ℕ) (table : List ℕ) (layout : Option Layout) (row : List Value) → WriteAt o past actor txn table layout (key_under layout row) (Some row) (insert_reply o past actor txn table layout row)
unfolding effect
insert_or o past actor txn table None row = refused refl
insert_or o past actor txn table (Some layout) row = insert_past o past (closed past actor table) (row_fault layout row) (holder o past txn table (key_of layout row) Exclusive) (row_now o past table (key_of layout row)) row _ (λ good. (good, refl)) (closed_refuses past actor table)

update_or : (o : Opening) (past : List Entry) (actor txn : ℕ) (table : List ℕ) (layout : Option Layout) (row : List Value) → WriteAt o past actor txn table layout (key_under layout row) (Some row) (update_reply o past actor txn table layout row)
unfolding effect
update_or o past actor txn table None row = refused refl
update_or o past actor txn table (Some layout) row = update_past o past (closed past actor table) (row_fault layout row) (holder o past txn table (key_of layout row) Exclusive) (row_now o past table (key_of layout row)) row _ (λ good. (good, refl)) (closed_refuses past actor table)

delete_or : (o : Opening) (past : List Entry) (actor txn : ℕ) (table : List ℕ) (layout : Option Layout) (key : List Value) → WriteAt o past actor txn table layout key None (delete_reply o past actor txn table layout key)
unfolding effect
delete_or o past actor txn table None key = refused refl
delete_or o past actor txn table (Some layout) key = delete_past o past (closed past actor table) (key_fault layout key) (holder o past txn table key Exclusive) (row_now o past table key) _ tt (closed_refuses past actor table)

-- the outcome of a read in a transaction
read_outcome : (o : Opening) (past : List Entry) (actor : ℕ) (answer shown_reply : Reply) (txn : ℕ) (table : List ℕ) (key : List Value) → ByClient actor → txn_of past actor ≡ Some txn → is_ending past txn ≡ false → answer ≡ shown_reply → ReadOr (closed past actor table) (holder o past txn table key Shared) (row_now o past table key) shown_reply → Outcome o past (asks actor (request.Read table key) answer)
read_outcome o past actor answer said txn table key client inside going e (refused quiet) = rests (ap effect e ∙ quiet)
read_outcome o past actor answer said txn table key client inside going e (shown opened free same) = reads (record {
  client = client;
  txn = txn;
  inside = inside;
  going_on = going;
  told = ap effect (e ∙ same) ∙ reads_row (row_now o past table key);
  table = table;
  key = key;
  asked = refl;
  opened = opened;
  free = free;
  shows = e ∙ same;
})

-- what a request that may write asks for: the lock on a key, and the record
record AsksWrite (o : Opening) (past : List Entry) (txn : ℕ) (asked : Request) (table : List ℕ) (key : List Value) (after : Option (List Value)) : Type 0 where
  names_table : (tables : List (List ℕ)) → event_names tables (event.Client asked) ≡ has_name tables table
  asks_key : (other : List ℕ) (at : List Value) → is_for_key (known o past) (event.Client asked) other at ≡ is_place table key other at
  makes : event_record (known o past) (row_in o past (log_of o past)) txn (event.Client asked) ≡ Some (write_record (row_in o past (log_of o past)) txn table key after)

-- the outcome of a request that may write
write_outcome : (o : Opening) (past : List Entry) (actor : ℕ) (asked : Request) (answer said : Reply) (txn : ℕ) (table : List ℕ) (key : List Value) (after : Option (List Value)) → ByClient actor → txn_of past actor ≡ Some txn → is_ending past txn ≡ false → answer ≡ said → AsksWrite o past txn asked table key after → WriteAt o past actor txn table (schema_of (known o past) table) key after said → Outcome o past (asks actor asked answer)
write_outcome o past actor asked answer said txn table key after client inside going e a (refused quiet) = rests (ap effect e ∙ quiet)
write_outcome o past actor asked answer said txn table key after client inside going e a (written opened free change fit told) = writes (record {
  client = client;
  txn = txn;
  inside = inside;
  going_on = going;
  told = ap effect e ∙ told;
  table = table;
  key = key;
  after = after;
  names = a.names_table;
  asks = a.asks_key;
  opened = opened;
  free = free;
  change = change;
  fits = fit;
  made = a.makes;
})

-- an undo undoes a write that is left, or ends the transaction
undo_outcome : (o : Opening) (past : List Entry) (actor : ℕ) (answer : Reply) (txn : ℕ) (left : List ℕ) → ByClient actor → txn_of past actor ≡ Some txn → writes_left txn (log_of o past) ≡ left → answer ≡ undo_answer o past left → Outcome o past (asks actor request.Undo answer)
unfolding effect
undo_outcome o past actor answer txn (lsn ∷ rest) client inside is e = undoes (record {
  client = client;
  txn = txn;
  inside = inside;
  told = ap effect e;
  lsn = lsn;
  rest = rest;
  left = is;
})
undo_outcome o past actor answer txn [] client inside is e = aborts (record {
  client = client;
  txn = txn;
  inside = inside;
  told = ap effect e;
  left = is;
})

-- the outcome of a request without a transaction
outside_outcome : (o : Opening) (past : List Entry) (actor : ℕ) (asked : Request) (answer : Reply) → ByClient actor → txn_of past actor ≡ None → answer ≡ reply_outside past asked → Outcome o past (asks actor asked answer)
unfolding reply_outside effect
outside_outcome o past actor request.Begin answer client outside e = begins (record { client = client; outside = outside; told = ap effect e })
outside_outcome o past actor (request.Read table key) answer client outside e = rests (ap effect e)
outside_outcome o past actor (request.Insert table row) answer client outside e = rests (ap effect e)
outside_outcome o past actor (request.Update table row) answer client outside e = rests (ap effect e)
outside_outcome o past actor (request.Delete table key) answer client outside e = rests (ap effect e)
outside_outcome o past actor request.Commit answer client outside e = rests (ap effect e)
outside_outcome o past actor request.Undo answer client outside e = rests (ap effect e)

insert_asks : (o : Opening) (past : List Entry) (txn : ℕ) (table : List ℕ) (row : List Value) → AsksWrite o past txn (request.Insert table row) table (key_in (known o past) table row) (Some row)
unfolding asks_for_key is_for_key request_record event_record request_names event_names
insert_asks o past txn table row = record { names_table = λ tables. refl; asks_key = λ other at. refl; makes = refl }

update_asks : (o : Opening) (past : List Entry) (txn : ℕ) (table : List ℕ) (row : List Value) → AsksWrite o past txn (request.Update table row) table (key_in (known o past) table row) (Some row)
unfolding asks_for_key is_for_key request_record event_record request_names event_names
update_asks o past txn table row = record { names_table = λ tables. refl; asks_key = λ other at. refl; makes = refl }

delete_asks : (o : Opening) (past : List Entry) (txn : ℕ) (table : List ℕ) (key : List Value) → AsksWrite o past txn (request.Delete table key) table key None
unfolding asks_for_key is_for_key request_record event_record request_names event_names
delete_asks o past txn table key = record { names_table = λ tables. refl; asks_key = λ other at. refl; makes = refl }

-- the outcome of a request in a transaction that isn't ending
inside_outcome : (o : Opening) (past : List Entry) (actor : ℕ) (asked : Request) (answer : Reply) (txn : ℕ) → ByClient actor → txn_of past actor ≡ Some txn → is_ending past txn ≡ false → answer ≡ reply_inside o past actor txn asked → Outcome o past (asks actor asked answer)
unfolding reply_inside effect
inside_outcome o past actor request.Begin answer txn client inside going e = rests (ap effect e)
inside_outcome o past actor (request.Read table key) answer txn client inside going e =
    read_outcome o past actor answer (read_reply o past actor txn table (schema_of (known o past) table) key) txn table key client inside going e (read_or o past actor txn table (schema_of (known o past) table) key)
inside_outcome o past actor (request.Insert table row) answer txn client inside going e =
    write_outcome o past actor (request.Insert table row) answer (insert_reply o past actor txn table (schema_of (known o past) table) row) txn table (key_in (known o past) table row) (Some row) client inside going e (insert_asks o past txn table row) (insert_or o past actor txn table (schema_of (known o past) table) row)
inside_outcome o past actor (request.Update table row) answer txn client inside going e =
    write_outcome o past actor (request.Update table row) answer (update_reply o past actor txn table (schema_of (known o past) table) row) txn table (key_in (known o past) table row) (Some row) client inside going e (update_asks o past txn table row) (update_or o past actor txn table (schema_of (known o past) table) row)
inside_outcome o past actor (request.Delete table key) answer txn client inside going e =
    write_outcome o past actor (request.Delete table key) answer (delete_reply o past actor txn table (schema_of (known o past) table) key) txn table key None client inside going e (delete_asks o past txn table key) (delete_or o past actor txn table (schema_of (known o past) table) key)
inside_outcome o past actor request.Commit answer txn client inside going e = commits (record { client = client; txn = txn; inside = inside; going_on = going; told = ap effect e })
inside_outcome o past actor request.Undo answer txn client inside going e = undo_outcome o past actor answer txn (writes_left txn (log_of o past)) client inside refl e

-- the outcome of a request in a transaction that is ending
ending_outcome : (o : Opening) (past : List Entry) (actor : ℕ) (asked : Request) (answer : Reply) (txn : ℕ) → ByClient actor → txn_of past actor ≡ Some txn → answer ≡ reply_ending o past txn asked → Outcome o past (asks actor asked answer)
unfolding reply_ending effect
ending_outcome o past actor request.Begin answer txn client inside e = rests (ap effect e)
ending_outcome o past actor (request.Read table key) answer txn client inside e = rests (ap effect e)
ending_outcome o past actor (request.Insert table row) answer txn client inside e = rests (ap effect e)
ending_outcome o past actor (request.Update table row) answer txn client inside e = rests (ap effect e)
ending_outcome o past actor (request.Delete table key) answer txn client inside e = rests (ap effect e)
ending_outcome o past actor request.Commit answer txn client inside e = rests (ap effect e)
ending_outcome o past actor request.Undo answer txn client inside e = undo_outcome o past actor answer txn (writes_left txn (log_of o past)) client inside refl e

in_outcome : (o : Opening) (past : List Entry) (actor : ℕ) (asked : Request) (answer : Reply) (txn : ℕ) (ending : Bool) → ByClient actor → txn_of past actor ≡ Some txn → is_ending past txn ≡ ending → answer ≡ (if ending then reply_ending o past txn asked else reply_inside o past actor txn asked) → Outcome o past (asks actor asked answer)
in_outcome o past actor asked answer txn true client inside is e = ending_outcome o past actor asked answer txn client inside e
in_outcome o past actor asked answer txn false client inside is e = inside_outcome o past actor asked answer txn client inside is e

txn_outcome : (o : Opening) (past : List Entry) (actor : ℕ) (asked : Request) (answer : Reply) (txn : Option ℕ) → ByClient actor → txn_of past actor ≡ txn → answer ≡ reply_in o past actor txn asked → Outcome o past (asks actor asked answer)
txn_outcome o past actor asked answer None client is e = outside_outcome o past actor asked answer client is e
txn_outcome o past actor asked answer (Some txn) client is e = in_outcome o past actor asked answer txn (is_ending past txn) client is refl e

client_outcome : (o : Opening) (past : List Entry) (actor : ℕ) (asked : Request) (answer : Reply) → AllowsClient o past actor asked answer → Outcome o past (asks actor asked answer)
client_outcome o past actor asked answer a = txn_outcome o past actor asked answer (txn_of past actor) (record { from_one = a.from_one; to_eight = a.to_eight }) refl a.answered

-- a start where no transformation has started
fault_outcome : (o : Opening) (past : List Entry) (spec : Spec) (answer : Reply) (fault : Option SpecFault) → phase past ≡ Idle → IsShaped spec → spec_fault o.catalog spec ≡ fault → answer ≡ start_answer o past fault → Outcome o past (record { actor = 0; event = event.Start spec Blocking; reply = answer })
unfolding effect
fault_outcome o past spec answer (Some fault) idle shaped is e = rests (ap effect e)
fault_outcome o past spec answer None idle shaped is e = starts (record {
  own = refl;
  idle = idle;
  spec = spec;
  shaped = shaped;
  fits = is;
  asked = refl;
  told = ap effect e;
})

phase_outcome : (o : Opening) (past : List Entry) (spec : Spec) (answer : Reply) (at : Phase) → phase past ≡ at → IsShaped spec → answer ≡ start_in o past at spec → Outcome o past (record { actor = 0; event = event.Start spec Blocking; reply = answer })
unfolding effect
phase_outcome o past spec answer Idle is shaped e = fault_outcome o past spec answer (spec_fault o.catalog spec) is shaped refl e
phase_outcome o past spec answer Scanning is shaped e = rests (ap effect e)
phase_outcome o past spec answer Chasing is shaped e = rests (ap effect e)
phase_outcome o past spec answer Draining is shaped e = rests (ap effect e)
phase_outcome o past spec answer Late is shaped e = rests (ap effect e)
phase_outcome o past spec answer Done is shaped e = rests (ap effect e)

start_outcome : (o : Opening) (past : List Entry) (actor : ℕ) (spec : Spec) (strategy : Strategy) (answer : Reply) → AllowsStart o past actor spec strategy answer → Outcome o past (record { actor = actor; event = event.Start spec strategy; reply = answer })
start_outcome o past actor spec strategy answer a =
    subst (λ n. Outcome o past (record { actor = n; event = event.Start spec strategy; reply = answer })) (sym a.propagator)
    (subst (λ t. Outcome o past (record { actor = 0; event = event.Start spec t; reply = answer })) (sym a.blocking) (phase_outcome o past spec answer (phase past) refl a.shaped a.answered))

-- a scan turn
scan_outcome : (o : Opening) (past : List Entry) (actor n : ℕ) (answer : Reply) → actor ≡ 0 → ScanAnswer o past n answer → Outcome o past (record { actor = actor; event = event.Scan n; reply = answer })
unfolding ScanAnswer effect
scan_outcome o past actor n (reply.Scanned side lsns last) own a = sees (record { own = own; size = n; side = side; lsns = lsns; last = last; turn = a; shows = refl; told = refl })
scan_outcome o past actor n reply.NoTransform own a = rests refl
scan_outcome o past actor n reply.ScanOver own a = rests refl
scan_outcome o past actor n other own a = absurd a

-- a horizontal split can't be violated
pub no_violation : (o : Opening) (past : List Entry) (spec : Spec) → IsShaped spec → violation o past spec ≡ None
no_violation o past (Part table tests passing failing) shaped = refl
no_violation o past (Join left right on_left on_right into) shaped = absurd shaped
no_violation o past (Split table by dep rest dependent) shaped = absurd shaped
no_violation o past (Union left right into) shaped = absurd shaped

-- an attempt to switch
attempted : (o : Opening) (past : List Entry) (e : Entry) (s : Started) (least : Option ℕ) (keys : Option (List Value × List Value)) → e.actor ≡ 0 → nat_lt 256 (length (log_of o past) - position o past) ≡ false → conflict o past s ≡ least → started past ≡ Some s → (phase past ≡ Chasing) ⊎ (phase past ≡ Draining) → keys ≡ None → e.reply ≡ unless_hindered least (unless_violated keys (reply.Switched (next_lsn o past))) → Outcome o past e
unfolding effect
attempted o past e s (Some txn) keys own short found is scanned agree told = conflicts (record { own = own; s = s; is = is; scanned = scanned }) (ap effect told)
attempted o past e s None None own short found is scanned agree told = switches (record { attempt = record { own = own; s = s; is = is; scanned = scanned }; short = short; free = found; told = ap effect told })
attempted o past e s None (Some both) own short found is scanned agree told = absurd (cc)

tail_outcome : (o : Opening) (past : List Entry) (e : Entry) (s : Started) (long : Bool) → e.actor ≡ 0 → nat_lt 256 (length (log_of o past) - position o past) ≡ long → started past ≡ Some s → IsShaped s.spec → (phase past ≡ Chasing) ⊎ (phase past ≡ Draining) → e.reply ≡ (if long then reply.Unread (position o past) (length (log_of o past)) else unless_hindered (conflict o past s) (unless_violated (violation o past s.spec) (reply.Switched (next_lsn o past)))) → Outcome o past e
unfolding effect
tail_outcome o past e s true own size is shaped scanned told = rests (ap effect told)
tail_outcome o past e s false own size is shaped scanned told = attempted o past e s (conflict o past s) (violation o past s.spec) own size refl is scanned (no_violation o past s.spec shaped) told

-- what was started is shaped as the engine can take it
abbrev pub AreShaped : List Entry → Type 0
AreShaped past = (s : Started) → started past ≡ Some s → IsShaped s.spec

attempt_outcome : (o : Opening) (past : List Entry) (e : Entry) (s : Option Started) → e.actor ≡ 0 → AreShaped past → started past ≡ s → (phase past ≡ Chasing) ⊎ (phase past ≡ Draining) → e.reply ≡ attempt_reply o past s → Outcome o past e
unfolding effect
attempt_outcome o past e None own shaped is scanned told = rests (ap effect told)
attempt_outcome o past e (Some s) own shaped is scanned told = tail_outcome o past e s (nat_lt 256 (length (log_of o past) - position o past)) own refl is (shaped s is) scanned told

switch_outcome : (o : Opening) (past : List Entry) (e : Entry) (at : Phase) → e.actor ≡ 0 → AreShaped past → phase past ≡ at → e.reply ≡ switch_in o past at → Outcome o past e
unfolding effect
switch_outcome o past e Idle own shaped is told = rests (ap effect told)
switch_outcome o past e Scanning own shaped is told = rests (ap effect told)
switch_outcome o past e Chasing own shaped is told = attempt_outcome o past e (started past) own shaped refl (inl is) told
switch_outcome o past e Draining own shaped is told = attempt_outcome o past e (started past) own shaped refl (inr is) told
switch_outcome o past e Late own shaped is told = rests (ap effect told)
switch_outcome o past e Done own shaped is told = rests (ap effect told)

-- a fetch
fetch_outcome : (o : Opening) (past : List Entry) (e : Entry) (n : ℕ) (at : Phase) → e.actor ≡ 0 → phase past ≡ at → e.reply ≡ fetch_in o past n at → Outcome o past e
unfolding effect
fetch_outcome o past e n Idle own is told = rests (ap effect told)
fetch_outcome o past e n Scanning own is told = rests (ap effect told)
fetch_outcome o past e n Chasing own is told = fetches (record { own = own; size = n; scanned = inl is; answered = told; place = min (position o past + n) (length (log_of o past)); up_to = refl; told = ap effect told })
fetch_outcome o past e n Draining own is told = fetches (record { own = own; size = n; scanned = inr is; answered = told; place = min (position o past + n) (length (log_of o past)); up_to = refl; told = ap effect told })
fetch_outcome o past e n Late own is told = rests (ap effect told)
fetch_outcome o past e n Done own is told = rests (ap effect told)

allowed_outcome : (o : Opening) (past : List Entry) (actor : ℕ) (asked : Event) (answer : Reply) → AreShaped past → Allows o past actor asked answer → Outcome o past (record { actor = actor; event = asked; reply = answer })
unfolding Allows
allowed_outcome o past actor (event.Client asked) answer shaped a = client_outcome o past actor asked answer a
allowed_outcome o past actor (event.Start spec strategy) answer shaped a = start_outcome o past actor spec strategy answer a
allowed_outcome o past actor (event.Scan n) answer shaped a = scan_outcome o past actor n answer a.propagator a.answered
allowed_outcome o past actor event.Switch answer shaped a = switch_outcome o past (record { actor = actor; event = event.Switch; reply = answer }) (phase past) a.propagator shaped refl a.answered
allowed_outcome o past actor (event.Fetch n) answer shaped a = fetch_outcome o past (record { actor = actor; event = event.Fetch n; reply = answer }) n (phase past) a.propagator refl a.answered
allowed_outcome o past actor (event.Check group) answer shaped a = absurd a
allowed_outcome o past actor event.Cancel answer shaped a = absurd a

-- each transformation that a legal journal started is a horizontal split
start_shaped : (o : Opening) (past : List Entry) (actor : ℕ) (asked : Event) (answer : Reply) (mark : ℕ) (s : Started) → AreShaped past → Allows o past actor asked answer → started_as asked mark (started past) ≡ Some s → IsShaped s.spec
unfolding Allows
start_shaped o past actor (event.Start spec strategy) answer mark s shaped a is =
    let same : record { spec = spec; strategy = strategy; mark = mark } ≡ s = cc in
    subst (λ (t : Started). IsShaped t.spec) same a.shaped
start_shaped o past actor (event.Client asked) answer mark s shaped a is = shaped s is
start_shaped o past actor (event.Scan n) answer mark s shaped a is = shaped s is
start_shaped o past actor event.Switch answer mark s shaped a is = shaped s is
start_shaped o past actor (event.Fetch n) answer mark s shaped a is = shaped s is
start_shaped o past actor (event.Check group) answer mark s shaped a is = shaped s is
start_shaped o past actor event.Cancel answer mark s shaped a is = shaped s is

effect_shaped : (o : Opening) (past : List Entry) (actor : ℕ) (asked : Event) (answer : Reply) (f : Effect) (s : Started) → AreShaped past → Allows o past actor asked answer → started_by asked f (started past) ≡ Some s → IsShaped s.spec
effect_shaped o past actor asked answer (Starts mark) s shaped a is = start_shaped o past actor asked answer mark s shaped a is
effect_shaped o past actor asked answer Nothing s shaped a is = shaped s is
effect_shaped o past actor asked answer Reads s shaped a is = shaped s is
effect_shaped o past actor asked answer (Begins txn) s shaped a is = shaped s is
effect_shaped o past actor asked answer Writes s shaped a is = shaped s is
effect_shaped o past actor asked answer Undoes s shaped a is = shaped s is
effect_shaped o past actor asked answer Commits s shaped a is = shaped s is
effect_shaped o past actor asked answer Aborts s shaped a is = shaped s is
effect_shaped o past actor asked answer (Sees lsns last) s shaped a is = shaped s is
effect_shaped o past actor asked answer (Fetches place) s shaped a is = shaped s is
effect_shaped o past actor asked answer Checks s shaped a is = shaped s is
effect_shaped o past actor asked answer Conflicts s shaped a is = shaped s is
effect_shaped o past actor asked answer Violates s shaped a is = shaped s is
effect_shaped o past actor asked answer Switches s shaped a is = shaped s is
effect_shaped o past actor asked answer Cancels s shaped a is = shaped s is

pub legal_shaped : (o : Opening) (past : List Entry) → Legal o past → AreShaped past
legal_shaped o [] l s is = absurd (cc)
legal_shaped o (e ∷ past) l s is = effect_shaped o past e.actor e.event e.reply (effect e.reply) s (legal_shaped o past l.0) l.1.allowed is

-- what the last entry of a legal journal does
pub outcome : (o : Opening) (past : List Entry) (e : Entry) → Legal o (e ∷ past) → Outcome o past e
outcome o past e l = allowed_outcome o past e.actor e.event e.reply (legal_shaped o past l.0) l.1.allowed
