-- The answers to a client's requests and to a start.
use Rattle.std.specs.Prelude.{◌+◌, ℕ, List, [], ◌∷◌, Option, Some, None, if◌then◌else◌}
use Rattle.sx_values.specs.declared.value.Value.{Value}
use Rattle.sx_values.specs.declared.schema.BadRow.{BadRow}
use Rattle.sx_values.specs.Layouts.{Layout, row_fault, key_fault, key_of}
use Rattle.sx_values.specs.Catalogs.{schema_of}
use Rattle.sx_log.specs.Undoing.{writes_left}
use Rattle.sx_locks.specs.declared.mode.Mode.TheVariants.{Shared, Exclusive}
use Rattle.sx_ops.specs.declared.spec.Spec.{Spec}
use Rattle.sx_ops.specs.declared.spec.SpecFault.{SpecFault}
use Rattle.sx_ops.specs.Checks.{spec_fault}
use Rattle.sx_sync.specs.declared.Phase.{Phase}
use Rattle.sx_sync.specs.declared.Phase.TheVariants.{Idle, Scanning, Chasing, Draining, Late, Done}
use Rattle.sx_journal.specs.declared.entry.Entry.{Entry}
use Rattle.sx_journal.specs.declared.entry.Request.{Request}
use Rattle.sx_journal.specs.declared.entry.Request.TheVariants as request
use Rattle.sx_journal.specs.declared.entry.Reply.{Reply}
use Rattle.sx_journal.specs.declared.entry.Reply.TheVariants as reply
use Rattle.sx_model.specs.Openings.{Opening}
use Rattle.sx_model.specs.Leaves.{txn_of, begun, phase}
use Rattle.sx_model.specs.Logs.{log_of, next_lsn, row_now}
use Rattle.sx_model.specs.Held.{is_ending, holder}
use Rattle.sx_model.specs.Known.{known}
use Rattle.sx_model.specs.Closed.{closed}

-- a fault of the row or key goes before what depends on locks and on the row that is there
abbrev pub unless_bad : Option BadRow → Reply → Reply
unless_bad (Some bad) answer = reply.BadRow bad
unless_bad None answer = answer

-- a table that is closed to the transaction goes before a fault of the row or key
abbrev pub unless_closed : Option Reply → Reply → Reply
unless_closed (Some refusal) answer = refusal
unless_closed None answer = answer

-- another transaction's lock goes before what depends on the row that is there
abbrev pub unless_held : Option ℕ → Reply → Reply
unless_held (Some by) answer = reply.Held by
unless_held None answer = answer

-- a read, from the row that the key has now
abbrev pub read_answer : Option (List Value) → Reply
read_answer (Some row) = reply.Row row
read_answer None = reply.Absent

-- an insert of a row, from the row that its key has now
abbrev pub insert_answer : Opening → List Entry → Option (List Value) → Reply
insert_answer o past (Some row) = reply.Exists
insert_answer o past None = reply.Done (next_lsn o past)

-- an update or a delete, from the row that the key has now
abbrev pub change_answer : Opening → List Entry → Option (List Value) → Reply
change_answer o past (Some row) = reply.Done (next_lsn o past)
change_answer o past None = reply.Missing

-- a read is refused where its table has no such name, its key isn't admitted or another transaction writes it
abbrev pub read_reply : Opening → List Entry → ℕ → ℕ → List ℕ → Option Layout → List Value → Reply
read_reply o past client txn table None key = reply.NoTable
read_reply o past client txn table (Some layout) key =
    unless_closed (closed past client table) (unless_bad (key_fault layout key) (unless_held (holder o past txn table key Shared) (read_answer (row_now o past table key))))

-- an insert is refused where its table has no such name, its row isn't admitted, another transaction has its key or the key is there
abbrev pub insert_reply : Opening → List Entry → ℕ → ℕ → List ℕ → Option Layout → List Value → Reply
insert_reply o past client txn table None row = reply.NoTable
insert_reply o past client txn table (Some layout) row =
    unless_closed (closed past client table) (unless_bad (row_fault layout row) (unless_held (holder o past txn table (key_of layout row) Exclusive) (insert_answer o past (row_now o past table (key_of layout row)))))

-- an update is refused where its table has no such name, its row isn't admitted, another transaction has its key or the key is missing
abbrev pub update_reply : Opening → List Entry → ℕ → ℕ → List ℕ → Option Layout → List Value → Reply
update_reply o past client txn table None row = reply.NoTable
update_reply o past client txn table (Some layout) row =
    unless_closed (closed past client table) (unless_bad (row_fault layout row) (unless_held (holder o past txn table (key_of layout row) Exclusive) (change_answer o past (row_now o past table (key_of layout row)))))

-- a delete is refused where its table has no such name, its key isn't admitted, another transaction has it or it is missing
abbrev pub delete_reply : Opening → List Entry → ℕ → ℕ → List ℕ → Option Layout → List Value → Reply
delete_reply o past client txn table None key = reply.NoTable
delete_reply o past client txn table (Some layout) key =
    unless_closed (closed past client table) (unless_bad (key_fault layout key) (unless_held (holder o past txn table key Exclusive) (change_answer o past (row_now o past table key))))

-- an undo, from the writes that are left to undo
abbrev pub undo_answer : Opening → List Entry → List ℕ → Reply
undo_answer o past (lsn ∷ left) = reply.Undone (next_lsn o past)
undo_answer o past [] = reply.Aborted (next_lsn o past)

-- an undo undoes the last write that is left, or ends the transaction
abbrev pub undo_reply : Opening → List Entry → ℕ → Reply
undo_reply o past txn = undo_answer o past (writes_left txn (log_of o past))

-- the answer without a live transaction
unfoldable pub reply_outside : List Entry → Request → Reply
reply_outside past request.Begin = reply.Begun (begun past + 1)
reply_outside past other = reply.NoTxn

-- the answer in a live transaction that isn't ending
unfoldable pub reply_inside : Opening → List Entry → ℕ → ℕ → Request → Reply
reply_inside o past client txn request.Begin = reply.Already
reply_inside o past client txn (request.Read table key) = read_reply o past client txn table (schema_of (known o past) table) key
reply_inside o past client txn (request.Insert table row) = insert_reply o past client txn table (schema_of (known o past) table) row
reply_inside o past client txn (request.Update table row) = update_reply o past client txn table (schema_of (known o past) table) row
reply_inside o past client txn (request.Delete table key) = delete_reply o past client txn table (schema_of (known o past) table) key
reply_inside o past client txn request.Commit = reply.Committed (next_lsn o past)
reply_inside o past client txn request.Undo = undo_reply o past txn

-- the answer in a transaction that is ending: it has only Undo left
unfoldable pub reply_ending : Opening → List Entry → ℕ → Request → Reply
reply_ending o past txn request.Begin = reply.Already
reply_ending o past txn request.Undo = undo_reply o past txn
reply_ending o past txn other = reply.Ending

-- the answer to a client that is in this transaction, or in none
abbrev pub reply_in : Opening → List Entry → ℕ → Option ℕ → Request → Reply
reply_in o past client None asked = reply_outside past asked
reply_in o past client (Some txn) asked = if is_ending past txn then reply_ending o past txn asked else reply_inside o past client txn asked

-- the answer to a client's request: the first refusal that holds, in the order of the refusals, else what was asked
abbrev pub client_reply : Opening → List Entry → ℕ → Request → Reply
client_reply o past client asked = reply_in o past client (txn_of past client) asked

-- a start where no transformation has started, or the last was cancelled
abbrev pub start_answer : Opening → List Entry → Option SpecFault → Reply
start_answer o past (Some fault) = reply.BadSpec fault
start_answer o past None = reply.Started (next_lsn o past)

-- a start is answered by the phase: only an idle machine looks at the transformation
abbrev pub start_in : Opening → List Entry → Phase → Spec → Reply
start_in o past Idle spec = start_answer o past (spec_fault o.catalog spec)
start_in o past Scanning spec = reply.Running
start_in o past Chasing spec = reply.Running
start_in o past Draining spec = reply.Running
start_in o past Late spec = reply.Spent
start_in o past Done spec = reply.Spent

-- the answer to a start
abbrev pub start_reply : Opening → List Entry → Spec → Reply
start_reply o past spec = start_in o past (phase past) spec
