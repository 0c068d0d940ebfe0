-- The answers to an attempt to switch.
use Rattle.std.specs.Prelude.{◌-◌, ◌==◌, ◌&&◌, ◌||◌, Bool, true, false, ℕ, List, [], ◌∷◌, length, map, filter, nat_lt, Option, Some, None, if◌then◌else◌}
use Rattle.sx_values.specs.declared.value.Value.{Value}
use Rattle.sx_values.specs.Names.{has_name}
use Rattle.sx_values.specs.Layouts.{Layout}
use Rattle.sx_values.specs.Catalogs.{schema_of}
use Rattle.sx_log.specs.declared.record.Rec.{Rec}
use Rattle.sx_log.specs.declared.record.Body.{Body}
use Rattle.sx_log.specs.declared.record.Body.TheVariants as body
use Rattle.sx_log.specs.Rows.{Keyed, rows_left}
use Rattle.sx_ops.specs.declared.spec.Spec.{Spec}
use Rattle.sx_ops.specs.declared.spec.Spec.TheVariants.{Join, Split, Part, Union}
use Rattle.sx_ops.specs.Operators.{sources_of, is_split}
use Rattle.sx_ops.specs.Disagreements.{first_disagreement}
use Rattle.sx_sync.specs.declared.Phase.{Phase}
use Rattle.sx_sync.specs.declared.Phase.TheVariants.{Idle, Scanning, Chasing, Draining, Late, Done}
use Rattle.sx_journal.specs.declared.entry.Entry.{Entry}
use Rattle.sx_journal.specs.declared.entry.Event.{Event}
use Rattle.sx_journal.specs.declared.entry.Event.TheVariants as event
use Rattle.sx_journal.specs.declared.entry.Request.{Request}
use Rattle.sx_journal.specs.declared.entry.Request.TheVariants as request
use Rattle.sx_journal.specs.declared.entry.Reply.{Reply}
use Rattle.sx_journal.specs.declared.entry.Reply.TheVariants as reply
use Rattle.sx_model.specs.Effects.{Effect, Reads, Begins, Writes, Starts, Fetches, Violates, effect}
use Rattle.sx_model.specs.Openings.{Opening}
use Rattle.sx_model.specs.Leaves.{Living, living, Started, started, phase}
use Rattle.sx_sync.specs.Ready.{is_blocking}
use Rattle.sx_model.specs.Logs.{log_of, next_lsn}
use Rattle.sx_sync.specs.Ready.{least}

-- the position after an answer: a start sets it to its Mark, a fetch to the end of what it fetched, an attempt that finds a disagreement to the end of the log
abbrev pub position_after : ℕ → Effect → ℕ → ℕ
position_after end (Starts mark) position = mark
position_after end (Fetches place) position = place
position_after end Violates position = end
position_after end other position = position

-- how far the propagator has read the log
abbrev pub position : Opening → List Entry → ℕ
position o [] = 0
position o (e ∷ past) = position_after (length (log_of o (e ∷ past))) (effect e.reply) (position o past)

-- whether a reply takes a lock
abbrev pub takes_lock : Effect → Bool
takes_lock Writes = true
takes_lock Reads = true
takes_lock other = false

-- whether a transaction begins with an answer
abbrev pub begins : Effect → Bool
begins (Begins txn) = true
begins other = false

-- whether a request names one of these tables
unfoldable pub request_names : List (List ℕ) → Request → Bool
request_names tables (request.Read table key) = has_name tables table
request_names tables (request.Insert table row) = has_name tables table
request_names tables (request.Update table row) = has_name tables table
request_names tables (request.Delete table key) = has_name tables table
request_names tables other = false

-- whether an event asks for a row of one of these tables
unfoldable pub event_names : List (List ℕ) → Event → Bool
event_names tables (event.Client asked) = request_names tables asked
event_names tables other = false

-- whether a client's transaction, begun last, has a lock on one of these tables
abbrev pub has_lock_on : List (List ℕ) → ℕ → List Entry → Bool
has_lock_on tables client [] = false
has_lock_on tables client (e ∷ past) =
    if e.actor == client then
    (if begins (effect e.reply) then false else (takes_lock (effect e.reply) && event_names tables e.event) || has_lock_on tables client past)
    else has_lock_on tables client past

-- whether a record writes to one of these tables
unfoldable pub is_on : List (List ℕ) → Body → Bool
is_on tables (body.Write table key before after) = has_name tables table
is_on tables (body.Undo undoes table key before after) = has_name tables table
is_on tables other = false

-- whether a transaction has a record on one of these tables
abbrev pub wrote_on : List (List ℕ) → ℕ → List Rec → Bool
wrote_on tables txn [] = false
wrote_on tables txn (r ∷ past) = ((r.txn == txn) && is_on tables r.body) || wrote_on tables txn past

-- whether a live transaction hinders the switch: under blocking commit by a lock on a source, else by a record on the source of a vertical split
abbrev pub conflicts : Opening → List Entry → Started → Living → Bool
conflicts o past s l =
    if is_blocking s.strategy then has_lock_on (sources_of s.spec) l.client past
    else is_split s.spec && wrote_on (sources_of s.spec) l.txn (log_of o past)

-- the least live transaction that hinders the switch
abbrev pub conflict : Opening → List Entry → Started → Option ℕ
conflict o past s = least (map (λ (l : Living). l.txn) (filter (conflicts o past s) (living past)))

-- the rows of a declared table now, in key order
abbrev pub rows_now : Opening → List Entry → List ℕ → List (List Value)
rows_now o past table = map (λ (k : Keyed). k.row) (rows_left (log_of o past) table)

-- the first disagreement of a table with this schema, if it is declared
abbrev pub disagreement : Option Layout → List (List ℕ) → List (List ℕ) → List (List Value) → Option (List Value × List Value)
disagreement None by dep rows = None
disagreement (Some layout) by dep rows = first_disagreement layout by dep rows

-- the first disagreement of a vertical split's source now, if its rows disagree; no other transformation can be violated
abbrev pub violation : Opening → List Entry → Spec → Option (List Value × List Value)
violation o past (Split table by dep rest dependent) = disagreement (schema_of o.catalog table) by dep (rows_now o past table)
violation o past (Join left right on_left on_right into) = None
violation o past (Part table tests passing failing) = None
violation o past (Union left right into) = None

-- the switch, unless two rows disagree
abbrev pub unless_violated : Option (List Value × List Value) → Reply → Reply
unless_violated (Some keys) answer = reply.Violated keys.0 keys.1
unless_violated None answer = answer

-- the switch, unless a transaction hinders it
abbrev pub unless_hindered : Option ℕ → Reply → Reply
unless_hindered (Some txn) answer = reply.Conflict txn
unless_hindered None answer = answer

-- an attempt whose tail is the records from the position to the log's end
abbrev pub tail_reply : Opening → List Entry → Started → ℕ → ℕ → Reply
tail_reply o past s position end =
    if nat_lt 256 (end - position) then reply.Unread position end
    else unless_hindered (conflict o past s) (unless_violated (violation o past s.spec) (reply.Switched (next_lsn o past)))

-- an attempt to switch the transformation that has started, if one has
abbrev pub attempt_reply : Opening → List Entry → Option Started → Reply
attempt_reply o past None = reply.NoTransform
attempt_reply o past (Some s) = tail_reply o past s (position o past) (length (log_of o past))

-- an attempt is answered by the phase: only a scan that has ended lets it go on
abbrev pub switch_in : Opening → List Entry → Phase → Reply
switch_in o past Idle = reply.NoTransform
switch_in o past Scanning = reply.NotScanned
switch_in o past Chasing = attempt_reply o past (started past)
switch_in o past Draining = attempt_reply o past (started past)
switch_in o past Late = reply.NoTransform
switch_in o past Done = reply.NoTransform

-- the answer to an attempt to switch: the first refusal that holds, in their order, else Switched
abbrev pub switch_reply : Opening → List Entry → Reply
switch_reply o past = switch_in o past (phase past)
