-- What a client must be answered, outcome by outcome: over plain variables.
use Rattle.std.proofs.lemmas.Bool.{false≢true}
use Rattle.std.proofs.Common.{◌≡◌, ◌+◌, ◌∷◌, [], ℕ, Bool, true, false, List, Option, Some, None, IfSome, option_map, refl, sym, ◌∙◌, ap, if◌then◌else◌}
use Rattle.sx_values.specs.declared.value.Value.{Value}
use Rattle.sx_values.specs.declared.schema.BadRow.{BadRow}
use Rattle.sx_values.specs.declared.catalog.Declared.{Declared}
use Rattle.sx_values.specs.Layouts.{Layout, key_fault}
use Rattle.sx_values.specs.Catalogs.{schema_of}
use Rattle.sx_log.specs.State.{is_place}
use Rattle.sx_log.specs.Undoing.{writes_left}
use Rattle.sx_locks.specs.declared.mode.Mode.TheVariants.{Shared, Exclusive}
use Rattle.sx_txn.specs.declared.answers.Change.{Change}
use Rattle.sx_txn.specs.declared.answers.Change.TheVariants.{Insert, Replace, Delete}
use Rattle.sx_txn.specs.declared.answers.TxnWrite.TheVariants as write
use Rattle.sx_txn.specs.Turns.{key_of_change, image_of}
use Rattle.sx_txn.specs.Answers.{refusal}
use Rattle.sx_journal.specs.declared.entry.Entry.{Entry}
use Rattle.sx_journal.specs.declared.entry.Event.TheVariants as event
use Rattle.sx_journal.specs.declared.entry.Request.{Request}
use Rattle.sx_journal.specs.declared.entry.Request.TheVariants as request
use Rattle.sx_journal.specs.declared.entry.Reply.{Reply}
use Rattle.sx_journal.specs.declared.entry.Reply.TheVariants as reply
use Rattle.sx_model.specs.Effects.{Nothing, Reads, Begins, Writes, Undoes, Commits, Aborts, effect}
use Rattle.sx_model.specs.Openings.{Opening}
use Rattle.sx_lists.specs.Answers.{or_later}
use Rattle.sx_values.specs.Names.{has_name}
use Rattle.sx_ops.specs.Operators.{sources_of, targets_of}
use Rattle.sx_log.specs.Undoing.{Rows}
use Rattle.sx_sync.specs.declared.Phase.{Phase}
use Rattle.sx_sync.specs.declared.Phase.TheVariants.{Idle, Scanning, Chasing, Draining, Late, Done}
use Rattle.sx_model.specs.Known.{known}
use Rattle.sx_model.specs.Closed.{closed, closed_in, closed_by}
use Rattle.sx_model.specs.Switches.{has_lock_on}
use Rattle.sx_model.specs.Leaves.{Started, started, phase, txn_of, begun}
use Rattle.sx_model.proofs.Outcomes.{IsRefusal, closed_refuses}
use Rattle.sx_model.specs.Logs.{log_of, next_lsn, row_now, write_record, request_record, event_record}
use Rattle.sx_model.specs.Held.{is_ending, holder, asks_for_key, is_for_key}
use Rattle.sx_model.specs.Replies.{unless_closed, unless_bad, unless_held, read_answer, insert_answer, change_answer, read_reply, insert_reply, update_reply, delete_reply, undo_reply, undo_answer, reply_outside, reply_inside, reply_ending, client_reply, reply_in}
use Rattle.sx_model.specs.Schedules.{commits_now}
use Rattle.sx_model.specs.Legal.{is_committed}
use Rattle.sx_core.specs.Asked.{asked_for}
use Rattle.sx_core.specs.Refusals.{key_refused, change_fault, change_refused}

-- ** outside a transaction **

outside-answered : (o : Opening) (past : List Entry) (actor : ℕ) (asked : Request) → txn_of past actor ≡ None → client_reply o past actor asked ≡ reply_outside past asked
outside-answered o past actor asked outside = ap (λ t. reply_in o past actor t asked) outside

pub begin-answered : (o : Opening) (past : List Entry) (actor : ℕ) → txn_of past actor ≡ None → client_reply o past actor request.Begin ≡ reply.Begun (begun past + 1)
unfolding reply_outside
begin-answered o past actor outside = outside-answered o past actor request.Begin outside

no_txn : (past : List Entry) (asked : Request) → (asked ≡ request.Begin → ⊥) → reply_outside past asked ≡ reply.NoTxn
unfolding reply_outside
no_txn past request.Begin other = absurd (other refl)
no_txn past (request.Read table key) other = refl
no_txn past (request.Insert table row) other = refl
no_txn past (request.Update table row) other = refl
no_txn past (request.Delete table key) other = refl
no_txn past request.Commit other = refl
no_txn past request.Undo other = refl

pub no_txn-answered : (o : Opening) (past : List Entry) (actor : ℕ) (asked : Request) → txn_of past actor ≡ None → (asked ≡ request.Begin → ⊥) → client_reply o past actor asked ≡ reply.NoTxn
no_txn-answered o past actor asked outside other = outside-answered o past actor asked outside ∙ no_txn past asked other

-- ** in a transaction that is ending **

ending-answered : (o : Opening) (past : List Entry) (actor txn : ℕ) (asked : Request) → txn_of past actor ≡ Some txn → is_ending past txn ≡ true → client_reply o past actor asked ≡ reply_ending o past txn asked
ending-answered o past actor txn asked inside ends =
    ap (λ t. reply_in o past actor t asked) inside ∙ ap (λ b. if b then reply_ending o past txn asked else reply_inside o past actor txn asked) ends

only_undo : (o : Opening) (past : List Entry) (txn : ℕ) (asked : Request) → (asked ≡ request.Begin → ⊥) → (asked ≡ request.Undo → ⊥) → reply_ending o past txn asked ≡ reply.Ending
unfolding reply_ending
only_undo o past txn request.Begin other undo = absurd (other refl)
only_undo o past txn (request.Read table key) other undo = refl
only_undo o past txn (request.Insert table row) other undo = refl
only_undo o past txn (request.Update table row) other undo = refl
only_undo o past txn (request.Delete table key) other undo = refl
only_undo o past txn request.Commit other undo = refl
only_undo o past txn request.Undo other undo = absurd (undo refl)

pub only_undo-answered : (o : Opening) (past : List Entry) (actor txn : ℕ) (asked : Request) → txn_of past actor ≡ Some txn → is_ending past txn ≡ true → (asked ≡ request.Begin → ⊥) → (asked ≡ request.Undo → ⊥)
    → client_reply o past actor asked ≡ reply.Ending
only_undo-answered o past actor txn asked inside ends other undo = ending-answered o past actor txn asked inside ends ∙ only_undo o past txn asked other undo

-- ** in a transaction **

pub inside-answered : (o : Opening) (past : List Entry) (actor txn : ℕ) (asked : Request) → txn_of past actor ≡ Some txn → is_ending past txn ≡ false → client_reply o past actor asked ≡ reply_inside o past actor txn asked
inside-answered o past actor txn asked inside rests =
    ap (λ t. reply_in o past actor t asked) inside ∙ ap (λ b. if b then reply_ending o past txn asked else reply_inside o past actor txn asked) rests

already : (o : Opening) (past : List Entry) (actor txn : ℕ) (b : Bool) → (if b then reply_ending o past txn request.Begin else reply_inside o past actor txn request.Begin) ≡ reply.Already
unfolding reply_ending reply_inside
already o past actor txn true = refl
already o past actor txn false = refl

pub already-answered : (o : Opening) (past : List Entry) (actor txn : ℕ) → txn_of past actor ≡ Some txn → client_reply o past actor request.Begin ≡ reply.Already
already-answered o past actor txn inside = ap (λ t. reply_in o past actor t request.Begin) inside ∙ already o past actor txn (is_ending past txn)

undoes : (o : Opening) (past : List Entry) (actor txn : ℕ) (b : Bool) → (if b then reply_ending o past txn request.Undo else reply_inside o past actor txn request.Undo) ≡ undo_reply o past txn
unfolding reply_ending reply_inside
undoes o past actor txn true = refl
undoes o past actor txn false = refl

undo-answered : (o : Opening) (past : List Entry) (actor txn : ℕ) → txn_of past actor ≡ Some txn → client_reply o past actor request.Undo ≡ undo_reply o past txn
undo-answered o past actor txn inside = ap (λ t. reply_in o past actor t request.Undo) inside ∙ undoes o past actor txn (is_ending past txn)

pub undone-answered : (o : Opening) (past : List Entry) (actor txn lsn : ℕ) (rest : List ℕ) → txn_of past actor ≡ Some txn → writes_left txn (log_of o past) ≡ lsn ∷ rest → client_reply o past actor request.Undo ≡ reply.Undone (next_lsn o past)
undone-answered o past actor txn lsn rest inside left = undo-answered o past actor txn inside ∙ ap (undo_answer o past) left

pub aborted-answered : (o : Opening) (past : List Entry) (actor txn : ℕ) → txn_of past actor ≡ Some txn → writes_left txn (log_of o past) ≡ [] → client_reply o past actor request.Undo ≡ reply.Aborted (next_lsn o past)
aborted-answered o past actor txn inside left = undo-answered o past actor txn inside ∙ ap (undo_answer o past) left

commits : (o : Opening) (past : List Entry) (actor txn : ℕ) → reply_inside o past actor txn request.Commit ≡ reply.Committed (next_lsn o past)
unfolding reply_inside
commits o past actor txn = refl

pub commit-answered : (o : Opening) (past : List Entry) (actor txn : ℕ) → txn_of past actor ≡ Some txn → is_ending past txn ≡ false → client_reply o past actor request.Commit ≡ reply.Committed (next_lsn o past)
commit-answered o past actor txn inside rests = inside-answered o past actor txn request.Commit inside rests ∙ commits o past actor txn

-- ** reads **

reads : (o : Opening) (past : List Entry) (actor txn : ℕ) (table : List ℕ) (key : List Value) → reply_inside o past actor txn (request.Read table key) ≡ read_reply o past actor txn table (schema_of (known o past) table) key
unfolding reply_inside
reads o past actor txn table key = refl

-- a refusal changes nothing, and is the answer
pub record IsRefused (answer shown : Reply) : Type 0 where
  pub is : shown ≡ answer
  pub quiet : effect answer ≡ Nothing

bad_refused : (bad : Option BadRow) (rest answer : Reply) → option_map reply.BadRow bad ≡ Some answer → IsRefused answer (unless_bad bad rest)
unfolding effect
bad_refused None rest answer e = absurd (cc)
bad_refused (Some bad) rest answer e = let same : reply.BadRow bad ≡ answer = cc in record { is = same; quiet = ap effect (sym same) }

shut_refused : (shut : Option Reply) (bad : Option BadRow) (rest answer : Reply) → IfSome shut IsRefusal → or_later shut (option_map reply.BadRow bad) ≡ Some answer → IsRefused answer (unless_closed shut (unless_bad bad rest))
shut_refused None bad rest answer quiet e = bad_refused bad rest answer e
shut_refused (Some refusal) bad rest answer quiet e = let same : refusal ≡ answer = cc in record { is = same; quiet = ap effect (sym same) ∙ quiet }

no_table_refused : (answer : Reply) → Some reply.NoTable ≡ Some answer → IsRefused answer reply.NoTable
unfolding effect
no_table_refused answer e = let same : reply.NoTable ≡ answer = cc in record { is = same; quiet = ap effect (sym same) }

read_refused : (o : Opening) (past : List Entry) (actor txn : ℕ) (table : List ℕ) (layout : Option Layout) (key : List Value) (answer : Reply) → key_refused layout (closed past actor table) key ≡ Some answer → IsRefused answer (read_reply o past actor txn table layout key)
read_refused o past actor txn table None key answer e = no_table_refused answer e
read_refused o past actor txn table (Some layout) key answer e = shut_refused (closed past actor table) (key_fault layout key) _ answer (closed_refuses past actor table) e

pub read-refused : (o : Opening) (past : List Entry) (actor txn : ℕ) (table : List ℕ) (key : List Value) (answer : Reply) → txn_of past actor ≡ Some txn → is_ending past txn ≡ false → key_refused (schema_of (known o past) table) (closed past actor table) key ≡ Some answer
    → IsRefused answer (client_reply o past actor (request.Read table key))
read-refused o past actor txn table key answer inside rests e =
    let refused = read_refused o past actor txn table (schema_of (known o past) table) key answer e in
    record { is = inside-answered o past actor txn (request.Read table key) inside rests ∙ reads o past actor txn table key ∙ refused.is; quiet = refused.quiet }

-- a table that has a name and is open to the transaction, and whose schema admits what is asked
pub record IsGood (layout : Option Layout) (shut : Option Reply) (fault : Layout → Option BadRow) : Type 0 where
  pub schema : Layout
  pub declared : layout ≡ Some schema
  pub opened : shut ≡ None
  pub admitted : fault schema ≡ None

none_bad : (shut : Option Reply) (bad : Option BadRow) → or_later shut (option_map reply.BadRow bad) ≡ None → (shut ≡ None) × (bad ≡ None)
none_bad None None e = (refl, refl)
none_bad None (Some bad) e = absurd (cc)
none_bad (Some refusal) bad e = absurd (cc)

pub key_good : (layout : Option Layout) (shut : Option Reply) (key : List Value) → key_refused layout shut key ≡ None → IsGood layout shut (λ schema. key_fault schema key)
key_good None shut key e = absurd (cc)
key_good (Some layout) shut key e = let none = none_bad shut (key_fault layout key) e in record { schema = layout; declared = refl; opened = none.0; admitted = none.1 }

pub read-answered : (o : Opening) (past : List Entry) (actor txn : ℕ) (table : List ℕ) (key : List Value) → txn_of past actor ≡ Some txn → is_ending past txn ≡ false → IsGood (schema_of (known o past) table) (closed past actor table) (λ schema. key_fault schema key)
    → client_reply o past actor (request.Read table key) ≡ unless_held (holder o past txn table key Shared) (read_answer (row_now o past table key))
read-answered o past actor txn table key inside rests good =
    inside-answered o past actor txn (request.Read table key) inside rests ∙ reads o past actor txn table key
    ∙ ap (λ layout. read_reply o past actor txn table layout key) good.declared
    ∙ ap (λ shut. unless_closed shut (unless_bad (key_fault good.schema key) (unless_held (holder o past txn table key Shared) (read_answer (row_now o past table key))))) good.opened
    ∙ ap (λ bad. unless_bad bad (unless_held (holder o past txn table key Shared) (read_answer (row_now o past table key)))) good.admitted

-- ** changes **

-- what a change is answered that no lock hinders, by the row that is there
abbrev pub change_told : Opening → List Entry → Change → Option (List Value) → Reply
change_told o past (Insert row) there = insert_answer o past there
change_told o past (Replace row) there = change_answer o past there
change_told o past (Delete key) there = change_answer o past there

-- the answer to the request that asks for a change
abbrev pub change_reply : Opening → List Entry → ℕ → ℕ → List ℕ → Option Layout → Change → Reply
change_reply o past actor txn table None change = reply.NoTable
change_reply o past actor txn table (Some layout) change =
    unless_closed (closed past actor table) (unless_bad (change_fault layout change) (unless_held (holder o past txn table (key_of_change layout change) Exclusive) (change_told o past change (row_now o past table (key_of_change layout change)))))

insert_same : (o : Opening) (past : List Entry) (actor txn : ℕ) (table : List ℕ) (layout : Option Layout) (row : List Value) → insert_reply o past actor txn table layout row ≡ change_reply o past actor txn table layout (Insert row)
insert_same o past actor txn table None row = refl
insert_same o past actor txn table (Some layout) row = refl

update_same : (o : Opening) (past : List Entry) (actor txn : ℕ) (table : List ℕ) (layout : Option Layout) (row : List Value) → update_reply o past actor txn table layout row ≡ change_reply o past actor txn table layout (Replace row)
update_same o past actor txn table None row = refl
update_same o past actor txn table (Some layout) row = refl

delete_same : (o : Opening) (past : List Entry) (actor txn : ℕ) (table : List ℕ) (layout : Option Layout) (key : List Value) → delete_reply o past actor txn table layout key ≡ change_reply o past actor txn table layout (Delete key)
delete_same o past actor txn table None key = refl
delete_same o past actor txn table (Some layout) key = refl

changes : (o : Opening) (past : List Entry) (actor txn : ℕ) (table : List ℕ) (change : Change) → reply_inside o past actor txn (asked_for table change) ≡ change_reply o past actor txn table (schema_of (known o past) table) change
unfolding reply_inside
changes o past actor txn table (Insert row) = insert_same o past actor txn table (schema_of (known o past) table) row
changes o past actor txn table (Replace row) = update_same o past actor txn table (schema_of (known o past) table) row
changes o past actor txn table (Delete key) = delete_same o past actor txn table (schema_of (known o past) table) key

change_refused_is : (o : Opening) (past : List Entry) (actor txn : ℕ) (table : List ℕ) (layout : Option Layout) (change : Change) (answer : Reply) → change_refused layout (closed past actor table) change ≡ Some answer → IsRefused answer (change_reply o past actor txn table layout change)
change_refused_is o past actor txn table None change answer e = no_table_refused answer e
change_refused_is o past actor txn table (Some layout) change answer e = shut_refused (closed past actor table) (change_fault layout change) _ answer (closed_refuses past actor table) e

pub change-refused : (o : Opening) (past : List Entry) (actor txn : ℕ) (table : List ℕ) (change : Change) (answer : Reply) → txn_of past actor ≡ Some txn → is_ending past txn ≡ false → change_refused (schema_of (known o past) table) (closed past actor table) change ≡ Some answer
    → IsRefused answer (client_reply o past actor (asked_for table change))
change-refused o past actor txn table change answer inside rests e =
    let refused = change_refused_is o past actor txn table (schema_of (known o past) table) change answer e in
    record { is = inside-answered o past actor txn (asked_for table change) inside rests ∙ changes o past actor txn table change ∙ refused.is; quiet = refused.quiet }

pub change_good : (layout : Option Layout) (shut : Option Reply) (change : Change) → change_refused layout shut change ≡ None → IsGood layout shut (λ schema. change_fault schema change)
change_good None shut change e = absurd (cc)
change_good (Some layout) shut change e = let none = none_bad shut (change_fault layout change) e in record { schema = layout; declared = refl; opened = none.0; admitted = none.1 }

pub change-answered : (o : Opening) (past : List Entry) (actor txn : ℕ) (table : List ℕ) (change : Change) → txn_of past actor ≡ Some txn → is_ending past txn ≡ false → (good : IsGood (schema_of (known o past) table) (closed past actor table) (λ schema. change_fault schema change))
    → client_reply o past actor (asked_for table change)
    ≡ unless_held (holder o past txn table (key_of_change good.schema change) Exclusive) (change_told o past change (row_now o past table (key_of_change good.schema change)))
change-answered o past actor txn table change inside rests good =
    inside-answered o past actor txn (asked_for table change) inside rests ∙ changes o past actor txn table change
    ∙ ap (λ layout. change_reply o past actor txn table layout change) good.declared
    ∙ ap (λ shut. unless_closed shut (unless_bad (change_fault good.schema change) (unless_held (holder o past txn table (key_of_change good.schema change) Exclusive) (change_told o past change (row_now o past table (key_of_change good.schema change)))))) good.opened
    ∙ ap (λ bad. unless_bad bad (unless_held (holder o past txn table (key_of_change good.schema change) Exclusive) (change_told o past change (row_now o past table (key_of_change good.schema change))))) good.admitted

-- a change that is allowed is answered Done
pub told-done : (o : Opening) (past : List Entry) (change : Change) (there : Option (List Value)) → refusal change there ≡ None → change_told o past change there ≡ reply.Done (next_lsn o past)
told-done o past (Insert row) (Some old) e = absurd (cc)
told-done o past (Insert row) None e = refl
told-done o past (Replace row) (Some old) e = refl
told-done o past (Replace row) None e = absurd (cc)
told-done o past (Delete key) (Some old) e = refl
told-done o past (Delete key) None e = absurd (cc)

-- a refused one by what is there
pub told-exists : (o : Opening) (past : List Entry) (change : Change) (there : Option (List Value)) → refusal change there ≡ Some write.Exists → change_told o past change there ≡ reply.Exists
told-exists o past (Insert row) (Some old) e = refl
told-exists o past (Insert row) None e = absurd (cc)
told-exists o past (Replace row) (Some old) e = absurd (cc)
told-exists o past (Replace row) None e = absurd (cc)
told-exists o past (Delete key) (Some old) e = absurd (cc)
told-exists o past (Delete key) None e = absurd (cc)

pub told-missing : (o : Opening) (past : List Entry) (change : Change) (there : Option (List Value)) → refusal change there ≡ Some write.Missing → change_told o past change there ≡ reply.Missing
told-missing o past (Insert row) (Some old) e = absurd (cc)
told-missing o past (Insert row) None e = absurd (cc)
told-missing o past (Replace row) (Some old) e = absurd (cc)
told-missing o past (Replace row) None e = refl
told-missing o past (Delete key) (Some old) e = absurd (cc)
told-missing o past (Delete key) None e = refl

-- the key and the record of the request that asks for a change
pub change-key : (catalog : List Declared) (table : List ℕ) (layout : Layout) (change : Change) → schema_of catalog table ≡ Some layout → (other : List ℕ) (at : List Value)
    → is_for_key catalog (event.Client (asked_for table change)) other at ≡ is_place table (key_of_change layout change) other at
unfolding is_for_key asks_for_key
change-key catalog table layout (Insert row) declared other at = rw declared refl
change-key catalog table layout (Replace row) declared other at = rw declared refl
change-key catalog table layout (Delete key) declared other at = refl

pub read-key : (catalog : List Declared) (table : List ℕ) (key : List Value) (other : List ℕ) (at : List Value) → is_for_key catalog (event.Client (request.Read table key)) other at ≡ is_place table key other at
unfolding is_for_key asks_for_key
read-key catalog table key other at = refl

pub change-record : (catalog : List Declared) (there : Rows) (txn : ℕ) (table : List ℕ) (layout : Layout) (change : Change) → schema_of catalog table ≡ Some layout
    → event_record catalog there txn (event.Client (asked_for table change)) ≡ Some (write_record there txn table (key_of_change layout change) (image_of change))
unfolding event_record request_record
change-record catalog there txn table layout (Insert row) declared = rw declared refl
change-record catalog there txn table layout (Replace row) declared = rw declared refl
change-record catalog there txn table layout (Delete key) declared = refl

-- ** what the answers do **

pub effect-row : (row : List Value) → effect (reply.Row row) ≡ Reads
unfolding effect
effect-row row = refl

pub effect-absent : effect reply.Absent ≡ Reads
unfolding effect
effect-absent = refl

pub effect-begun : (txn : ℕ) → effect (reply.Begun txn) ≡ Begins txn
unfolding effect
effect-begun txn = refl

pub effect-done : (lsn : ℕ) → effect (reply.Done lsn) ≡ Writes
unfolding effect
effect-done lsn = refl

pub effect-committed : (lsn : ℕ) → effect (reply.Committed lsn) ≡ Commits
unfolding effect
effect-committed lsn = refl

pub effect-undone : (lsn : ℕ) → effect (reply.Undone lsn) ≡ Undoes
unfolding effect
effect-undone lsn = refl

pub effect-aborted : (lsn : ℕ) → effect (reply.Aborted lsn) ≡ Aborts
unfolding effect
effect-aborted lsn = refl

pub quiet-held : (by : ℕ) → effect (reply.Held by) ≡ Nothing
unfolding effect
quiet-held by = refl

pub quiet-exists : effect reply.Exists ≡ Nothing
unfolding effect
quiet-exists = refl

pub quiet-missing : effect reply.Missing ≡ Nothing
unfolding effect
quiet-missing = refl

pub quiet-no_txn : effect reply.NoTxn ≡ Nothing
unfolding effect
quiet-no_txn = refl

pub quiet-already : effect reply.Already ≡ Nothing
unfolding effect
quiet-already = refl

pub quiet-ending : effect reply.Ending ≡ Nothing
unfolding effect
quiet-ending = refl

-- ** which requests are answered Committed **

pub committed-true : (lsn : ℕ) → is_committed (reply.Committed lsn) ≡ true
unfolding is_committed
committed-true lsn = refl

undo_uncommitted : (o : Opening) (past : List Entry) (left : List ℕ) → is_committed (undo_answer o past left) ≡ false
unfolding is_committed
undo_uncommitted o past [] = refl
undo_uncommitted o past (lsn ∷ left) = refl

outside_uncommitted : (past : List Entry) (asked : Request) → is_committed (reply_outside past asked) ≡ false
unfolding reply_outside is_committed
outside_uncommitted past request.Begin = refl
outside_uncommitted past (request.Read table key) = refl
outside_uncommitted past (request.Insert table row) = refl
outside_uncommitted past (request.Update table row) = refl
outside_uncommitted past (request.Delete table key) = refl
outside_uncommitted past request.Commit = refl
outside_uncommitted past request.Undo = refl

ending_uncommitted : (o : Opening) (past : List Entry) (txn : ℕ) (asked : Request) → is_committed (reply_ending o past txn asked) ≡ false
unfolding reply_ending is_committed
ending_uncommitted o past txn request.Begin = refl
ending_uncommitted o past txn (request.Read table key) = refl
ending_uncommitted o past txn (request.Insert table row) = refl
ending_uncommitted o past txn (request.Update table row) = refl
ending_uncommitted o past txn (request.Delete table key) = refl
ending_uncommitted o past txn request.Commit = refl
ending_uncommitted o past txn request.Undo = undo_uncommitted o past (writes_left txn (log_of o past))

-- what closes a table isn't Committed
shut_in_uncommitted : (at : Phase) (is_new is_source has_lock : Bool) → IfSome (closed_in at is_new is_source has_lock) (λ refusal. is_committed refusal ≡ false)
unfolding is_committed
shut_in_uncommitted Idle is_new is_source has_lock = tt
shut_in_uncommitted Scanning true is_source has_lock = refl
shut_in_uncommitted Scanning false is_source has_lock = tt
shut_in_uncommitted Chasing true is_source has_lock = refl
shut_in_uncommitted Chasing false is_source has_lock = tt
shut_in_uncommitted Draining true is_source has_lock = refl
shut_in_uncommitted Draining false true true = tt
shut_in_uncommitted Draining false true false = refl
shut_in_uncommitted Draining false false has_lock = tt
shut_in_uncommitted Late is_new true has_lock = refl
shut_in_uncommitted Late is_new false has_lock = tt
shut_in_uncommitted Done is_new true has_lock = refl
shut_in_uncommitted Done is_new false has_lock = tt

shut_by_uncommitted : (past : List Entry) (client : ℕ) (table : List ℕ) (s : Option Started) → IfSome (closed_by past client table s) (λ refusal. is_committed refusal ≡ false)
shut_by_uncommitted past client table None = tt
shut_by_uncommitted past client table (Some s) = shut_in_uncommitted (phase past) (has_name (targets_of s.spec) table) (has_name (sources_of s.spec) table) (has_lock_on (sources_of s.spec) client past)

shut_uncommitted : (shut : Option Reply) (rest : Reply) → IfSome shut (λ refusal. is_committed refusal ≡ false) → is_committed rest ≡ false → is_committed (unless_closed shut rest) ≡ false
shut_uncommitted (Some refusal) rest shut_is e = shut_is
shut_uncommitted None rest shut_is e = e

bad_uncommitted : (bad : Option BadRow) (by : Option ℕ) (rest : Reply) → is_committed rest ≡ false → is_committed (unless_bad bad (unless_held by rest)) ≡ false
unfolding is_committed
bad_uncommitted (Some bad) by rest e = refl
bad_uncommitted None (Some txn) rest e = refl
bad_uncommitted None None rest e = e

row_uncommitted : (row : Option (List Value)) → is_committed (read_answer row) ≡ false
unfolding is_committed
row_uncommitted (Some row) = refl
row_uncommitted None = refl

told_uncommitted : (o : Opening) (past : List Entry) (change : Change) (there : Option (List Value)) → is_committed (change_told o past change there) ≡ false
unfolding is_committed
told_uncommitted o past (Insert row) (Some old) = refl
told_uncommitted o past (Insert row) None = refl
told_uncommitted o past (Replace row) (Some old) = refl
told_uncommitted o past (Replace row) None = refl
told_uncommitted o past (Delete key) (Some old) = refl
told_uncommitted o past (Delete key) None = refl

read_uncommitted : (o : Opening) (past : List Entry) (actor txn : ℕ) (table : List ℕ) (layout : Option Layout) (key : List Value) → is_committed (read_reply o past actor txn table layout key) ≡ false
unfolding is_committed
read_uncommitted o past actor txn table None key = refl
read_uncommitted o past actor txn table (Some layout) key = shut_uncommitted (closed past actor table) _ (shut_by_uncommitted past actor table (started past)) (bad_uncommitted (key_fault layout key) (holder o past txn table key Shared) _ (row_uncommitted (row_now o past table key)))

change_uncommitted : (o : Opening) (past : List Entry) (actor txn : ℕ) (table : List ℕ) (layout : Option Layout) (change : Change) → is_committed (change_reply o past actor txn table layout change) ≡ false
unfolding is_committed
change_uncommitted o past actor txn table None change = refl
change_uncommitted o past actor txn table (Some layout) change =
    shut_uncommitted (closed past actor table) _ (shut_by_uncommitted past actor table (started past)) (bad_uncommitted (change_fault layout change) (holder o past txn table (key_of_change layout change) Exclusive) _ (told_uncommitted o past change (row_now o past table (key_of_change layout change))))

inside_uncommitted : (o : Opening) (past : List Entry) (actor txn : ℕ) (asked : Request) → (asked ≡ request.Commit → ⊥) → is_committed (reply_inside o past actor txn asked) ≡ false
unfolding reply_inside is_committed
inside_uncommitted o past actor txn request.Begin other = refl
inside_uncommitted o past actor txn (request.Read table key) other = read_uncommitted o past actor txn table (schema_of (known o past) table) key
inside_uncommitted o past actor txn (request.Insert table row) other = ap is_committed (insert_same o past actor txn table (schema_of (known o past) table) row) ∙ change_uncommitted o past actor txn table (schema_of (known o past) table) (Insert row)
inside_uncommitted o past actor txn (request.Update table row) other = ap is_committed (update_same o past actor txn table (schema_of (known o past) table) row) ∙ change_uncommitted o past actor txn table (schema_of (known o past) table) (Replace row)
inside_uncommitted o past actor txn (request.Delete table key) other = ap is_committed (delete_same o past actor txn table (schema_of (known o past) table) key) ∙ change_uncommitted o past actor txn table (schema_of (known o past) table) (Delete key)
inside_uncommitted o past actor txn request.Commit other = absurd (other refl)
inside_uncommitted o past actor txn request.Undo other = undo_uncommitted o past (writes_left txn (log_of o past))

asks-committed : (o : Opening) (past : List Entry) (actor : ℕ) (asked : Request) → commits_now o past actor (event.Client asked) ≡ is_committed (client_reply o past actor asked)
unfolding commits_now
asks-committed o past actor asked = refl

pub uncommitted-outside : (o : Opening) (past : List Entry) (actor : ℕ) (asked : Request) → txn_of past actor ≡ None → commits_now o past actor (event.Client asked) ≡ false
uncommitted-outside o past actor asked outside = asks-committed o past actor asked ∙ ap is_committed (outside-answered o past actor asked outside) ∙ outside_uncommitted past asked

pub uncommitted-ending : (o : Opening) (past : List Entry) (actor txn : ℕ) (asked : Request) → txn_of past actor ≡ Some txn → is_ending past txn ≡ true → commits_now o past actor (event.Client asked) ≡ false
uncommitted-ending o past actor txn asked inside ends = asks-committed o past actor asked ∙ ap is_committed (ending-answered o past actor txn asked inside ends) ∙ ending_uncommitted o past txn asked

pub uncommitted-inside : (o : Opening) (past : List Entry) (actor txn : ℕ) (asked : Request) → txn_of past actor ≡ Some txn → is_ending past txn ≡ false → (asked ≡ request.Commit → ⊥) → commits_now o past actor (event.Client asked) ≡ false
uncommitted-inside o past actor txn asked inside rests other = asks-committed o past actor asked ∙ ap is_committed (inside-answered o past actor txn asked inside rests) ∙ inside_uncommitted o past actor txn asked other

-- only a Commit is answered Committed
pub commits_inside : (o : Opening) (past : List Entry) (actor txn : ℕ) (asked : Request) → txn_of past actor ≡ Some txn → is_ending past txn ≡ false → commits_now o past actor (event.Client asked) ≡ true → asked ≡ request.Commit
commits_inside o past actor txn request.Commit inside rests done = refl
commits_inside o past actor txn request.Begin inside rests done = absurd (false≢true (sym (uncommitted-inside o past actor txn request.Begin inside rests (λ e. cc)) ∙ done))
commits_inside o past actor txn (request.Read table key) inside rests done = absurd (false≢true (sym (uncommitted-inside o past actor txn (request.Read table key) inside rests (λ e. cc)) ∙ done))
commits_inside o past actor txn (request.Insert table row) inside rests done = absurd (false≢true (sym (uncommitted-inside o past actor txn (request.Insert table row) inside rests (λ e. cc)) ∙ done))
commits_inside o past actor txn (request.Update table row) inside rests done = absurd (false≢true (sym (uncommitted-inside o past actor txn (request.Update table row) inside rests (λ e. cc)) ∙ done))
commits_inside o past actor txn (request.Delete table key) inside rests done = absurd (false≢true (sym (uncommitted-inside o past actor txn (request.Delete table key) inside rests (λ e. cc)) ∙ done))
commits_inside o past actor txn request.Undo inside rests done = absurd (false≢true (sym (uncommitted-inside o past actor txn request.Undo inside rests (λ e. cc)) ∙ done))
