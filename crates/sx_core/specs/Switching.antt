-- What an attempt to switch looks at, and what it makes.
use Rattle.std.specs.Prelude.{◌≡◌, ◌↔◌, ⊤, IsTrue, ℕ, List, [], ◌∷◌, map, Option, Some, None}
use Rattle.sx_lists.specs.Places.{following}
use Rattle.sx_values.specs.declared.catalog.Declared.{Declared}
use Rattle.sx_log.specs.declared.record.Rec.{Rec}
use Rattle.sx_heap.specs.declared.seen.Seen.{Seen}
use Rattle.sx_heap.specs.declared.tables.NamedTable.{NamedTable}
use Rattle.sx_locks.specs.Locks.{Locks, HoldsOn}
use Rattle.sx_ops.specs.declared.spec.Spec.{Spec}
use Rattle.sx_ops.specs.Operators.{sources_of, operator}
use Rattle.sx_ops.specs.Targets.{targets}
use Rattle.sx_copy.specs.FreshTables.{bare_rows, fresh_tables}
use Rattle.sx_image.specs.Images.{Copy, StandsFor, AreCopied, copy_behind_all}
use Rattle.sx_image.specs.declared.image.Kind.{Kind}
use Rattle.sx_sync.specs.declared.ready.Live.{Live}
use Rattle.sx_sync.specs.declared.ready.Ready.{Ready as IsReady}
use Rattle.sx_sync.specs.declared.ready.Ready.TheVariants.{Unread, Conflict, Ready}
use Rattle.sx_journal.specs.declared.entry.Reply.{Reply}
use Rattle.sx_journal.specs.declared.entry.Reply.TheVariants as reply
use Rattle.sx_model.specs.Leaves.{Living}
use Rattle.sx_model.specs.Logs.{next_lsn}
use Rattle.sx_core.specs.Machines.{Machine}
use Rattle.sx_core.specs.declared.switch.Cause.{Cause}
use Rattle.sx_core.specs.declared.switch.Cause.TheVariants as cause

-- the answer of which an attempt's cause tells, if it has one
abbrev pub reply_of : Cause → Option Reply
reply_of cause.Memory = None
reply_of cause.Full = None
reply_of (cause.Worn turns) = None
reply_of cause.NoTransform = Some reply.NoTransform
reply_of cause.NotScanned = Some reply.NotScanned
reply_of (cause.Unread pos end) = Some (reply.Unread pos end)
reply_of (cause.Conflict txn) = Some (reply.Conflict txn)
reply_of (cause.Violated first second) = Some (reply.Violated first second)

-- the answer to an attempt that is ready, or not
abbrev pub told_ready : Machine → IsReady → Reply
told_ready m Ready = reply.Switched (next_lsn m.opening m.past)
told_ready m (Unread pos end) = reply.Unread pos end
told_ready m (Conflict txn) = reply.Conflict txn

-- a live transaction, and whether it has a lock on this table
pub record IsLiveOf (locks : Locks) (table : List ℕ) (l : Living) (live : Live) : Type 0 where
  pub txn : live.txn ≡ l.txn
  pub locks_it : IsTrue live.locks_source ↔ HoldsOn locks l.txn table

-- the same of each of these, in order
abbrev pub AreLives : Locks → List ℕ → List Living → List Live → Type 0
AreLives locks table [] [] = ⊤
AreLives locks table (l ∷ living) (live ∷ lives) = IsLiveOf locks table l live × AreLives locks table living lives
AreLives locks table [] (live ∷ lives) = ⊥
AreLives locks table (l ∷ living) [] = ⊥

-- the tables are the transformation of the copy for which the image stood at this position, behind the records that follow it
abbrev pub AreFresh : List Rec → ℕ → Kind → List NamedTable → Type 0
AreFresh log position image tables =
    (catalog : List Declared) (spec : Spec) (copy : Copy) (lists : List (List Seen)) → StandsFor catalog spec copy position image → AreCopied catalog (sources_of spec) 0 (copy_behind_all spec position (following log position 256) copy) lists
    → tables ≡ fresh_tables (targets catalog spec) (operator catalog spec (map bare_rows lists))
