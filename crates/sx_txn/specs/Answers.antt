-- What the answers of a manager say.
use Rattle.std.specs.Prelude.{◌≡◌, [], ℕ, List, Option, Some, None}
use Rattle.sx_values.specs.declared.value.Value.{Value}
use Rattle.sx_values.specs.Layouts.{Layout}
use Rattle.sx_log.specs.declared.record.Body.TheVariants.{Abort}
use Rattle.sx_log.specs.Undoing.{writes_left}
use Rattle.sx_locks.specs.declared.mode.Mode.TheVariants.{Shared, Exclusive}
use Rattle.sx_locks.specs.Locks.{IsLeastOther}
use Rattle.sx_txn.specs.declared.answers.Change.{Change}
use Rattle.sx_txn.specs.declared.answers.Change.TheVariants.{Insert, Replace, Delete}
use Rattle.sx_txn.specs.declared.answers.TxnRead.{TxnRead}
use Rattle.sx_txn.specs.declared.answers.TxnRead.TheVariants as read
use Rattle.sx_txn.specs.declared.answers.TxnWrite.{TxnWrite}
use Rattle.sx_txn.specs.declared.answers.TxnWrite.TheVariants as write
use Rattle.sx_txn.specs.declared.answers.TxnUndo.{TxnUndo}
use Rattle.sx_txn.specs.declared.answers.TxnUndo.TheVariants as undo
use Rattle.sx_txn.specs.Managed.{Managed, Unchanged, schema_in, row_now}
use Rattle.sx_txn.specs.Turns.{Hinders, Reads, Writes, Ends, Undoes, key_of_change, image_of}

-- what an answer to a read says
abbrev pub AnswersRead : Managed → Managed → ℕ → List ℕ → List Value → TxnRead → Type 0
AnswersRead old new txn table key (read.Row row) = Reads old new txn table key (Some row)
AnswersRead old new txn table key read.Absent = Reads old new txn table key None
AnswersRead old new txn table key (read.Held by) = Hinders old new txn table key Shared by

-- why a change is refused, by what its key has, or None
abbrev pub refusal : Change → Option (List Value) → Option TxnWrite
refusal (Insert row) (Some there) = Some write.Exists
refusal (Insert row) None = None
refusal (Replace row) (Some there) = None
refusal (Replace row) None = Some write.Missing
refusal (Delete key) (Some there) = None
refusal (Delete key) None = Some write.Missing

-- no other's lock conflicts, but the change is refused by what its key has, and all stays
pub record Refuses (old new : Managed) (txn : ℕ) (table : List ℕ) (key : List Value) (change : Change) (answer : TxnWrite) : Type 0 where
  pub free : IsLeastOther old.locks txn table key Exclusive None
  pub refused : refusal change (row_now old.tables table key) ≡ Some answer
  pub same : Unchanged old new

-- a change was made that what its key had allows
pub record Makes (old new : Managed) (txn : ℕ) (table : List ℕ) (key : List Value) (change : Change) (lsn : ℕ) : Type 0 where
  pub allowed : refusal change (row_now old.tables table key) ≡ None
  pub writes : Writes old new txn table key (image_of change) lsn

-- what an answer to a change at a key says
abbrev pub AnswersAt : Managed → Managed → ℕ → List ℕ → List Value → Change → TxnWrite → Type 0
AnswersAt old new txn table key change (write.Done lsn) = Makes old new txn table key change lsn
AnswersAt old new txn table key change (write.Held by) = Hinders old new txn table key Exclusive by
AnswersAt old new txn table key change write.Exists = Refuses old new txn table key change write.Exists
AnswersAt old new txn table key change write.Missing = Refuses old new txn table key change write.Missing

-- what an answer to a change of a table says
abbrev pub AnswersWrite : Managed → Managed → ℕ → List ℕ → Change → TxnWrite → Type 0
AnswersWrite old new txn table change answer =
    (layout : Layout) → schema_in old.shapes table ≡ Some layout → AnswersAt old new txn table (key_of_change layout change) change answer

-- nothing was left to undo, and the transaction has ended
pub record Aborts (old new : Managed) (txn lsn : ℕ) : Type 0 where
  pub nothing : writes_left txn old.log ≡ []
  pub ends : Ends old new txn Abort lsn

-- what an answer to an undo says
abbrev pub AnswersUndo : Managed → Managed → ℕ → TxnUndo → Type 0
AnswersUndo old new txn (undo.Undone lsn) = Undoes old new txn lsn
AnswersUndo old new txn (undo.Aborted lsn) = Aborts old new txn lsn

-- what a transaction reads where a key has this row, or none
abbrev pub read_of : Option (List Value) → TxnRead
read_of None = read.Absent
read_of (Some row) = read.Row row
