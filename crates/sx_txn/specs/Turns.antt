-- What the calls of a manager do.
use Rattle.std.specs.Prelude.{◌≡◌, ◌+◌, ◌∷◌, ⊤, false, ℕ, List, length, Option, Some, None, IfSome, IsSomeAnd}
use Rattle.sx_values.specs.declared.value.Value.{Value}
use Rattle.sx_values.specs.Layouts.{Layout, Admits, key_of}
use Rattle.sx_log.specs.declared.record.Rec.{Rec}
use Rattle.sx_log.specs.declared.record.Body.{Body}
use Rattle.sx_log.specs.declared.record.Body.TheVariants.{Write, Undo, Commit, Abort, Mark, Check, Switch}
use Rattle.sx_log.specs.Images.{FitsImage}
use Rattle.sx_log.specs.State.{stored}
use Rattle.sx_heap.specs.declared.tables.NamedTable.{NamedTable}
use Rattle.sx_heap.specs.NamedTables.{table_named, SetsRowIn}
use Rattle.sx_log.specs.Undoing.{writes_left, undo_record}
use Rattle.sx_lists.specs.Places.{numbered}
use Rattle.sx_txn.specs.Writes.{first_of}
use Rattle.sx_locks.specs.declared.mode.Mode.{Mode}
use Rattle.sx_locks.specs.declared.mode.Mode.TheVariants.{Shared, Exclusive}
use Rattle.sx_locks.specs.Locks.{SameLocks, IsLeastOther, LockedSo, Freed}
use Rattle.sx_txn.specs.declared.answers.Change.{Change}
use Rattle.sx_txn.specs.declared.answers.Change.TheVariants.{Insert, Replace, Delete}
use Rattle.sx_txn.specs.Managed.{Shape, Managed, SameAlive, SameTables, Unchanged, schema_in, row_now, without, with_ending}

-- the table of this name has now this row at the key, or none; all else stays
abbrev pub SetsRowAt : List NamedTable → List NamedTable → List ℕ → List Value → Option (List Value × ℕ) → Type 0
SetsRowAt old new name key image = IsSomeAnd (table_named old name) (λ before. SetsRowIn old new name before key image)

-- the key of an undo's record has now its image after, under its LSN; all else stays
unfoldable pub PutsBack : List NamedTable → List NamedTable → ℕ → Body → Type 0
PutsBack old new lsn (Undo undoes table key before after) = SetsRowAt old new table key (stored lsn after)
PutsBack old new lsn other = ⊥

-- a transaction with the next number has begun
pub record Begins (old new : Managed) (txn : ℕ) : Type 0 where
  pub number : txn ≡ old.begun + 1
  pub begun : new.begun ≡ txn
  pub living : new.living ≡ record { txn = txn; ending = false } ∷ old.living
  pub shapes : new.shapes ≡ old.shapes
  pub own : new.own ≡ old.own
  pub rows : SameTables old.tables new.tables
  pub log : new.log ≡ old.log
  pub locks : SameLocks old.locks new.locks

-- another transaction's lock conflicts; the least such is named, and all stays
pub record Hinders (old new : Managed) (txn : ℕ) (table : List ℕ) (key : List Value) (mode : Mode) (by : ℕ) : Type 0 where
  pub least : IsLeastOther old.locks txn table key mode (Some by)
  pub same : Unchanged old new

-- a transaction has locked a key of a table that no other's lock conflicts with
pub record Locks (old new : Managed) (txn : ℕ) (table : List ℕ) (key : List Value) (mode : Mode) : Type 0 where
  pub free : IsLeastOther old.locks txn table key mode None
  pub locked : LockedSo old.locks new.locks txn table key mode
  pub alive : SameAlive old new

-- a transaction has read the row of a key, or that there is none
pub record Reads (old new : Managed) (txn : ℕ) (table : List ℕ) (key : List Value) (row : Option (List Value)) : Type 0 where
  pub locks : Locks old new txn table key Shared
  pub there : row_now old.tables table key ≡ row
  pub rows : SameTables old.tables new.tables
  pub log : new.log ≡ old.log

-- the key that a change is about
abbrev pub key_of_change : Layout → Change → List Value
key_of_change layout (Insert row) = key_of layout row
key_of_change layout (Replace row) = key_of layout row
key_of_change layout (Delete key) = key

-- what a change leaves at its key
abbrev pub image_of : Change → Option (List Value)
image_of (Insert row) = Some row
image_of (Replace row) = Some row
image_of (Delete key) = None

-- the schema admits the row of a change, if it has one
abbrev pub FitsSchema : Layout → Change → Type 0
FitsSchema layout (Insert row) = Admits layout row
FitsSchema layout (Replace row) = Admits layout row
FitsSchema layout (Delete key) = ⊤

-- the table is there, with this schema, which admits the change
pub record CanChange (shapes : List Shape) (table : List ℕ) (change : Change) : Type 0 where
  pub layout : Layout
  pub there : schema_in shapes table ≡ Some layout
  pub fits : FitsSchema layout change

-- a transaction has written: the record tells what the key had and what it has now
pub record Writes (old new : Managed) (txn : ℕ) (table : List ℕ) (key : List Value) (image : Option (List Value)) (lsn : ℕ) : Type 0 where
  pub locks : Locks old new txn table key Exclusive
  pub place : lsn ≡ length old.log + 1
  pub log : new.log ≡ record { txn = txn; body = Write table key (row_now old.tables table key) image } ∷ old.log
  pub sets : SetsRowAt old.tables new.tables table key (stored lsn image)

-- a transaction has ended by this record; its locks are free
pub record Ends (old new : Managed) (txn : ℕ) (by : Body) (lsn : ℕ) : Type 0 where
  pub place : lsn ≡ length old.log + 1
  pub log : new.log ≡ record { txn = txn; body = by } ∷ old.log
  pub locks : Freed old.locks new.locks txn
  pub living : new.living ≡ without txn old.living
  pub shapes : new.shapes ≡ old.shapes
  pub own : new.own ≡ old.own
  pub rows : SameTables old.tables new.tables
  pub begun : new.begun ≡ old.begun

-- a transaction has undone the last of its writes that were left, and is ending
pub record Undoes (old new : Managed) (txn lsn : ℕ) : Type 0 where
  pub place : lsn ≡ length old.log + 1
  pub back : Rec
  pub made : undo_record (row_now old.tables) old.log txn ≡ Some back
  pub sets : PutsBack old.tables new.tables lsn back.body
  pub log : new.log ≡ back ∷ old.log
  pub locks : SameLocks old.locks new.locks
  pub living : new.living ≡ with_ending txn old.living
  pub shapes : new.shapes ≡ old.shapes
  pub own : new.own ≡ old.own
  pub begun : new.begun ≡ old.begun

-- a record that is no transaction's
abbrev pub IsNote : Body → Type 0
IsNote Mark = ⊤
IsNote (Check group dep) = ⊤
IsNote Switch = ⊤
IsNote (Write table key before after) = ⊥
IsNote (Undo undoes table key before after) = ⊥
IsNote Commit = ⊥
IsNote Abort = ⊥

-- a record of transaction 0 was appended, in the room that was left
pub record Notes (old new : Managed) (body : Body) (lsn : ℕ) : Type 0 where
  pub place : lsn ≡ length old.log + 1
  pub log : new.log ≡ record { txn = 0; body = body } ∷ old.log
  pub spare : new.spare + 1 ≡ old.spare
  pub locks : SameLocks old.locks new.locks
  pub alive : SameAlive old new
  pub rows : SameTables old.tables new.tables

-- the record with this LSN is a transaction's write to a table that is there, whose image before can be put back
pub record CanUndo (log : List Rec) (shapes : List Shape) (txn lsn : ℕ) : Type 0 where
  pub table : List ℕ
  pub key : List Value
  pub before : Option (List Value)
  pub after : Option (List Value)
  pub is : numbered log lsn ≡ Some (record { txn = txn; body = Write table key before after })
  pub layout : Layout
  pub there : schema_in shapes table ≡ Some layout
  pub fits : FitsImage layout key before

-- the last write of a transaction that is left, if there is one, can be undone
abbrev pub CanUndoLast : Managed → ℕ → Type 0
CanUndoLast m txn = IfSome (first_of (writes_left txn m.log)) (CanUndo m.log m.shapes txn)
