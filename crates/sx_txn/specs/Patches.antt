-- A change of the row of one key of a table, with what the key has before it.
use Rattle.std.specs.Prelude.{◌≡◌, ℕ, List, map, Option, Some, None, IsSome}
use Rattle.std.specs.List.{IsDistinct}
use Rattle.sx_values.specs.declared.value.Value.{Value}
use Rattle.sx_values.specs.Names.{same_name}
use Rattle.sx_values.specs.Layouts.{Layout}
use Rattle.sx_log.specs.declared.record.Rec.{Rec}
use Rattle.sx_log.specs.declared.record.Body.TheVariants.{Write, Undo}
use Rattle.sx_log.specs.Undoing.{undo_record}
use Rattle.sx_log.specs.State.{stored}
use Rattle.sx_heap.specs.declared.tables.NamedTable.{NamedTable}
use Rattle.sx_heap.specs.Relations.{Relation}
use Rattle.sx_txn.specs.declared.patch.Patch.{Patch}
use Rattle.sx_txn.specs.declared.answers.Change.{Change}
use Rattle.sx_locks.specs.declared.mode.Asked.{Asked}
use Rattle.sx_locks.specs.declared.mode.Asked.TheVariants.{Granted, Held}
use Rattle.sx_locks.specs.declared.mode.Mode.TheVariants.{Exclusive}
use Rattle.sx_txn.specs.declared.answers.TxnWrite.{TxnWrite}
use Rattle.sx_txn.specs.declared.answers.TxnWrite.TheVariants as write
use Rattle.sx_txn.specs.Managed.{Shape, Managed, SameTables, schema_in, row_in, row_now}
use Rattle.sx_txn.specs.Turns.{Hinders, Writes, key_of_change, SetsRowAt}
use Rattle.sx_log.specs.Images.{FitsImage}

-- the record of a transaction's write that makes a change
abbrev pub write_of : ℕ → Patch → Rec
write_of txn p = record { txn = txn; body = Write p.table p.key p.before p.after }

-- the record of a transaction's undo that makes a change
abbrev pub undo_of : ℕ → ℕ → Patch → Rec
undo_of txn undoes p = record { txn = txn; body = Undo undoes p.table p.key p.before p.after }

-- tables with different names
abbrev pub AreApart : List Shape → Type 0
AreApart shapes = IsDistinct same_name (map (λ (s : Shape). s.name) shapes)

-- the key of a table has this row, or none
pub record IsThere (m : Managed) (table : List ℕ) (key : List Value) (row : Option (List Value)) : Type 0 where
  pub apart : AreApart m.shapes
  pub was : row_now m.tables table key ≡ row
  pub fits : (layout : Layout) → schema_in m.shapes table ≡ Some layout → FitsImage layout key row

-- the same of a table
pub record HasRow (key : List Value) (row : Option (List Value)) (table : Relation) : Type 0 where
  pub was : row_in key table ≡ row
  pub fits : FitsImage table.schema key row

-- the change begins with what the key has, and its row can stand there
pub record CanPatch (m : Managed) (p : Patch) : Type 0 where
  pub apart : AreApart m.shapes
  pub was : row_now m.tables p.table p.key ≡ p.before
  pub layout : Layout
  pub there : schema_in m.shapes p.table ≡ Some layout
  pub held : FitsImage layout p.key p.before
  pub fits : FitsImage layout p.key p.after

-- the same of a table
pub record TakesPatch (p : Patch) (table : Relation) : Type 0 where
  pub was : row_in p.key table ≡ p.before
  pub fits : FitsImage table.schema p.key p.after

-- the change has a row before or after it
abbrev pub HasImage : Patch → Type 0
HasImage p = p.before ≡ None → IsSome p.after

-- the table of the change has its image at its key; all else stays
abbrev pub Patched : List NamedTable → List NamedTable → Patch → ℕ → Type 0
Patched old new p lsn = SetsRowAt old new p.table p.key (stored lsn p.after)

-- where the lock is granted the change is made, and else the rows stay
abbrev pub PutsWhere : List NamedTable → List NamedTable → Patch → ℕ → Asked → Type 0
PutsWhere old new p lsn Granted = Patched old new p lsn
PutsWhere old new p lsn (Held by) = SameTables old new

-- what the answer says where a change is to be put: it was made, or another's lock conflicts
abbrev pub AnswersPut : Managed → Managed → ℕ → Patch → TxnWrite → Type 0
AnswersPut old new txn p (write.Done lsn) = Writes old new txn p.table p.key p.after lsn
AnswersPut old new txn p (write.Held by) = Hinders old new txn p.table p.key Exclusive by
AnswersPut old new txn p write.Exists = ⊥
AnswersPut old new txn p write.Missing = ⊥

-- this is the key that a change of a table is about
abbrev pub IsKeyOf : List Shape → List ℕ → Change → List Value → Type 0
IsKeyOf shapes table change key = (layout : Layout) → schema_in shapes table ≡ Some layout → key_of_change layout change ≡ key

-- the change undoes a transaction's last write that is left, which has this LSN
pub record IsBack (m : Managed) (txn undoes : ℕ) (p : Patch) : Type 0 where
  pub can : CanPatch m p
  pub made : undo_record (row_now m.tables) m.log txn ≡ Some (undo_of txn undoes p)
