-- What a contract sees of a manager of transactions.
use Rattle.std.specs.Prelude.{◌≡◌, ◌==◌, ◌&&◌, ⊤, Bool, true, not, ℕ, zero, suc, List, [], ◌∷◌, map, filter, Option, Some, None, option_map, if◌then◌else◌}
use Rattle.std.specs.List.{list_any}
use Rattle.sx_values.specs.declared.value.Value.{Value}
use Rattle.sx_values.specs.Layouts.{Layout}
use Rattle.sx_values.specs.Names.{same_name}
use Rattle.sx_heap.specs.declared.tables.NamedTable.{NamedTable}
use Rattle.sx_heap.specs.Relations.{Relation, row_at}
use Rattle.sx_heap.specs.NamedTables.{table_named}
use Rattle.sx_log.specs.declared.record.Rec.{Rec}
use Rattle.sx_log.specs.State.{state_at}
use Rattle.sx_locks.specs.Locks.{Locks, SameLocks}

-- a table's name and schema
pub record Shape : Type 0 where
  pub name : List ℕ
  pub schema : Layout

-- the schema of the table of a name, if it's there
abbrev pub schema_in : List Shape → List ℕ → Option Layout
schema_in [] name = None
schema_in (shape ∷ shapes) name = if same_name shape.name name then Some shape.schema else schema_in shapes name

-- the name and the schema of a table
abbrev pub shape_of : NamedTable → Shape
shape_of table = record { name = table.name; schema = table.table.schema }

-- a table has this name and schema, and at each key what the log leaves there
pub record IsTable (log : List Rec) (shape : Shape) (table : NamedTable) : Type 0 where
  pub name : table.name ≡ shape.name
  pub schema : table.table.schema ≡ shape.schema
  pub rows : (key : List Value) → row_at table.table.rows key ≡ state_at log shape.name key

-- the tables have these names and schemas, in order, and the rows that the log leaves
abbrev pub AreTables : List Rec → List Shape → List NamedTable → Type 0
AreTables log [] [] = ⊤
AreTables log (shape ∷ shapes) (table ∷ tables) = IsTable log shape table × AreTables log shapes tables
AreTables log [] (table ∷ tables) = ⊥
AreTables log (shape ∷ shapes) [] = ⊥

-- the first n tables have these names and schemas, in order, and the rows that the log leaves
abbrev pub AreOwn : ℕ → List Rec → List Shape → List NamedTable → Type 0
AreOwn zero log shapes tables = ⊤
AreOwn (suc n) log (shape ∷ shapes) (table ∷ tables) = IsTable log shape table × AreOwn n log shapes tables
AreOwn (suc n) log [] [] = ⊤
AreOwn (suc n) log [] (table ∷ tables) = ⊥
AreOwn (suc n) log (shape ∷ shapes) [] = ⊥

-- the row that a table has at a key, without its LSN
abbrev pub row_in : List Value → Relation → Option (List Value)
row_in key table = option_map (λ (s : List Value × ℕ). s.0) (row_at table.rows key)

-- the row that a key has in the table of a name, or None
abbrev pub row_now : List NamedTable → List ℕ → List Value → Option (List Value)
row_now tables name key = elim (table_named tables name) [ None ↦ None | Some table ↦ row_in key table ]

-- the same table, with the same rows
pub record SameTable (old new : NamedTable) : Type 0 where
  pub name : new.name ≡ old.name
  pub schema : new.table.schema ≡ old.table.schema
  pub rows : (key : List Value) → row_at new.table.rows key ≡ row_at old.table.rows key

abbrev pub SameTables : List NamedTable → List NamedTable → Type 0
SameTables [] [] = ⊤
SameTables (t ∷ old) (u ∷ new) = SameTable t u × SameTables old new
SameTables [] (u ∷ new) = ⊥
SameTables (t ∷ old) [] = ⊥

-- a live transaction, and whether it is ending
pub record Alive : Type 0 where
  pub txn : ℕ
  pub ending : Bool

-- whether a transaction is among these
abbrev pub is_live : List Alive → ℕ → Bool
is_live living txn = list_any (λ (a : Alive). a.txn == txn) living

-- whether a transaction is among these and ending
abbrev pub is_ending : List Alive → ℕ → Bool
is_ending living txn = list_any (λ (a : Alive). a.txn == txn && a.ending) living

-- these without a transaction
abbrev pub without : ℕ → List Alive → List Alive
without txn living = filter (λ (a : Alive). not (a.txn == txn)) living

-- the same transaction, which is ending if it is this one
abbrev pub ending_if : ℕ → Alive → Alive
ending_if txn a = if a.txn == txn then record { txn = a.txn; ending = true } else a

-- these, among which a transaction is ending now
abbrev pub with_ending : ℕ → List Alive → List Alive
with_ending txn living = map (ending_if txn) living

-- the tables' names and schemas, the tables, the declared ones first, and how many these are, the log newest first and the room that is left in it, the locks, the live transactions, the last one begun first, and how many were begun
pub record Managed : Type 0 where
  pub shapes : List Shape
  pub tables : List NamedTable
  pub own : ℕ
  pub log : List Rec
  pub spare : ℕ
  pub locks : Locks
  pub living : List Alive
  pub begun : ℕ

-- the tables' names, how many are declared, and the transactions stay
pub record SameAlive (old new : Managed) : Type 0 where
  pub shapes : new.shapes ≡ old.shapes
  pub own : new.own ≡ old.own
  pub living : new.living ≡ old.living
  pub begun : new.begun ≡ old.begun

-- all stays but the room
pub record Unchanged (old new : Managed) : Type 0 where
  pub alive : SameAlive old new
  pub rows : SameTables old.tables new.tables
  pub log : new.log ≡ old.log
  pub locks : SameLocks old.locks new.locks

-- all stays but the new tables
pub record SameBut (old new : Managed) : Type 0 where
  pub own : new.own ≡ old.own
  pub log : new.log ≡ old.log
  pub spare : new.spare ≡ old.spare
  pub locks : new.locks ≡ old.locks
  pub living : new.living ≡ old.living
  pub begun : new.begun ≡ old.begun
  pub shapes : new.shapes ≡ map shape_of new.tables

-- the declared tables have what the log leaves
pub record OwnMeets (m : Managed) : Type 0 where
  pub rows : AreOwn m.own m.log m.shapes m.tables
  pub shapes : m.shapes ≡ map shape_of m.tables
