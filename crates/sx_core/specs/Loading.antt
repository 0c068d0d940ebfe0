-- How rows get into the tables before the first event, and which are refused.
use Rattle.std.specs.Prelude.{◌≡◌, ◌+◌, ◌++◌, ◌∷◌, ◌⊎◌, Bool, ℕ, List, [], length, map, reverse, is_some, nat_lt, Option, Some, None, option_map, Result, Ok, Err, if◌then◌else◌}
use Rattle.std.specs.List.{list_any, AllByRecursion}
use Rattle.sx_lists.specs.Answers.{or_later}
use Rattle.sx_values.specs.declared.catalog.Declared.{Declared}
use Rattle.sx_values.specs.Layouts.{Layout, key_of, row_fault}
use Rattle.sx_values.specs.Catalogs.{schema_of}
use Rattle.sx_log.specs.declared.record.Rec.{Rec}
use Rattle.sx_log.specs.declared.record.Load.{Load}
use Rattle.sx_log.specs.declared.record.Body.TheVariants.{Write}
use Rattle.sx_heap.specs.declared.tables.NamedTable.{NamedTable}
use Rattle.sx_heap.specs.Relations.{Relation, row_at}
use Rattle.sx_txn.specs.Managed.{AreTables}
use Rattle.sx_heap.specs.NamedTables.{SetsRowIn}
use Rattle.sx_model.specs.Loads.{is_repeated, loaded_into}
use Rattle.sx_model.specs.Openings.{opening, load_record}
use Rattle.sx_core.specs.Machines.{Machine}
use Rattle.sx_core.specs.Kept.{shapes_of}
use Rattle.sx_core.specs.declared.make.Base.{Base}
use Rattle.sx_core.specs.declared.make.MakeFault.{MakeFault}
use Rattle.sx_core.specs.declared.make.MakeFault.TheVariants.{Memory, TooManyRows, NoTable, BadRow, RepeatedKey}

-- a declared table without rows
abbrev pub empty_table : Declared → NamedTable
empty_table declared = record { name = declared.name; table = record { schema = declared.schema; rows = [] } }

-- a loaded row is in its table, which was this one, under the LSN of its record, the next of the log
pub record PutsLoad (log longer : List Rec) (tables changed : List NamedTable) (load : Load) (table : Relation) : Type 0 where
  pub admitted : row_fault table.schema load.row ≡ None
  pub absent : row_at table.rows (key_of table.schema load.row) ≡ None
  pub logged : longer ≡ record { txn = 0; body = Write load.table (key_of table.schema load.row) None (Some load.row) } ∷ log
  pub put : SetsRowIn tables changed load.table table (key_of table.schema load.row) (Some (load.row, length log + 1))

-- the first declared table into which more than 100,000 rows are loaded
abbrev pub crowded : List Declared → List Load → Option (List ℕ)
crowded [] loads = None
crowded (declared ∷ catalog) loads = if nat_lt 100000 (length (loaded_into declared.name loads)) then Some declared.name else crowded catalog loads

-- the fault of the load at a place whose key is that of an earlier one, or not
abbrev pub repeated_at : ℕ → Bool → Option MakeFault
repeated_at place is_there = if is_there then Some (RepeatedKey place) else None

-- the fault of the load at a place, by its table: no such table, a row that isn't admitted, or a key that is there
abbrev pub put_fault : Option Relation → ℕ → Load → Option MakeFault
put_fault None place load = Some (NoTable place)
put_fault (Some table) place load =
    or_later (option_map (BadRow place) (row_fault table.schema load.row)) (repeated_at place (is_some (row_at table.rows (key_of table.schema load.row))))

-- the fault of the load at a place behind earlier ones, by the schema of its table: no such table, a row that isn't admitted, or an earlier load's key
abbrev pub load_fault : List Declared → List Load → ℕ → Load → Option Layout → Option MakeFault
load_fault catalog earlier place load None = Some (NoTable place)
load_fault catalog earlier place load (Some layout) =
    or_later (option_map (BadRow place) (row_fault layout load.row)) (repeated_at place (list_any (λ other. is_repeated catalog other load) earlier))

-- the fault of the first faulty one of these loads behind earlier ones
abbrev pub first_load_fault : List Declared → List Load → List Load → Option MakeFault
first_load_fault catalog earlier [] = None
first_load_fault catalog earlier (load ∷ loads) =
    or_later (load_fault catalog earlier (length earlier + 1) load (schema_of catalog load.table)) (first_load_fault catalog (earlier ++ load ∷ []) loads)

-- why no machine is made of these tables and loads: a table with too many, or else the first faulty load
abbrev pub make_fault : List Declared → List Load → Option MakeFault
make_fault catalog loads = or_later (option_map TooManyRows (crowded catalog loads)) (first_load_fault catalog [] loads)

-- the tables of a catalog with these rows, none of which is faulty, and the records that tell how they came
pub record AreLoaded (catalog : List Declared) (loads : List Load) (base : Base) : Type 0 where
  pub faultless : first_load_fault catalog [] loads ≡ None
  pub logged : base.log.newest ≡ reverse (map (load_record catalog) loads)
  pub nobody : AllByRecursion (λ (r : Rec). r.txn ≡ 0) base.log.newest
  pub meet : AreTables base.log.newest (shapes_of catalog) base.tables

-- the same; or the first faulty load's fault, or want of memory
abbrev pub Loads : List Declared → List Load → Result Base MakeFault → Type 0
Loads catalog loads (Ok base) = AreLoaded catalog loads base
Loads catalog loads (Err fault) = (fault ≡ Memory) ⊎ (first_load_fault catalog [] loads ≡ Some fault)

-- the machine before its first event, where there is no fault; or the fault, or want of memory
abbrev pub Made : List Declared → List Load → Result Machine MakeFault → Type 0
Made catalog loads (Ok machine) = (make_fault catalog loads ≡ None) × (machine ≡ record { opening = opening catalog loads; past = [] })
Made catalog loads (Err fault) = (fault ≡ Memory) ⊎ (make_fault catalog loads ≡ Some fault)
