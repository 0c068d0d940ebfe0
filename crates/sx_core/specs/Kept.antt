-- What the machine's fields keep of its journal.
use Rattle.std.specs.Prelude.{◌≡◌, ◌≤◌, ◌++◌, ⊤, Bool, true, not, ℕ, List, [], ◌∷◌, length, map, Option, Some, None, option_map, IsSome}
use Rattle.std.specs.List.{AllByRecursion}
use Rattle.sx_values.specs.declared.value.Value.{Value}
use Rattle.sx_values.specs.declared.catalog.Declared.{Declared}
use Rattle.sx_values.specs.Catalogs.{schema_of}
use Rattle.sx_log.specs.Images.{FitsTables}
use Rattle.sx_log.specs.State.{Stored}
use Rattle.sx_log.specs.declared.record.Rec.{Rec}
use Rattle.sx_locks.specs.Locks.{mode_held}
use Rattle.sx_txn.specs.Managed.{Managed, Shape, Alive, schema_in, is_live, is_ending as ends_in}
use Rattle.sx_heap.specs.declared.tables.NamedTable.{NamedTable}
use Rattle.sx_heap.specs.Relations.{row_at}
use Rattle.sx_heap.specs.NamedTables.{table_named}
use Rattle.sx_heap.specs.Walks.{is_after}
use Rattle.sx_ops.specs.declared.spec.Spec.{Spec}
use Rattle.sx_ops.specs.declared.spec.Target.{Target}
use Rattle.sx_ops.specs.Operators.{sources_of}
use Rattle.sx_sync.specs.declared.Phase.{Phase}
use Rattle.sx_sync.specs.declared.Phase.TheVariants.{Idle, Scanning, Chasing, Draining, Late, Done}
use Rattle.sx_journal.specs.declared.entry.Entry.{Entry}
use Rattle.sx_model.specs.Openings.{Opening}
use Rattle.sx_model.specs.LoadRecords.{IsOpened}
use Rattle.sx_model.specs.Leaves.{Living, living, begun, Started, started, phase}
use Rattle.sx_model.specs.Logs.{log_of}
use Rattle.sx_model.specs.Known.{adopted, new_tables, known}
use Rattle.sx_model.specs.NewRows.{state_in}
use Rattle.sx_model.specs.Held.{is_ending, lock_of}
use Rattle.sx_model.specs.Scans.{seen, IsNextSide}
use Rattle.sx_model.specs.Cursors.{IsWalked}
use Rattle.sx_model.specs.Switches.{position}
use Rattle.sx_model.specs.Legal.{Legal}

-- the names and schemas of declared tables
abbrev pub shapes_of : List Declared → List Shape
shapes_of catalog = map (λ (d : Declared). record { name = d.name; schema = d.schema }) catalog

-- the new tables that have rows in a phase: those behind a switch
abbrev pub shown_in : Phase → List Target → List Target
shown_in Idle tables = []
shown_in Scanning tables = []
shown_in Chasing tables = []
shown_in Draining tables = []
shown_in Late tables = tables
shown_in Done tables = tables

-- the new tables that have rows now
abbrev pub shown_now : Opening → List Entry → List Declared
shown_now o past = map adopted (shown_in (phase past) (new_tables o.catalog (started past)))

-- what a key has in the table of a name: the row and its LSN, or nothing
abbrev pub stored_in : List NamedTable → List ℕ → List Value → Option Stored
stored_in tables name key = elim (table_named tables name) [ None ↦ None | Some table ↦ row_at table.rows key ]

-- the manager has the journal's log, transactions, locks and tables: the declared ones and, behind a switch, the new ones
pub record ManagerMeets (o : Opening) (past : List Entry) (m : Managed) : Type 0 where
  pub shapes : m.shapes ≡ shapes_of (o.catalog ++ shown_now o past)
  pub own : m.own ≡ length o.catalog
  pub log_is : m.log ≡ log_of o past
  pub rows : (name : List ℕ) (key : List Value) → IsSome (schema_in m.shapes name) → stored_in m.tables name key ≡ state_in o past (log_of o past) name key
  pub begun : m.begun ≡ begun past
  pub living : map (λ (a : Alive). a.txn) m.living ≡ map (λ (l : Living). l.txn) (living past)
  pub ending : (txn : ℕ) → is_live m.living txn ≡ true → ends_in m.living txn ≡ is_ending past txn
  pub locks : (txn : ℕ) (table : List ℕ) (key : List Value) → mode_held m.locks txn table key ≡ lock_of o past txn table key

-- what the machine's fields keep besides the opening and the journal: the manager, the room in the journal, the clients with live transactions, the tables that names may mean, and how far the transformation has come
pub record Fields : Type 0 where
  pub managed : Managed
  pub spare : ℕ
  pub clients : List Living
  pub known : List Declared
  pub now : Phase
  pub spec : Option Spec
  pub cursor : Option (List Value)
  pub position : ℕ

-- whether a key was passed by a cursor
abbrev pub is_behind : Option (List Value) → List Value → Bool
is_behind cursor key = not (is_after cursor key)

-- a scan under way: it is on its only side, what it saw is behind the cursor, and each key behind it is covered
pub record IsScanning (o : Opening) (past : List Entry) (cursor : Option (List Value)) (s : Started) : Type 0 where
  pub next_side : IsNextSide o past 0
  pub walked : (name : List ℕ) → sources_of s.spec ≡ name ∷ [] → IsWalked (log_of o past) s.mark (seen past) name (is_behind cursor)

-- the same while a scan is under way
abbrev pub ScanMeets : Opening → List Entry → Option (List Value) → Phase → Option Started → Type 0
ScanMeets o past cursor Scanning (Some s) = IsScanning o past cursor s
ScanMeets o past cursor Scanning None = ⊤
ScanMeets o past cursor Idle s = ⊤
ScanMeets o past cursor Chasing s = ⊤
ScanMeets o past cursor Draining s = ⊤
ScanMeets o past cursor Late s = ⊤
ScanMeets o past cursor Done s = ⊤

-- the fields meet the journal, and the journal has room for the end of each live transaction
pub record IsKept (o : Opening) (past : List Entry) (f : Fields) : Type 0 where
  pub opened : IsOpened o
  pub loads_fit : AllByRecursion (λ (r : Rec). FitsTables (schema_of o.catalog) r.body) o.loads
  pub legal : Legal o past
  pub manager_meets : ManagerMeets o past f.managed
  pub clients_are : f.clients ≡ living past
  pub room : length f.clients ≤ f.spare
  pub phase_is : f.now ≡ phase past
  pub known_is : f.known ≡ known o past
  pub spec_is : f.spec ≡ option_map (λ (s : Started). s.spec) (started past)
  pub position_is : f.position ≡ position o past
  pub scan_meets : ScanMeets o past f.cursor (phase past) (started past)
