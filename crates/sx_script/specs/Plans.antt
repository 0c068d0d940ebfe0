-- What the lines of a script ask together, and which line may follow others.
use Rattle.std.specs.Prelude.{◌+◌, ◌++◌, ◌==◌, ◌&&◌, Bool, true, false, not, is_some, ℕ, List, [], ◌∷◌, length, map, nat_le, nat_lt, Option, Some, None, option_map, unwrap_or}
use Rattle.std.specs.List.{cons_option, filter_map, list_any}
use Rattle.sx_values.specs.Layouts.{Layout, row_fault, is_null}
use Rattle.sx_values.specs.Catalogs.{schema_of}
use Rattle.sx_values.specs.declared.catalog.Declared.{Declared}
use Rattle.sx_log.specs.declared.record.Load.{Load}
use Rattle.sx_ops.specs.declared.spec.Spec.{Spec}
use Rattle.sx_ops.specs.declared.spec.Spec.TheVariants as spec
use Rattle.sx_ops.specs.declared.spec.Test.{Test}
use Rattle.sx_ops.specs.Checks.{spec_fault}
use Rattle.sx_ops.specs.Targets.{targets}
use Rattle.sx_sync.specs.declared.Strategy.{Strategy}
use Rattle.sx_sync.specs.declared.Strategy.TheVariants.{Blocking}
use Rattle.sx_sync.specs.Ready.{is_blocking}
use Rattle.sx_model.specs.Known.{adopted}
use Rattle.sx_model.specs.Schedules.{Plan, Line as Asked, Pace}
use Rattle.sx_model.specs.Loads.{is_repeated}
use Rattle.sx_lines.specs.declared.line.Line.{Line}
use Rattle.sx_lines.specs.declared.line.Line.TheVariants as line

-- the table that a line declares
abbrev pub table_of : Line → Option Declared
table_of (line.Table name schema) = Some (record { name = name; schema = schema; indexes = []; source = true })
table_of other = None

-- the row that a line loads
abbrev pub load_of : Line → Option Load
load_of (line.Row table row) = Some (record { table = table; row = row })
load_of other = None

-- what a client does on the line at this place
abbrev pub asked_at : ℕ → Line → Option Asked
asked_at place (line.Client n what) = Some (record { client = n; command = record { line = place; what = what } })
asked_at place other = None

-- what the propagator does on the line at this place
abbrev pub pace_at : ℕ → Line → Option Pace
pace_at place (line.Pace what) = Some (record { line = place; what = what })
pace_at place other = None

-- what these lines show by their places, of which the first is at this place
abbrev pub from_place : {A : Type 0} → (ℕ → Line → Option A) → ℕ → List Line → List A
from_place shows place [] = []
from_place shows place (l ∷ lines) = cons_option (shows place l) (from_place shows (place + 1) lines)

-- the client of a client's line
abbrev pub client_of : Line → Option ℕ
client_of (line.Client n what) = Some n
client_of other = None

abbrev pub change_of : Line → Option Spec
change_of (line.Change spec) = Some spec
change_of other = None

abbrev pub strategy_of : Line → Option Strategy
strategy_of (line.Strategy strategy) = Some strategy
strategy_of other = None

abbrev pub retries_of : Line → Option ℕ
retries_of (line.Retries n) = Some n
retries_of other = None

abbrev pub first : {A : Type 0} → List A → Option A
first [] = None
first (x ∷ xs) = Some x

-- what lines ask together: tables, rows to load, what clients and the propagator do, a transformation and a strategy, and how often a request that was held is repeated
abbrev pub plan_of : List Line → Plan
plan_of lines = record {
  catalog = filter_map table_of lines;
  loads = filter_map load_of lines;
  lines = from_place asked_at 1 lines;
  paces = from_place pace_at 1 lines;
  change = first (filter_map change_of lines);
  strategy = unwrap_or (first (filter_map strategy_of lines)) Blocking;
  retries = unwrap_or (first (filter_map retries_of lines)) 8;
}

-- the tables that are known behind a transformation: the declared ones and its new ones
abbrev pub known_by : List Declared → Spec → List Declared
known_by catalog spec = catalog ++ map adopted (targets catalog spec)

-- the tables that a name may mean behind these lines
abbrev pub known : Plan → List Declared
known plan = unwrap_or (option_map (known_by plan.catalog) plan.change) plan.catalog

-- whether no step has come: no line of a client or of the propagator
abbrev pub is_declaring : Plan → Bool
is_declaring plan = length plan.lines == 0 && length plan.paces == 0

-- whether the lines say how often a request is repeated
abbrev pub has_retries : List Line → Bool
has_retries lines = is_some (first (filter_map retries_of lines))

-- whether the lines name a strategy
abbrev pub has_strategy : List Line → Bool
has_strategy lines = is_some (first (filter_map strategy_of lines))

-- whether a number is a client's
abbrev pub is_client : ℕ → Bool
is_client n = nat_le 1 n && nat_le n 8

-- whether a further table may have this name: it is new, and at most 15 tables are declared
abbrev pub takes_table : List Declared → List ℕ → Bool
takes_table catalog name = not (is_some (schema_of catalog name)) && nat_lt (length catalog) 16

-- whether a table admits a row
abbrev pub admits : Option Layout → Load → Bool
admits None load = false
admits (Some layout) load = not (is_some (row_fault layout load.row))

-- whether a row can be loaded: its table is declared and admits it, and no row loaded before has its key
abbrev pub is_loadable : Plan → Load → Bool
is_loadable plan load = admits (schema_of plan.catalog load.table) load && not (list_any (λ earlier. is_repeated plan.catalog earlier load) plan.loads)

-- whether these are from one to four tests, none with Null
abbrev pub are_tests : List Test → Bool
are_tests tests = nat_le 1 (length tests) && nat_le (length tests) 4 && not (list_any (λ (test : Test). is_null test.value) tests)

-- whether a transformation is a horizontal split by such tests
abbrev pub is_shaped : Spec → Bool
is_shaped (spec.Part table tests passing failing) = are_tests tests
is_shaped other = false

-- whether a line may follow these, whose plan this is
abbrev pub accepts_in : Plan → List Line → Line → Bool
accepts_in plan lines (line.Table name schema) = is_declaring plan && not (is_some plan.change) && takes_table plan.catalog name
accepts_in plan lines (line.Row table row) = is_declaring plan && is_loadable plan (record { table = table; row = row })
accepts_in plan lines (line.Change spec) = is_declaring plan && not (is_some plan.change) && is_shaped spec && not (is_some (spec_fault plan.catalog spec))
accepts_in plan lines (line.Retries n) = is_declaring plan && not (has_retries lines) && nat_le n 8
accepts_in plan lines (line.Client n what) = is_client n
accepts_in plan lines (line.Pace pace) = is_some plan.change
accepts_in plan lines (line.Strategy strategy) = is_declaring plan && not (has_strategy lines) && is_blocking strategy
accepts_in plan lines (line.Index table columns) = false

-- whether a line may follow these: declarations first, of tables, loadable rows, one transformation that fits, one strategy and one number of repeats; then steps, those of the propagator only where there is a transformation
abbrev pub accepts : List Line → Line → Bool
accepts lines l = accepts_in (plan_of lines) lines l
