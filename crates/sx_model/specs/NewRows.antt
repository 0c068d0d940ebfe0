-- The rows of new tables: those that the transformation gave them, and what the records on them made of these. A log is seen newest first.
use Rattle.std.specs.Prelude.{◌+◌, ℕ, List, [], ◌∷◌, length, map, Option, Some, None, option_map, if◌then◌else◌}
use Rattle.sx_values.specs.Names.{same_name}
use Rattle.sx_values.specs.declared.value.Value.{Value}
use Rattle.sx_values.specs.declared.catalog.Declared.{Declared}
use Rattle.sx_values.specs.Catalogs.{declared_as}
use Rattle.sx_log.specs.declared.record.Rec.{Rec}
use Rattle.sx_log.specs.State.{Stored, after_body}
use Rattle.sx_log.specs.Rows.{Keyed, rows_left}
use Rattle.sx_ops.specs.declared.spec.Spec.{Spec}
use Rattle.sx_ops.specs.declared.spec.Target.{Target}
use Rattle.sx_ops.specs.Operators.{sources_of, operator}
use Rattle.sx_ops.specs.Targets.{targets}
use Rattle.sx_sync.specs.declared.Phase.{Phase}
use Rattle.sx_sync.specs.declared.Phase.TheVariants.{Idle, Scanning, Chasing, Draining, Late, Done}
use Rattle.sx_journal.specs.declared.entry.Entry.{Entry}
use Rattle.sx_model.specs.Openings.{Opening}
use Rattle.sx_model.specs.Leaves.{Started, started, phase}
use Rattle.sx_model.specs.RowLists.{row_of_key}

-- the rows that a log leaves in a table, in key order
abbrev pub rows_of : List Rec → List ℕ → List (List Value)
rows_of log table = map (λ (k : Keyed). k.row) (rows_left log table)

-- what a transformation gives on the rows that a log leaves in its sources, a list for each new table
abbrev pub given : List Declared → List Rec → Spec → List (List (List Value))
given catalog log spec = operator catalog spec (map (rows_of log) (sources_of spec))

-- the row of a key in the table of a name among these, each of which has the rows of its list
abbrev pub row_among : List Target → List (List (List Value)) → List ℕ → List Value → Option (List Value)
row_among [] lists table key = None
row_among (target ∷ others) [] table key = None
row_among (target ∷ others) (rows ∷ lists) table key = if same_name target.name table then row_of_key target.schema rows key else row_among others lists table key

-- the row that a transformation gave a key of a new table, under LSN 0
abbrev pub given_row : List Declared → List Rec → Option Started → List ℕ → List Value → Option Stored
given_row catalog log None table key = None
given_row catalog log (Some s) table key = option_map (λ row. (row, 0)) (row_among (targets catalog s.spec) (given catalog log s.spec) table key)

-- new tables have rows behind the switch
abbrev pub visible_in : Phase → Option Stored → Option Stored
visible_in Idle there = None
visible_in Scanning there = None
visible_in Chasing there = None
visible_in Draining there = None
visible_in Late there = there
visible_in Done there = there

-- what a key has behind the records of a log, from what it had before them
abbrev pub state_from : Option Stored → List Rec → List ℕ → List Value → Option Stored
state_from first [] table key = first
state_from first (r ∷ past) table key = after_body (length past + 1) r.body table key (state_from first past table key)

-- what keys of tables had before any record on them
abbrev pub Firsts : Type 0
Firsts = List ℕ → List Value → Option Stored

-- the row that a key has behind the records of a log
abbrev pub row_from : Firsts → List Rec → List ℕ → List Value → Option (List Value)
row_from first log table key = option_map (λ (s : Stored). s.0) (state_from (first table key) log table key)

-- a declared table had nothing before the log; a new one what it was given
abbrev pub first_in : Opening → List Entry → List Rec → Firsts
first_in o past log table key = elim (declared_as o.catalog table) [
  | Some d ↦ None
  | None ↦ visible_in (phase past) (given_row o.catalog log (started past) table key)
]

-- what a key of a table has now, by the log of the entries: the row and its LSN, which is 0 where no record put it there
abbrev pub state_in : Opening → List Entry → List Rec → List ℕ → List Value → Option Stored
state_in o past log table key = state_from (first_in o past log table key) log table key

-- the same without the LSN
abbrev pub row_in : Opening → List Entry → List Rec → List ℕ → List Value → Option (List Value)
row_in o past log = row_from (first_in o past log) log
