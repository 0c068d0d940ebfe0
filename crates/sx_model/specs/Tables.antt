-- The rows of the new tables, as lists in key order.
use Rattle.std.specs.Prelude.{⊤, List, [], ◌∷◌, Some}
use Rattle.sx_values.specs.declared.value.Value.{Value}
use Rattle.sx_log.specs.Undoing.{Rows}
use Rattle.sx_log.specs.Committed.{committed}
use Rattle.sx_ops.specs.declared.spec.Target.{Target}
use Rattle.sx_ops.specs.Targets.{targets}
use Rattle.sx_journal.specs.declared.entry.Entry.{Entry}
use Rattle.sx_model.specs.Openings.{Opening}
use Rattle.sx_model.specs.Leaves.{Started}
use Rattle.sx_model.specs.Logs.{log_of, row_now}
use Rattle.sx_model.specs.NewRows.{given_row, row_from}
use Rattle.sx_model.specs.RowLists.{AreRows}

-- one list for each of these tables, with the rows that are there
abbrev pub AreListed : List Target → Rows → List (List (List Value)) → Type 0
AreListed [] there [] = ⊤
AreListed (target ∷ targets) there (rows ∷ lists) = AreRows target.schema (there target.name) rows × AreListed targets there lists
AreListed [] there (rows ∷ lists) = ⊥
AreListed (target ∷ targets) there [] = ⊥

-- the new tables after the switch
abbrev pub AreNewTables : Opening → List Entry → Started → List (List (List Value)) → Type 0
AreNewTables o past s tables = AreListed (targets o.catalog s.spec) (row_now o past) tables

-- the row that the committed writes alone leave at a key of a new table: what the transformation gives on what they leave in the sources, followed by those on the table
abbrev pub committed_row : Opening → List Entry → Started → Rows
committed_row o past s = row_from (given_row o.catalog (committed (log_of o past)) (Some s)) (committed (log_of o past))

-- the committed new tables
abbrev pub AreCommittedNewTables : Opening → List Entry → Started → List (List (List Value)) → Type 0
AreCommittedNewTables o past s tables = AreListed (targets o.catalog s.spec) (committed_row o past s) tables
