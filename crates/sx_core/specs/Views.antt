-- What the machine lends of its tables.
use Rattle.std.specs.Prelude.{◌≡◌, ℕ, List, map, IsSome}
use Rattle.sx_values.specs.declared.value.Value.{Value}
use Rattle.sx_heap.specs.declared.tables.NamedTable.{NamedTable}
use Rattle.sx_heap.specs.NamedTables.{table_named}
use Rattle.sx_txn.specs.Managed.{shape_of}
use Rattle.sx_journal.specs.declared.entry.Entry.{Entry}
use Rattle.sx_model.specs.Openings.{Opening}
use Rattle.sx_model.specs.Logs.{log_of}
use Rattle.sx_model.specs.NewRows.{state_in}
use Rattle.sx_core.specs.Kept.{shapes_of, shown_now, stored_in}

-- the new tables behind a switch, and none before it, with what the entries leave in them
pub record AreNew (o : Opening) (past : List Entry) (tables : List NamedTable) : Type 0 where
  pub shapes : map shape_of tables ≡ shapes_of (shown_now o past)
  pub rows : (name : List ℕ) (key : List Value) → IsSome (table_named tables name) → stored_in tables name key ≡ state_in o past (log_of o past) name key
