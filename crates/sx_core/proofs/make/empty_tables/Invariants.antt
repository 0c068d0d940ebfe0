use Rattle.std.proofs.Common.{◌≡◌, map, take}
use Rattle.sx_core.specs.Loading.{empty_table}
use Rattle.sx_core.proofs.make.empty_tables.Given as goal

abbrev pub invariant-loop-table : goal.invariant-loop-table
invariant-loop-table l = l.tables ≡ map empty_table (take l.table-index l.declared)
