use Rattle.std.proofs.Common.{◌≡◌, take}
use Rattle.sx_ops.specs.Operators.{rows_passing, rows_failing}
use Rattle.sx_ops.proofs.part.parted.Given as goal

abbrev pub invariant-loop-row : goal.invariant-loop-row
invariant-loop-row l = record {
  front_passing : l.passing ≡ rows_passing l.columns l.tests (take l.row-index l.rows);
  front_failing : l.failing ≡ rows_failing l.columns l.tests (take l.row-index l.rows);
}
