use Rattle.std.proofs.Common.{◌≡◌, ◌++◌, ◌+◌, map, length}
use Rattle.sx_heap.proofs.table.Table.rows.Given as goal

abbrev pub invariant-loop-stamped : goal.invariant-loop-stamped
invariant-loop-stamped g l = record {
  split : map (λ row. row.now) l.rows.items ++ map (λ stamped. stamped.row) l.stamped-iterator ≡ map (λ seen. seen.row) l.self.rows;
  counted : l.steps ≡ l.fn.steps + length l.rows.items;
}
