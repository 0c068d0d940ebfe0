use Rattle.std.proofs.Common.{◌≡◌, ◌++◌, map, length}
use Rattle.std.specs.Vec.Iter.{into_iter_items, into_iter_len}
use Rattle.sx_heap.specs.Entries.{entry_under}
use Rattle.sx_heap.proofs.table.entries_of.Given as goal

abbrev pub invariant-loop-row : goal.invariant-loop-row
invariant-loop-row l = record {
  split : l.entries.items ++ map (entry_under l.schema l.lsn) (into_iter_items l.row-iterator) ≡ map (entry_under l.schema l.lsn) l.fn.rows;
  left : into_iter_len l.row-iterator ≡ length (into_iter_items l.row-iterator);
}
