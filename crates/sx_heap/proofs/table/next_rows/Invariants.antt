use Rattle.std.proofs.Common.{◌≡◌, ◌+◌, take, drop, length}
use Rattle.sx_heap.specs.Entries.{rows_of}
use Rattle.sx_heap.proofs.table.next_rows.Given as goal

abbrev pub invariant-loop-turn : goal.invariant-loop-turn
invariant-loop-turn g l = record {
  handed_out : l.seen ≡ rows_of (take l._turn l.fn.ahead);
  left : l.ahead ≡ drop l._turn l.fn.ahead;
  counted : l.steps ≡ l.fn.steps + l._turn;
  as_many : length l.seen ≡ l._turn;
}
