use Rattle.std.proofs.Common.{take}
use Rattle.sx_locks.specs.Places.{FreesEach}
use Rattle.sx_locks.proofs.locks.free_each.Given as goal

abbrev pub invariant-loop-place : goal.invariant-loop-place
invariant-loop-place l = FreesEach l.fn.locks l.locks l.txn (take l.place-index l.places)
