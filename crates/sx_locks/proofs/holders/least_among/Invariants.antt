use Rattle.std.proofs.Common.{◌≡◌}
use Rattle.sx_locks.proofs.HolderLemmas.{first_other}
use Rattle.sx_locks.proofs.holders.least_among.Given as goal

abbrev pub invariant-loop-other : goal.invariant-loop-other
invariant-loop-other l = first_other l.txn l.mode l.other-iterator ≡ first_other l.txn l.mode l.modes.entries
