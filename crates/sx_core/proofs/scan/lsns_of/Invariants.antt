use Rattle.std.proofs.Common.{◌≡◌, map, take}
use Rattle.sx_heap.specs.declared.seen.Seen.{Seen}
use Rattle.sx_core.proofs.scan.lsns_of.Given as goal

abbrev pub invariant-loop-row : goal.invariant-loop-row
invariant-loop-row l = l.lsns.items ≡ map (λ (s : Seen). s.lsn) (take l.row-index l.seen)
