use Rattle.std.proofs.Common.{take}
use Rattle.sx_copy.specs.CopyLists.{Merges}
use Rattle.sx_copy.proofs.list.CopyList.merge_scan.Given as goal

abbrev pub invariant-loop-reading : goal.invariant-loop-reading
invariant-loop-reading l = Merges l.side (take l.reading-index l.reading-items) l.fn.self l.self
