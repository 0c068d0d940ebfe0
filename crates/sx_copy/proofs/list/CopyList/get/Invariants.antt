use Rattle.std.proofs.Common.{◌≡◌, drop}
use Rattle.sx_copy.specs.CopyLists.{copy_at}
use Rattle.sx_copy.proofs.list.CopyList.get.Given as goal

abbrev pub invariant-loop-row : goal.invariant-loop-row
invariant-loop-row l = copy_at (drop l.row-index l.row-items) l.side l.key ≡ copy_at l.row-items l.side l.key
