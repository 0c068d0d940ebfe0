use Rattle.std.proofs.Common.{◌≡◌, ◌++◌, drop}
use Rattle.sx_text.specs.Reading.{kinds_of}
use Rattle.sx_text.proofs.reading.kinds_of_row.Given as goal

abbrev pub invariant-loop-column : goal.invariant-loop-column
invariant-loop-column l = l.kinds.items ++ kinds_of (drop l.column-index l.column-items) ≡ kinds_of l.column-items
