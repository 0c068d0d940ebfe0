use Rattle.std.proofs.Common.{◌≡◌, ◌++◌, ◌+◌, drop}
use Rattle.sx_report.specs.EntryLines.{entry_line}
use Rattle.sx_report.proofs.LineLaws.{lines_from}
use Rattle.sx_report.proofs.entry.put_journal.Given as goal

abbrev pub invariant-loop-index : goal.invariant-loop-index
invariant-loop-index l =
    l.out.items ++ lines_from entry_line (l.index + 1) (drop l.index l.entries) ≡ l.fn.out.items ++ lines_from entry_line 1 l.entries
