use Rattle.std.proofs.Common.{◌≡◌, ◌++◌, ◌+◌, drop}
use Rattle.sx_report.specs.LogLines.{log_line}
use Rattle.sx_report.proofs.LineLaws.{lines_from}
use Rattle.sx_report.proofs.record.put_log.Given as goal

abbrev pub invariant-loop-index : goal.invariant-loop-index
invariant-loop-index l = l.out.items ++ lines_from log_line (l.index + 1) (drop l.index l.log) ≡ l.fn.out.items ++ lines_from log_line 1 l.log
