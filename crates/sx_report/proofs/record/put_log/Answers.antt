use Rattle.std.proofs.Common.{◌≡◌, ◌++◌, arith}
use Rattle.std.proofs.lemmas.Grind.{common_steps}
use Rattle.sx_report.specs.LogLines.{log_line}
use Rattle.sx_report.proofs.LineLaws.{lines_from, lines_of_reverse}
use Rattle.sx_report.proofs.record.put_log.Goals as goal

pub returns : goal.returns
returns c =
    let done : c.loop-index.out.items ≡ c.args.out.now.items ++ lines_from log_line 1 c.args.log.now = grind (arith, common_steps) in
    rw (lines_of_reverse log_line c.args.log.now) done
