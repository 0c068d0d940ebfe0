use Rattle.std.proofs.Common.{◌≡◌, ◌++◌, arith}
use Rattle.std.proofs.lemmas.Grind.{common_steps}
use Rattle.sx_report.specs.EntryLines.{entry_line}
use Rattle.sx_report.proofs.LineLaws.{lines_from, lines_of_reverse}
use Rattle.sx_report.proofs.entry.put_journal.Goals as goal

pub returns : goal.returns
returns c =
    let done : c.loop-index.out.items ≡ c.args.out.now.items ++ lines_from entry_line 1 c.args.entries.now = grind (arith, common_steps) in
    rw (lines_of_reverse entry_line c.args.entries.now) done
