use Rattle.shiftrun.proofs.ReportLaws.{run_report}
use Rattle.shiftrun.proofs.run.reported.Goals as goal

pub returns : goal.returns
returns c = run_report c.args.is_full c.args.script.now c.args.core c.args.end.now c.in_ok-text.text c.requires c.lines-lines.ensures.runs c.in_ok-text.ensures
