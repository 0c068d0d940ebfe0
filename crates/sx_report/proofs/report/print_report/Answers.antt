use Rattle.std.proofs.Common.{◌∙◌}
use Rattle.sx_model.specs.Logs.{log_of}
use Rattle.sx_script.specs.Printing.{script_text}
use Rattle.sx_report.proofs.ReportLaws.{head_of_machine, report_of_machine}
use Rattle.sx_report.proofs.report.print_report.Goals as goal

pub returns : goal.returns
returns c =
    let core = c.args.core.now in
    let out = c.put_head.new.out.items in
    let past = c.as_slice-entries.ensures ∙ c.journal.ensures.journal in
    let log = c.as_slice-log.ensures ∙ c.log.ensures in
    let head = head_of_machine (script_text c.args.script.now) c.as_slice-entries.result.now core.past c.as_slice-log.result.now (log_of core.opening core.past) c.new-out.result.items out c.new-out.ensures.items past log c.in_ok-put_head.ensures in
    report_of_machine c.args.script.now core c.args.end.now c.tables.result.now c.new_tables.result.now out c.from_vec.result c.tables.ensures c.in_ok-put_tail.ensures.relations c.new_tables.ensures c.in_ok-put_tail.ensures.new_relations head (c.from_vec.ensures ∙ c.in_ok-put_tail.ensures.text)
