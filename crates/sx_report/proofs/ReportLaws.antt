-- What the sections of a report make together.
use Rattle.std.proofs.Common.{◌≡◌, ◌++◌, ℕ, List, [], reverse, ap, ◌∙◌}
use Rattle.sx_log.specs.declared.record.Rec.{Rec}
use Rattle.sx_heap.specs.declared.tables.NamedTable.{NamedTable}
use Rattle.sx_journal.specs.declared.entry.Entry.{Entry}
use Rattle.sx_model.specs.Logs.{log_of}
use Rattle.sx_lines.specs.declared.line.Line.{Line}
use Rattle.sx_script.specs.Printing.{script_text}
use Rattle.sx_core.specs.Machines.{Machine}
use Rattle.sx_txn.specs.Managed.{AreTables}
use Rattle.sx_core.specs.Kept.{shapes_of}
use Rattle.sx_core.specs.Views.{AreNew}
use Rattle.sx_report.specs.declared.end.ReportEnd.{ReportEnd}
use Rattle.sx_report.specs.TableLines.{AreRelations}
use Rattle.sx_report.specs.Reports.{IsReport, head_text, tail_text}

-- a head that shows lists of entries and records from the oldest on shows the journal and the log that they are
pub head_of_machine : (script : List ℕ) (entries past : List Entry) (records log : List Rec) (empty head : List ℕ) → empty ≡ [] → reverse entries ≡ past → reverse records ≡ log → head ≡ empty ++ head_text script (reverse entries) (reverse records) → head ≡ head_text script past log
head_of_machine script entries past records log empty head is_empty is_past is_log shows =
    shows
    ∙ ap (λ (xs : List ℕ). xs ++ head_text script (reverse entries) (reverse records)) is_empty
    ∙ ap (λ (xs : List Entry). head_text script xs (reverse records)) is_past
    ∙ ap (λ (xs : List Rec). head_text script past xs) is_log

-- the tables that a machine lends, behind its head
pub report_of_machine : (script : List Line) (machine : Machine) (end : ReportEnd) (tables new_tables : List NamedTable) (head text : List ℕ) → AreTables (log_of machine.opening machine.past) (shapes_of machine.opening.catalog) tables → AreRelations tables → AreNew machine.opening machine.past new_tables → AreRelations new_tables → head ≡ head_text (script_text script) machine.past (log_of machine.opening machine.past) → text ≡ head ++ tail_text tables new_tables end → IsReport script machine end text
report_of_machine script machine end tables new_tables head text meet in_order new_meet new_in_order is_head is_text = record {
  tables = tables;
  new_tables = new_tables;
  meet = meet;
  in_order = in_order;
  new_meet = new_meet;
  new_in_order = new_in_order;
  shows = is_text ∙ ap (λ (xs : List ℕ). xs ++ tail_text tables new_tables end) is_head;
}
