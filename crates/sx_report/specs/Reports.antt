-- The text of a report.
use Rattle.std.specs.Prelude.{◌≡◌, ◌++◌, ℕ, List, codes}
use Rattle.sx_log.specs.declared.record.Rec.{Rec}
use Rattle.sx_heap.specs.declared.tables.NamedTable.{NamedTable}
use Rattle.sx_journal.specs.declared.entry.Entry.{Entry}
use Rattle.sx_model.specs.Logs.{log_of}
use Rattle.sx_lines.specs.declared.line.Line.{Line}
use Rattle.sx_script.specs.Printing.{script_text}
use Rattle.sx_core.specs.Machines.{Machine}
use Rattle.sx_txn.specs.Managed.{AreTables}
use Rattle.sx_core.specs.Kept.{shapes_of}
use Rattle.sx_core.specs.Views.{AreNew}
use Rattle.sx_report.specs.declared.end.ReportEnd.{ReportEnd}
use Rattle.sx_report.specs.EntryLines.{journal_lines}
use Rattle.sx_report.specs.LogLines.{log_lines}
use Rattle.sx_report.specs.TableLines.{AreRelations, tables_text}
use Rattle.sx_report.specs.EndLines.{end_text}

-- a script's lines, the journal and the log; both are seen newest first
abbrev pub head_text : List ℕ → List Entry → List Rec → List ℕ
head_text script past log = codes "script\n" ++ script ++ codes "journal\n" ++ journal_lines past ++ codes "log\n" ++ log_lines log

-- the tables and then the new ones, and how the run ended
abbrev pub tail_text : List NamedTable → List NamedTable → ReportEnd → List ℕ
tail_text tables new_tables end = codes "tables\n" ++ tables_text tables ++ tables_text new_tables ++ end_text end

-- the report
abbrev pub report_text : List ℕ → List Entry → List Rec → List NamedTable → List NamedTable → ReportEnd → List ℕ
report_text script past log tables new_tables end = head_text script past log ++ tail_text tables new_tables end

-- the report of a machine that ran a script: its journal, its log, the declared tables with the rows that the log leaves, and the new tables
pub record IsReport (script : List Line) (machine : Machine) (end : ReportEnd) (text : List ℕ) : Type 0 where
  pub tables : List NamedTable
  pub new_tables : List NamedTable
  pub meet : AreTables (log_of machine.opening machine.past) (shapes_of machine.opening.catalog) tables
  pub in_order : AreRelations tables
  pub new_meet : AreNew machine.opening machine.past new_tables
  pub new_in_order : AreRelations new_tables
  pub shows : text ≡ report_text (script_text script) machine.past (log_of machine.opening machine.past) tables new_tables end
