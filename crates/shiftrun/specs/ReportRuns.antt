-- What the report of a whole run shows.
use Rattle.std.specs.Prelude.{◌≡◌, Bool, true, false, ℕ, List, [], map, Some, MatchOption}
use Rattle.sx_ops.specs.declared.spec.Spec.{Spec}
use Rattle.sx_ops.specs.Operators.{targets_of}
use Rattle.sx_heap.specs.declared.tables.NamedTable.{NamedTable}
use Rattle.sx_heap.specs.NamedTables.{names_of_tables}
use Rattle.sx_model.specs.Leaves.{Started, started}
use Rattle.sx_model.specs.Schedules.{Plan, own}
use Rattle.sx_model.specs.Tables.{AreNewTables, AreCommittedNewTables}
use Rattle.sx_lines.specs.declared.line.Line.{Line}
use Rattle.sx_script.specs.Plans.{plan_of}
use Rattle.sx_core.specs.Machines.{Machine}
use Rattle.sx_report.specs.TableLines.{rows_in}
use Rattle.sx_report.specs.Reports.{IsReport}
use Rattle.sx_report.specs.declared.end.ReportEnd.{ReportEnd}
use Rattle.sx_report.specs.declared.end.ReportEnd.TheVariants as report
use Rattle.shiftrun.specs.declared.end.End.{End}
use Rattle.shiftrun.specs.declared.end.End.TheVariants.{NoChange, Violated, Switched}
use Rattle.shiftrun.specs.Runs.{HasRun, HasStopped, end_of}

-- how the report says that a run ended
abbrev pub report_end : End → ReportEnd
report_end NoChange = report.NoChange
report_end (Violated first second) = report.Violated first second
report_end Switched = report.Switched

-- the new tables are the transformation of the sources now, and of what the committed writes alone leave in them
pub record AreTransformed (machine : Machine) (spec : Spec) (tables : List NamedTable) : Type 0 where
  pub names : names_of_tables tables ≡ targets_of spec
  pub began : Started
  pub is_started : started machine.past ≡ Some began
  pub is_asked : began.spec ≡ spec
  pub now : AreNewTables machine.opening machine.past began (map rows_in tables)
  pub of_committed : AreCommittedNewTables machine.opening machine.past began (map rows_in tables)

-- without a transformation there are no new tables, and the propagator has no entry
pub record IsUntouched (machine : Machine) (tables : List NamedTable) : Type 0 where
  pub none : tables ≡ []
  pub quiet : own 0 machine.past ≡ []

-- a machine that has run a script to its end, and the report of that
pub record IsRun (lines : List Line) (machine : Machine) (text : List ℕ) : Type 0 where
  pub run : HasRun (plan_of lines) machine
  pub report : IsReport lines machine (report_end (end_of (plan_of lines).change)) text
  pub transformed : MatchOption (plan_of lines).change (IsUntouched machine report.new_tables) (λ spec. AreTransformed machine spec report.new_tables)

-- a machine whose journal is full before the script's end, and the report of that
pub record IsStoppedRun (lines : List Line) (machine : Machine) (text : List ℕ) : Type 0 where
  pub stopped : HasStopped (plan_of lines) machine
  pub report : IsReport lines machine report.Full text

-- the run of a script to its end, or as far as its journal goes, by whether this was full
abbrev pub IsRunOf : Bool → List Line → Machine → List ℕ → Type 0
IsRunOf false lines machine text = IsRun lines machine text
IsRunOf true lines machine text = IsStoppedRun lines machine text

-- how a machine's run has ended, by whether its journal was full before the script's end
abbrev pub RanTo : Bool → Plan → Machine → ReportEnd → Type 0
RanTo false plan machine end = HasRun plan machine × (end ≡ report_end (end_of plan.change))
RanTo true plan machine end = HasStopped plan machine × (end ≡ report.Full)
