-- What the program prints, and with which status.
use Rattle.std.specs.Prelude.{◌≡◌, ◌⊎◌, Bool, true, false, ℕ, List, [], ◌∷◌, codes, Option, Some, None}
use Rattle.sx_io.specs.Whole.{IsReadWhole, IsReadPast}
use Rattle.sx_lines.specs.declared.line.Line.{Line}
use Rattle.sx_script.specs.Reading.{script_read}
use Rattle.sx_core.specs.Machines.{Machine}
use Rattle.shiftrun.specs.ReportRuns.{IsRunOf}
use Rattle.shiftrun.specs.declared.status.Status.{Status}
use Rattle.shiftrun.specs.declared.status.Status.TheVariants.{Reported, Refused, Words, Unread, Unwritten, Memory, Full}

-- the one command that is built
abbrev pub IsStep : List (List ℕ) → Type 0
IsStep words = words ≡ codes "step" ∷ []

-- how many bytes a script may have
abbrev pub most_bytes : ℕ
most_bytes = 1048576

-- bytes that are a script, and the report of its run to the end, or until its journal was full
pub record IsReportOf (full : Bool) (bytes text : List ℕ) (kept : Option Machine) : Type 0 where
  pub lines : List Line
  pub script : script_read bytes ≡ Some lines
  pub machine : Machine
  pub run : IsRunOf full lines machine text
  pub keeps : kept ≡ Some machine

-- bytes that are no script, and the line that says so
pub record IsNoScript (bytes text : List ℕ) (kept : Option Machine) : Type 0 where
  pub script : script_read bytes ≡ None
  pub shown : text ≡ codes "fault 0 later\n"
  pub keeps : kept ≡ None

-- all bytes of the source were read, and are a script
pub record IsReportOn (full : Bool) (left rest : Option (List ℕ)) (text : List ℕ) (kept : Option Machine) : Type 0 where
  pub bytes : List ℕ
  pub read : IsReadWhole left rest most_bytes bytes
  pub report : IsReportOf full bytes text kept

-- all bytes of the source were read, and are no script
pub record IsRefusedOn (left rest : Option (List ℕ)) (text : List ℕ) (kept : Option Machine) : Type 0 where
  pub bytes : List ℕ
  pub read : IsReadWhole left rest most_bytes bytes
  pub refused : IsNoScript bytes text kept

-- the source has more bytes than a script may have
pub record IsTooLong (left rest : Option (List ℕ)) (text : List ℕ) (kept : Option Machine) : Type 0 where
  pub read : IsReadPast left rest most_bytes
  pub shown : text ≡ codes "fault 0 toolong\n"
  pub keeps : kept ≡ None

-- the words are no command, and no byte of the source was read
pub record AreNoCommand (words : List (List ℕ)) (left rest : Option (List ℕ)) (text : List ℕ) (kept : Option Machine) : Type 0 where
  pub others : IsStep words → ⊥
  pub unread : rest ≡ left
  pub shown : text ≡ codes "fault words\n"
  pub keeps : kept ≡ None

-- what the program prints for its words, from a source that had the bytes left and has the rest, and the machine that it keeps
abbrev pub IsOutput : List (List ℕ) → (left rest : Option (List ℕ)) → Status → List ℕ → Option Machine → Type 0
IsOutput words left rest Reported text kept = IsStep words × IsReportOn false left rest text kept
IsOutput words left rest Refused text kept = IsStep words × (IsRefusedOn left rest text kept ⊎ IsTooLong left rest text kept)
IsOutput words left rest Words text kept = AreNoCommand words left rest text kept
IsOutput words left rest Unread text kept = ⊥
IsOutput words left rest Unwritten text kept = ⊥
IsOutput words left rest Memory text kept = ⊥
IsOutput words left rest Full text kept = IsStep words × IsReportOn true left rest text kept

-- what the program prints for the bytes that it read
abbrev pub IsOutputOf : List ℕ → Status → List ℕ → Option Machine → Type 0
IsOutputOf bytes Reported text kept = IsReportOf false bytes text kept
IsOutputOf bytes Refused text kept = IsNoScript bytes text kept
IsOutputOf bytes Words text kept = ⊥
IsOutputOf bytes Unread text kept = ⊥
IsOutputOf bytes Unwritten text kept = ⊥
IsOutputOf bytes Memory text kept = ⊥
IsOutputOf bytes Full text kept = IsReportOf true bytes text kept
