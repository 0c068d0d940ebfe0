-- How a call of the program ends, by its status.
use Rattle.std.specs.Prelude.{◌≡◌, ◌⊎◌, Bool, true, false, ℕ, List, Option, Some, None}
use Rattle.std.specs.Io.KnownBytes.{Appends}
use Rattle.sx_io.specs.Causes.{Rose}
use Rattle.sx_io.specs.Whole.{IsWrittenInPart}
use Rattle.sx_core.specs.Machines.{Machine}
use Rattle.shiftrun.specs.Outputs.{IsStep, IsOutput, IsOutputOf}
use Rattle.shiftrun.specs.Statuses.{code}
use Rattle.shiftrun.specs.declared.status.Status.{Status}
use Rattle.shiftrun.specs.declared.status.Status.TheVariants.{Reported, Refused, Words, Unread, Unwritten, Memory, Full}

-- what is seen of the source and the sink: the bytes that are left and those that were written, where these are told, and the counts of faults
pub record Outside : Type 0 where
  pub left : Option (List ℕ)
  pub unread : ℕ
  pub written : Option (List ℕ)
  pub unwritten : ℕ

-- the sink took the whole output
pub record IsPrinted (words : List (List ℕ)) (before after : Outside) (kept : Option Machine) (status : Status) : Type 0 where
  pub text : List ℕ
  pub output : IsOutput words before.left after.left status text kept
  pub taken : Appends before.written after.written text

-- reading failed, and nothing was written
pub record IsUnread (words : List (List ℕ)) (before after : Outside) (kept : Option Machine) : Type 0 where
  pub step : IsStep words
  pub rose : Rose before.unread after.unread
  pub nothing : after.written ≡ before.written
  pub keeps : kept ≡ None

-- writing failed: the sink took a prefix of the very output that would have been printed, whatever its status
pub record IsUnwritten (words : List (List ℕ)) (before after : Outside) (kept : Option Machine) : Type 0 where
  pub status : Status
  pub text : List ℕ
  pub unkept : Option Machine
  pub output : IsOutput words before.left after.left status text unkept
  pub taken : ℕ
  pub front : IsWrittenInPart before.written after.written before.unwritten after.unwritten text taken
  pub keeps : kept ≡ None

-- memory ran out, and nothing was written
pub record IsWanting (before after : Outside) (kept : Option Machine) : Type 0 where
  pub nothing : after.written ≡ before.written
  pub keeps : kept ≡ None

-- how a call ends
abbrev pub Ends : List (List ℕ) → (before after : Outside) → Option Machine → Status → Type 0
Ends words before after kept Reported = IsPrinted words before after kept Reported
Ends words before after kept Refused = IsPrinted words before after kept Refused
Ends words before after kept Words = IsPrinted words before after kept Words
Ends words before after kept Unread = IsUnread words before after kept
Ends words before after kept Unwritten = IsUnwritten words before after kept
Ends words before after kept Memory = IsWanting before after kept
Ends words before after kept Full = IsPrinted words before after kept Full

-- the same, by the number of the status
pub record EndsWith (words : List (List ℕ)) (before after : Outside) (kept : Option Machine) (number : ℕ) : Type 0 where
  pub status : Status
  pub is_code : number ≡ code status
  pub ends : Ends words before after kept status

-- the whole text was put out, or a part of it, and then the status says so
abbrev pub PutsOut : (written after : Option (List ℕ)) (before now : ℕ) (text : List ℕ) (status result : Status) → Type 0
PutsOut written after before now text status result =
    ((result ≡ status) × Appends written after text)
    ⊎ ((result ≡ Unwritten) × ((taken : ℕ) × IsWrittenInPart written after before now text taken))

-- the status of a run whose report was put out, by whether its journal was full before the script's end
abbrev pub run_status : Bool → Status
run_status false = Reported
run_status true = Full

-- the whole report of a run was put out, and its machine is kept; or a part of it, and then the status says so and no machine is kept
abbrev pub PutsRun : (full : Bool) (machine : Machine) (text : List ℕ) (written after : Option (List ℕ)) (before now : ℕ) (kept : Option Machine) (result : Status) → Type 0
PutsRun full machine text written after before now kept result =
    ((result ≡ run_status full) × (kept ≡ Some machine) × Appends written after text)
    ⊎ ((result ≡ Unwritten) × (kept ≡ None) × ((taken : ℕ) × IsWrittenInPart written after before now text taken))

-- the output for some bytes was put out
pub record IsPut (bytes : List ℕ) (written after : Option (List ℕ)) (kept : Option Machine) (status : Status) : Type 0 where
  pub text : List ℕ
  pub output : IsOutputOf bytes status text kept
  pub taken : Appends written after text

-- a part of it was
pub record IsPutInPart (bytes : List ℕ) (written after : Option (List ℕ)) (before now : ℕ) (kept : Option Machine) : Type 0 where
  pub status : Status
  pub text : List ℕ
  pub unkept : Option Machine
  pub output : IsOutputOf bytes status text unkept
  pub taken : ℕ
  pub front : IsWrittenInPart written after before now text taken
  pub keeps : kept ≡ None

-- how it ends once some bytes are read
abbrev pub StepEnds : List ℕ → (written after : Option (List ℕ)) → (before now : ℕ) → Option Machine → Status → Type 0
StepEnds bytes written after before now kept Reported = IsPut bytes written after kept Reported
StepEnds bytes written after before now kept Refused = IsPut bytes written after kept Refused
StepEnds bytes written after before now kept Words = ⊥
StepEnds bytes written after before now kept Unread = ⊥
StepEnds bytes written after before now kept Unwritten = IsPutInPart bytes written after before now kept
StepEnds bytes written after before now kept Memory = (after ≡ written) × (kept ≡ None)
StepEnds bytes written after before now kept Full = IsPut bytes written after kept Full
