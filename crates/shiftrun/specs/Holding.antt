-- The image that the propagator holds beside a machine.
use Rattle.std.specs.Prelude.{◌≡◌, ⊤, Bool, true, false, nat_lt, ℕ, List, length, Option, Some, None, Result, Ok, Err, if◌then◌else◌}
use Rattle.std.specs.List.{AllByRecursion}
use Rattle.sx_values.specs.Catalogs.{schema_of}
use Rattle.sx_log.specs.declared.record.Rec.{Rec}
use Rattle.sx_log.specs.Images.{FitsTables}
use Rattle.sx_heap.specs.declared.seen.Seen.{Seen}
use Rattle.sx_image.specs.declared.image.Kind.{Kind}
use Rattle.sx_image.specs.Images.{FitsScan, Populates, CanFollow, Follows}
use Rattle.sx_sync.specs.declared.Phase.{Phase}
use Rattle.sx_sync.specs.declared.Phase.TheVariants.{Idle, Scanning, Chasing, Draining, Late, Done}
use Rattle.sx_journal.specs.declared.entry.Event.{Event}
use Rattle.sx_journal.specs.declared.entry.PropLine.{PropLine}
use Rattle.sx_journal.specs.declared.entry.PropLine.TheVariants as prop
use Rattle.sx_journal.specs.declared.entry.Reply.{Reply}
use Rattle.sx_journal.specs.declared.entry.Reply.TheVariants as reply
use Rattle.sx_model.specs.Leaves.{phase}
use Rattle.sx_model.specs.Logs.{log_of}
use Rattle.sx_model.specs.Switches.{position}
use Rattle.sx_model.specs.Legal.{Legal}
use Rattle.sx_model.specs.Schedules.{Plan, holds_image, pace_event}
use Rattle.sx_core.specs.Machines.{Machine, Turns}
use Rattle.sx_core.specs.Answers.{Fails}
use Rattle.sx_core.specs.Stands.{Stands}
use Rattle.sx_core.specs.declared.switch.Cause.{Cause}
use Rattle.sx_core.specs.declared.switch.Cause.TheVariants as cause
use Rattle.sx_core.specs.declared.machine.CoreFault.{CoreFault}
use Rattle.sx_core.specs.declared.machine.CoreFault.TheVariants.{Memory, Full}

-- an image is held exactly while a transformation is before its switch, and stands for the copy that the journal tells
abbrev pub Holds : Machine → Option Kind → Type 0
Holds m None = holds_image (phase m.past) ≡ false
Holds m (Some image) = (holds_image (phase m.past) ≡ true) × Stands m.opening m.past image

-- a machine with a legal journal from loaded rows that fit their tables, and the propagator's image
pub record Held (m : Machine) (image : Option Kind) : Type 0 where
  pub legal : Legal m.opening m.past
  pub fit : AllByRecursion (λ (r : Rec). FitsTables (schema_of m.opening.catalog) r.body) m.opening.loads
  pub holds : Holds m image

-- a turn was taken, and the image goes on with it
pub record TakesOn (old new : Machine) (image : Option Kind) (actor : ℕ) (event : Event) : Type 0 where
  pub reply : Reply
  pub turn : Turns old new actor event reply
  pub held : Held new image

-- the same, or the journal was full; of the machine nothing is said where memory ran out
abbrev pub IsTurned : (old new : Machine) → Option Kind → ℕ → Event → Result Unit CoreFault → Type 0
IsTurned old new image actor event (Ok done) = TakesOn old new image actor event
IsTurned old new image actor event (Err Memory) = ⊤
IsTurned old new image actor event (Err Full) = Fails old new actor event Full

-- whatever image was held is held still
abbrev pub KeepsImage : (old new : Machine) → Type 0
KeepsImage old new = (image : Option Kind) → Held old image → Held new image

-- the turn of a line of the propagator was taken, or the journal was full for it
abbrev pub IsTurnedIf : (old new : Machine) → Option Kind → Option Event → Result Unit CoreFault → Type 0
IsTurnedIf old new image (Some event) result = IsTurned old new image 0 event result
IsTurnedIf old new image None result = ⊥

abbrev pub IsPaceTurned : Plan → PropLine → (old new : Machine) → Option Kind → Result Unit CoreFault → Type 0
IsPaceTurned plan what old new image result = IsTurnedIf old new image (pace_event plan.change plan.strategy what) result

-- whether the log is longer than the propagator has read it
abbrev pub is_behind : Machine → Bool
is_behind m = nat_lt (position m.opening m.past) (length (log_of m.opening m.past))

-- what the propagator does at the end, by how far the transformation has come, and whether records are left to read
abbrev pub last_line : Phase → Bool → Option PropLine
last_line Idle behind = Some prop.Start
last_line Scanning behind = Some (prop.Scan 64)
last_line Chasing behind = Some (if behind then prop.Fetch 256 else prop.Switch)
last_line Draining behind = Some (if behind then prop.Fetch 256 else prop.Switch)
last_line Late behind = None
last_line Done behind = None

-- what the image needs for an answer to a scan turn, and what it learns
unfoldable pub FitsAnswer : Reply → List Seen → Kind → Type 0
FitsAnswer (reply.Scanned side lsns last) seen image = FitsScan side seen image
FitsAnswer other seen image = ⊤

unfoldable pub LearnsAnswer : Reply → List Seen → (old new : Kind) → Type 0
LearnsAnswer (reply.Scanned side lsns last) seen old new = Populates side seen old new
LearnsAnswer other seen old new = new ≡ old

-- the same of an image that may not be held
abbrev pub LearnsIf : Reply → List Seen → (old new : Option Kind) → Type 0
LearnsIf answer seen None new = new ≡ None
LearnsIf answer seen (Some old) (Some new) = LearnsAnswer answer seen old new
LearnsIf answer seen (Some old) None = ⊥

-- the same of an answer to a fetch
unfoldable pub FitsFetch : Reply → List Rec → Kind → Type 0
FitsFetch (reply.Fetched from to) recs image = CanFollow recs to image
FitsFetch other recs image = ⊤

unfoldable pub LearnsFetch : Reply → List Rec → (old new : Kind) → Type 0
LearnsFetch (reply.Fetched from to) recs old new = Follows recs to old new
LearnsFetch other recs old new = new ≡ old

abbrev pub LearnsFetchIf : Reply → List Rec → (old new : Option Kind) → Type 0
LearnsFetchIf answer recs None new = new ≡ None
LearnsFetchIf answer recs (Some old) (Some new) = LearnsFetch answer recs old new
LearnsFetchIf answer recs (Some old) None = ⊥

-- a fresh image is held from a start on; another answer leaves what was held
unfoldable pub HoldsFrom : Reply → (fresh : Kind) → (old new : Option Kind) → Type 0
HoldsFrom (reply.Started lsn) fresh old new = new ≡ Some fresh
HoldsFrom other fresh old new = new ≡ old

-- why an attempt to switch is no turn, if it is none
abbrev pub fault_of : Cause → Option CoreFault
fault_of cause.Memory = Some Memory
fault_of cause.Full = Some Full
fault_of (cause.Worn turns) = None
fault_of cause.NoTransform = None
fault_of cause.NotScanned = None
fault_of (cause.Unread pos end) = None
fault_of (cause.Conflict txn) = None
fault_of (cause.Violated first second) = None
