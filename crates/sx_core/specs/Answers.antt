-- How an event of the machine ends.
use Rattle.std.specs.Prelude.{◌≡◌, ◌-◌, ◌⊎◌, ℕ, List, [], map, Option, Some, Result, Ok, Err}
use Rattle.std.specs.List.{AllByRecursion}
use Rattle.sx_lists.specs.Places.{following}
use Rattle.sx_log.specs.declared.record.Rec.{Rec}
use Rattle.sx_log.specs.State.{state_at}
use Rattle.sx_heap.specs.declared.seen.Seen.{Seen}
use Rattle.sx_ops.specs.declared.spec.Spec.{Spec}
use Rattle.sx_sync.specs.declared.Strategy.{Strategy}
use Rattle.sx_journal.specs.declared.entry.Event.{Event}
use Rattle.sx_journal.specs.declared.entry.Event.TheVariants.{Client, Start, Scan, Fetch, Switch}
use Rattle.sx_journal.specs.declared.entry.Request.{Request}
use Rattle.sx_journal.specs.declared.entry.Reply.{Reply}
use Rattle.sx_journal.specs.declared.entry.Reply.TheVariants as reply
use Rattle.sx_image.specs.Images.{IsDead}
use Rattle.sx_image.specs.declared.image.Kind.{Kind}
use Rattle.sx_model.specs.Logs.{log_of}
use Rattle.sx_model.specs.Leaves.{started}
use Rattle.sx_model.specs.Replies.{client_reply, start_reply}
use Rattle.sx_model.specs.Scans.{side_table}
use Rattle.sx_model.specs.Fetches.{fetch_reply}
use Rattle.sx_model.specs.Switches.{switch_reply}
use Rattle.sx_model.specs.Legal.{ScanAnswer}
use Rattle.sx_model.specs.Schedules.{IsFull}
use Rattle.sx_core.specs.Machines.{Machine, Turns}
use Rattle.sx_core.specs.declared.machine.CoreFault.{CoreFault}
use Rattle.sx_core.specs.declared.machine.CoreFault.TheVariants as fault
use Rattle.sx_core.specs.declared.scan.ScanOut.{ScanOut}
use Rattle.sx_core.specs.declared.scan.FetchOut.{FetchOut}
use Rattle.sx_core.specs.declared.switch.SwitchOut.{SwitchOut}
use Rattle.sx_core.specs.declared.switch.SwitchOut.TheVariants.{Switched, Back}
use Rattle.sx_core.specs.declared.switch.Cause.{Cause}
use Rattle.sx_core.specs.declared.switch.Cause.TheVariants as cause

-- an event without an answer changes nothing; the fault Full says that the journal is full for it
abbrev pub Fails : Machine → Machine → ℕ → Event → CoreFault → Type 0
Fails old new actor event fault.Memory = new ≡ old
Fails old new actor event fault.Full = (new ≡ old) × IsFull old.opening old.past actor event

-- an event is answered as it should be, and adds its entry; or it fails
abbrev pub Answers : (Reply → Type 0) → Machine → Machine → ℕ → Event → Result Reply CoreFault → Type 0
Answers IsRight old new actor event (Ok reply) = IsRight reply × Turns old new actor event reply
Answers IsRight old new actor event (Err fault) = Fails old new actor event fault

-- the same of a client's request
abbrev pub AnswersClient : Machine → Machine → ℕ → Request → Result Reply CoreFault → Type 0
AnswersClient old new actor asked result = Answers (λ reply. reply ≡ client_reply old.opening old.past actor asked) old new actor (Client asked) result

-- of a start
abbrev pub AnswersStart : Machine → Machine → Spec → Strategy → Result Reply CoreFault → Type 0
AnswersStart old new spec strategy result = Answers (λ reply. reply ≡ start_reply old.opening old.past spec) old new 0 (Start spec strategy) result

-- rows as a table has them, with these LSNs
pub record SeesRows (log : List Rec) (table : Option (List ℕ)) (lsns : List ℕ) (seen : List Seen) : Type 0 where
  pub named : lsns ≡ map (λ (s : Seen). s.lsn) seen
  pub there : (name : List ℕ) → table ≡ Some name → AllByRecursion (λ (s : Seen). state_at log name s.key ≡ Some (s.row, s.lsn)) seen

-- the rows that a scan turn hands out are those that its answer names, as the side's source has them; other answers come with none
unfoldable pub AreSeen : Machine → Reply → List Seen → Type 0
AreSeen m (reply.Scanned side lsns last) seen = SeesRows (log_of m.opening m.past) (side_table (started m.past) side) lsns seen
AreSeen m other seen = seen ≡ []

-- a scan turn is answered, with the rows that it saw
pub record Sees (old new : Machine) (n : ℕ) (out : ScanOut) : Type 0 where
  pub right : ScanAnswer old.opening old.past n out.reply
  pub turns : Turns old new 0 (Scan n) out.reply
  pub seen : AreSeen old out.reply out.seen

-- the same, or it fails
abbrev pub AnswersScan : Machine → Machine → ℕ → Result ScanOut CoreFault → Type 0
AnswersScan old new n (Ok out) = Sees old new n out
AnswersScan old new n (Err fault) = Fails old new 0 (Scan n) fault

-- a fetch hands out the records between the places that its answer names; other answers come with none
unfoldable pub AreFetched : Machine → Reply → List Rec → Type 0
AreFetched m (reply.Fetched from to) recs = recs ≡ following (log_of m.opening m.past) from (to - from)
AreFetched m other recs = recs ≡ []

-- a fetch is answered, with the records that it hands out
pub record Fetches (old new : Machine) (n : ℕ) (out : FetchOut) : Type 0 where
  pub right : out.reply ≡ fetch_reply old.opening old.past n
  pub turns : Turns old new 0 (Fetch n) out.reply
  pub recs : AreFetched old out.reply out.recs

-- the same, or it fails
abbrev pub AnswersFetch : Machine → Machine → ℕ → Result FetchOut CoreFault → Type 0
AnswersFetch old new n (Ok out) = Fetches old new n out
AnswersFetch old new n (Err fault) = Fails old new 0 (Fetch n) fault

-- an attempt to switch is answered, and adds its entry
pub record Attempts (old new : Machine) (answer : Reply) : Type 0 where
  pub right : answer ≡ switch_reply old.opening old.past
  pub turns : Turns old new 0 Switch answer

-- an attempt is refused so, and the image is as it came
abbrev pub Refuses : Machine → Machine → (image back : Kind) → Reply → Type 0
Refuses old new image back answer = Attempts old new answer × (back ≡ image)

-- why an image comes back: want of memory and a full journal change nothing but the image, and no turns wear out here
abbrev pub ComesBack : Machine → Machine → (image back : Kind) → Cause → Type 0
ComesBack old new image back cause.Memory = (new ≡ old) × ((back ≡ image) ⊎ IsDead back)
ComesBack old new image back cause.Full = (new ≡ old) × (back ≡ image) × IsFull old.opening old.past 0 Switch
ComesBack old new image back (cause.Worn turns) = ⊥
ComesBack old new image back cause.NoTransform = Refuses old new image back reply.NoTransform
ComesBack old new image back cause.NotScanned = Refuses old new image back reply.NotScanned
ComesBack old new image back (cause.Unread pos end) = Refuses old new image back (reply.Unread pos end)
ComesBack old new image back (cause.Conflict txn) = Refuses old new image back (reply.Conflict txn)
ComesBack old new image back (cause.Violated first second) = Refuses old new image back (reply.Violated first second)

-- an attempt to switch ends with the new tables, or the image comes back
abbrev pub AnswersSwitch : Machine → Machine → Kind → SwitchOut → Type 0
AnswersSwitch old new image (Switched lsn) = Attempts old new (reply.Switched lsn)
AnswersSwitch old new image (Back back cause) = ComesBack old new image back cause
