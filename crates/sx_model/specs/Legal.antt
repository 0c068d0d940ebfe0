-- Which journals are legal: each entry is allowed by the entries before it.
use Rattle.std.specs.Prelude.{◌≡◌, ◌≤◌, ◌<◌, ◌+◌, ◌⊎◌, ⊤, Bool, true, false, IsTrue, ℕ, List, [], ◌∷◌, length}
use Rattle.sx_ops.specs.declared.spec.Spec.{Spec}
use Rattle.sx_ops.specs.Checks.{IsShaped}
use Rattle.sx_sync.specs.declared.Strategy.{Strategy}
use Rattle.sx_sync.specs.declared.Strategy.TheVariants.{Blocking}
use Rattle.sx_sync.specs.declared.Phase.TheVariants.{Idle, Chasing, Draining, Late, Done}
use Rattle.sx_journal.specs.declared.entry.Entry.{Entry}
use Rattle.sx_journal.specs.declared.entry.Event.{Event}
use Rattle.sx_journal.specs.declared.entry.Event.TheVariants as event
use Rattle.sx_journal.specs.declared.entry.Request.{Request}
use Rattle.sx_journal.specs.declared.entry.Reply.{Reply}
use Rattle.sx_journal.specs.declared.entry.Reply.TheVariants as reply
use Rattle.sx_model.specs.Openings.{Opening}
use Rattle.sx_model.specs.Leaves.{living, phase}
use Rattle.sx_model.specs.Replies.{client_reply, start_reply}
use Rattle.sx_model.specs.Scans.{IsScanTurn}
use Rattle.sx_model.specs.Fetches.{fetch_reply}
use Rattle.sx_model.specs.Switches.{switch_reply}

-- a client's request and its answer
pub record AllowsClient (o : Opening) (past : List Entry) (actor : ℕ) (asked : Request) (answer : Reply) : Type 0 where
  pub from_one : 1 ≤ actor
  pub to_eight : actor ≤ 8
  pub answered : answer ≡ client_reply o past actor asked

-- a start and its answer; until the other strategies and operators come, it is a horizontal split under blocking commit
pub record AllowsStart (o : Opening) (past : List Entry) (actor : ℕ) (spec : Spec) (strategy : Strategy) (answer : Reply) : Type 0 where
  pub propagator : actor ≡ 0
  pub shaped : IsShaped spec
  pub blocking : strategy ≡ Blocking
  pub answered : answer ≡ start_reply o past spec

-- the answers to a scan turn of at most n rows
unfoldable pub ScanAnswer : Opening → List Entry → ℕ → Reply → Type 0
ScanAnswer o past n (reply.Scanned side lsns last) = IsScanTurn o past n side lsns last
ScanAnswer o past n reply.NoTransform = (phase past ≡ Idle) ⊎ (phase past ≡ Late) ⊎ (phase past ≡ Done)
ScanAnswer o past n reply.ScanOver = (phase past ≡ Chasing) ⊎ (phase past ≡ Draining)
ScanAnswer o past n other = ⊥

-- a scan turn is the propagator's, of 1 to 64 rows, and its answer is one that the walk allows
pub record AllowsScan (o : Opening) (past : List Entry) (actor n : ℕ) (answer : Reply) : Type 0 where
  pub propagator : actor ≡ 0
  pub some : 1 ≤ n
  pub few : n ≤ 64
  pub answered : ScanAnswer o past n answer

-- a fetch is the propagator's, of 1 to 256 records, and its answer is the one that the definition gives
pub record AllowsFetch (o : Opening) (past : List Entry) (actor n : ℕ) (answer : Reply) : Type 0 where
  pub propagator : actor ≡ 0
  pub some : 1 ≤ n
  pub few : n ≤ 256
  pub answered : answer ≡ fetch_reply o past n

-- an attempt to switch is the propagator's, and its answer is the one that the definition gives
pub record AllowsSwitch (o : Opening) (past : List Entry) (actor : ℕ) (answer : Reply) : Type 0 where
  pub propagator : actor ≡ 0
  pub answered : answer ≡ switch_reply o past

-- an event and its answer are allowed behind these entries; a check and a cancel come with the vertical split
unfoldable pub Allows : Opening → List Entry → ℕ → Event → Reply → Type 0
Allows o past actor (event.Client asked) answer = AllowsClient o past actor asked answer
Allows o past actor (event.Start spec strategy) answer = AllowsStart o past actor spec strategy answer
Allows o past actor (event.Scan n) answer = AllowsScan o past actor n answer
Allows o past actor event.Switch answer = AllowsSwitch o past actor answer
Allows o past actor (event.Fetch n) answer = AllowsFetch o past actor n answer
Allows o past actor (event.Check group) answer = ⊥
Allows o past actor event.Cancel answer = ⊥

-- whether an answer says that a transaction was committed
unfoldable pub is_committed : Reply → Bool
is_committed (reply.Committed lsn) = true
is_committed other = false

-- entries and live transactions number less than 50,000, unless the answer is Committed
abbrev pub HasRoom : List Entry → Reply → Type 0
HasRoom past answer = (length past + length (living past) < 50000) ⊎ IsTrue (is_committed answer)

-- an entry that is allowed behind these
pub record IsLegalEntry (o : Opening) (past : List Entry) (e : Entry) : Type 0 where
  pub room : HasRoom past e.reply
  pub allowed : Allows o past e.actor e.event e.reply

-- a journal each of whose entries is allowed by those before it
abbrev pub Legal : Opening → List Entry → Type 0
Legal o [] = ⊤
Legal o (e ∷ past) = Legal o past × IsLegalEntry o past e
