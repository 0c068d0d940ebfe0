-- What a script asks of a journal.
use Rattle.std.specs.Prelude.{◌≡◌, ◌≤◌, ◌+◌, ◌-◌, ◌==◌, ⊤, Bool, true, false, is_some, nat_lt, ℕ, List, [], ◌∷◌, length, filter, map, Option, Some, None, option_map, MatchOption, if◌then◌else◌}
use Rattle.sx_values.specs.declared.catalog.Declared.{Declared}
use Rattle.sx_log.specs.declared.record.Load.{Load}
use Rattle.sx_ops.specs.declared.spec.Spec.{Spec}
use Rattle.sx_sync.specs.declared.Strategy.{Strategy}
use Rattle.sx_sync.specs.declared.Phase.{Phase}
use Rattle.sx_sync.specs.declared.Phase.TheVariants.{Idle, Scanning, Chasing, Draining, Late, Done}
use Rattle.sx_journal.specs.declared.entry.Entry.{Entry}
use Rattle.sx_journal.specs.declared.entry.Event.{Event}
use Rattle.sx_journal.specs.declared.entry.Event.TheVariants.{Client, Start, Scan, Fetch, Switch}
use Rattle.sx_journal.specs.declared.entry.PropLine.{PropLine}
use Rattle.sx_journal.specs.declared.entry.PropLine.TheVariants as prop
use Rattle.sx_journal.specs.declared.entry.Request.{Request}
use Rattle.sx_journal.specs.declared.entry.Request.TheVariants.{Undo}
use Rattle.sx_journal.specs.declared.course.Command.{Command}
use Rattle.sx_journal.specs.declared.course.Standing.{Standing}
use Rattle.sx_journal.specs.Courses.{standing_by, next_at, index_of}
use Rattle.sx_model.specs.Openings.{Opening, opening}
use Rattle.sx_model.specs.Leaves.{Living, living, txn_of, phase}
use Rattle.sx_model.specs.Logs.{log_of}
use Rattle.sx_model.specs.Switches.{position}
use Rattle.sx_sync.specs.Ready.{least}
use Rattle.sx_model.specs.Replies.{client_reply}
use Rattle.sx_model.specs.Legal.{is_committed}

-- a client's line
pub record Line : Type 0 where
  pub client : ℕ
  pub command : Command

-- a line of the propagator, at its place in the script
pub record Pace : Type 0 where
  pub line : ℕ
  pub what : PropLine

-- the plain parts of a script
pub record Plan : Type 0 where
  pub catalog : List Declared
  pub loads : List Load
  pub lines : List Line
  pub paces : List Pace
  pub change : Option Spec
  pub strategy : Strategy
  pub retries : ℕ

-- the opening that a script gives
abbrev pub opening_of : Plan → Opening
opening_of plan = opening plan.catalog plan.loads

-- the entries of a client
abbrev pub own : ℕ → List Entry → List Entry
own client past = filter (λ (e : Entry). e.actor == client) past

-- the lines of a client, in order
abbrev pub commands_of : Plan → ℕ → List Command
commands_of plan client = map (λ (l : Line). l.command) (filter (λ (l : Line). l.client == client) plan.lines)

-- where a client stands, by its own entries
abbrev pub standing_of : Plan → ℕ → List Entry → Standing
standing_of plan client past = standing_by (commands_of plan client) plan.retries (own client past)

-- the request by which a client goes on with its lines, or None where they are worked through
abbrev pub next_of_lines : Plan → ℕ → List Entry → Option Request
next_of_lines plan client past = next_at (commands_of plan client) (standing_of plan client past)

-- what comes behind the lines: an Undo, as long as a transaction lives
abbrev pub or_undo : Option Request → Option ℕ → Option Request
or_undo (Some asked) txn = Some asked
or_undo None (Some txn) = Some Undo
or_undo None None = None

-- the client's next request: its lines in order, with what is repeated, given up and passed over, and then Undo until no transaction lives
abbrev pub next_request : Plan → ℕ → List Entry → Option Request
next_request plan client past = or_undo (next_of_lines plan client past) (txn_of past client)

-- an event that the script asks of this actor
unfoldable pub KeepsEvent : Plan → List Entry → ℕ → Event → Type 0
KeepsEvent plan past actor (Client asked) = next_request plan actor past ≡ Some asked
KeepsEvent plan past actor (Start spec strategy) = (plan.change ≡ Some spec) × (strategy ≡ plan.strategy)
KeepsEvent plan past actor other = ⊤

-- each client's entries are its next requests, one after another, and each start names the script's transformation and strategy
abbrev pub KeepsScript : Plan → List Entry → Type 0
KeepsScript plan [] = ⊤
KeepsScript plan (e ∷ past) = KeepsScript plan past × KeepsEvent plan past e.actor e.event

-- the phases behind a switch
abbrev pub IsSwitched : Phase → Type 0
IsSwitched Late = ⊤
IsSwitched Done = ⊤
IsSwitched Idle = ⊥
IsSwitched Scanning = ⊥
IsSwitched Chasing = ⊥
IsSwitched Draining = ⊥

-- the lines of every client are worked through and, where there is a transformation, it is switched
pub record IsComplete (plan : Plan) (past : List Entry) : Type 0 where
  pub keeps : KeepsScript plan past
  pub ended : (client : ℕ) → next_request plan client past ≡ None
  pub switched : MatchOption plan.change ⊤ (λ _. IsSwitched (phase past))

-- while the propagator holds an image
abbrev pub holds_image : Phase → Bool
holds_image Idle = false
holds_image Scanning = true
holds_image Chasing = true
holds_image Draining = true
holds_image Late = false
holds_image Done = false

-- whether a line of the propagator makes an event: a start does where there is a transformation, the others while an image is held, and a check none, since no group is flagged
abbrev pub makes_event : Option Spec → Bool → PropLine → Bool
makes_event change holds prop.Start = is_some change
makes_event change holds prop.Check = false
makes_event change holds prop.Switch = holds
makes_event change holds (prop.Scan n) = holds
makes_event change holds (prop.Fetch n) = holds

-- these lines without the first ones that are passed over
abbrev pub from_event : Option Spec → Bool → List Pace → List Pace
from_event change holds [] = []
from_event change holds (p ∷ paces) = if makes_event change holds p.what then p ∷ paces else from_event change holds paces

-- these without the first
abbrev pub behind_first : List Pace → List Pace
behind_first [] = []
behind_first (p ∷ paces) = paces

-- the lines of the propagator that are left, of which the first makes an event: each entry of its own comes past one
abbrev pub paces_left : Plan → List Entry → List Pace
paces_left plan [] = from_event plan.change false plan.paces
paces_left plan (e ∷ past) =
    if e.actor == 0 then from_event plan.change (holds_image (phase (e ∷ past))) (behind_first (paces_left plan past))
    else paces_left plan past

-- the event of a line of the propagator
abbrev pub pace_event : Option Spec → Strategy → PropLine → Option Event
pace_event change strategy prop.Start = option_map (λ spec. Start spec strategy) change
pace_event change strategy prop.Check = None
pace_event change strategy prop.Switch = Some Switch
pace_event change strategy (prop.Scan n) = Some (Scan n)
pace_event change strategy (prop.Fetch n) = Some (Fetch n)

-- what the propagator does at the end, by how far the transformation has come, and whether records are left to read
abbrev pub propagator_event : Option Spec → Strategy → Phase → Bool → Option Event
propagator_event None strategy phase behind = None
propagator_event (Some spec) strategy Idle behind = Some (Start spec strategy)
propagator_event (Some spec) strategy Scanning behind = Some (Scan 64)
propagator_event (Some spec) strategy Chasing behind = Some (if behind then Fetch 256 else Switch)
propagator_event (Some spec) strategy Draining behind = Some (if behind then Fetch 256 else Switch)
propagator_event (Some spec) strategy Late behind = None
propagator_event (Some spec) strategy Done behind = None

-- whether the log is longer than the propagator has read it
abbrev pub is_behind : Plan → List Entry → Bool
is_behind plan past = nat_lt (position (opening_of plan) past) (length (log_of (opening_of plan) past))

-- an event and who makes it
pub record Turn : Type 0 where
  pub actor : ℕ
  pub event : Event

-- the turn of a client's request
abbrev pub client_turn : ℕ → Request → Turn
client_turn client asked = record { actor = client; event = Client asked }

-- the turn of an event of the propagator
abbrev pub propagator_turn : Event → Turn
propagator_turn event = record { actor = 0; event = event }

-- the same numbers of lines, one less for a client
abbrev pub one_less : ℕ → (ℕ → ℕ) → ℕ → ℕ
one_less client passed other = if other == client then passed other - 1 else passed other

-- the first of these lines behind those that their clients have come past, so many for each
abbrev pub first_open : List Line → (ℕ → ℕ) → Option Line
first_open [] passed = None
first_open (l ∷ lines) passed = if passed l.client == 0 then Some l else first_open lines (one_less l.client passed)

-- the first line, in script order, that isn't worked through
abbrev pub open_line : Plan → List Entry → Option Line
open_line plan past = first_open plan.lines (λ client. index_of (standing_of plan client past))

-- the least client with a live transaction
abbrev pub least_living : List Entry → Option ℕ
least_living past = least (map (λ (l : Living). l.client) (living past))

-- the turn of a line of the propagator
abbrev pub pace_turn : Plan → Pace → Option Turn
pace_turn plan p = option_map propagator_turn (pace_event plan.change plan.strategy p.what)

-- the turn of an open line's client
abbrev pub line_turn : Plan → List Entry → Line → Option Turn
line_turn plan past l = option_map (client_turn l.client) (next_of_lines plan l.client past)

-- the turn of the first open line; or else of the least client that has yet to undo; or else the propagator's
abbrev pub turn_at : Plan → List Entry → Option Line → List Pace → Option ℕ → Option Turn
turn_at plan past (Some l) [] client = line_turn plan past l
turn_at plan past (Some l) (p ∷ paces) client = if nat_lt p.line l.command.line then pace_turn plan p else line_turn plan past l
turn_at plan past None (p ∷ paces) client = pace_turn plan p
turn_at plan past None [] (Some client) = Some (client_turn client Undo)
turn_at plan past None [] None = option_map propagator_turn (propagator_event plan.change plan.strategy (phase past) (is_behind plan past))

-- the next turn of one thread: the lines in script order, each worked through to its end, then the rollbacks, and then start, scan turns of 64, fetches of 256 and the switch
abbrev pub next_turn : Plan → List Entry → Option Turn
next_turn plan past = turn_at plan past (open_line plan past) (paces_left plan past) (least_living past)

-- each event is the next turn of one thread
abbrev pub Stepped : Plan → List Entry → Type 0
Stepped plan [] = ⊤
Stepped plan (e ∷ past) = Stepped plan past × (next_turn plan past ≡ Some (record { actor = e.actor; event = e.event }))

-- whether a turn would be answered Committed
unfoldable pub commits_now : Opening → List Entry → ℕ → Event → Bool
commits_now o past actor (Client asked) = is_committed (client_reply o past actor asked)
commits_now o past actor other = false

-- no further turn fits into the journal: entries and live transactions number 50,000 or more, and the turn isn't a Commit that would be answered Committed
pub record IsFull (o : Opening) (past : List Entry) (actor : ℕ) (event : Event) : Type 0 where
  pub many : 50000 ≤ length past + length (living past)
  pub uncommitted : commits_now o past actor event ≡ false

-- one thread can't go on: there is a next turn, and it doesn't fit into the journal
pub record IsStopped (plan : Plan) (past : List Entry) : Type 0 where
  pub due : Turn
  pub next : next_turn plan past ≡ Some due
  pub full : IsFull (opening_of plan) past due.actor due.event
