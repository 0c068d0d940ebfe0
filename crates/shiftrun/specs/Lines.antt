-- Where a machine stands among the lines of a script's clients.
use Rattle.std.specs.Prelude.{◌≡◌, ◌≤◌, ◌<◌, ◌-◌, ◌==◌, ◌++◌, ⊤, Bool, true, false, nat_lt, ℕ, List, [], ◌∷◌, length, map, filter, take, drop, Option, Some, None, is_some, option_map, slice_get, Result, Ok, Err}
use Rattle.sx_image.specs.declared.image.Kind.{Kind}
use Rattle.sx_journal.specs.declared.entry.Entry.{Entry}
use Rattle.sx_journal.specs.declared.entry.Event.TheVariants.{Client}
use Rattle.sx_journal.specs.declared.entry.PropLine.{PropLine}
use Rattle.sx_journal.specs.declared.entry.Request.{Request}
use Rattle.sx_journal.specs.declared.entry.Reply.{Reply}
use Rattle.sx_journal.specs.Courses.{Progress, standing_after, index_of}
use Rattle.sx_model.specs.Leaves.{phase}
use Rattle.sx_model.specs.Schedules.{Plan, Line, Pace, commands_of, standing_of, holds_image, from_event, paces_left, open_line}
use Rattle.sx_core.specs.Machines.{Machine, Turns}
use Rattle.sx_core.specs.Answers.{Fails}
use Rattle.sx_core.specs.declared.machine.CoreFault.{CoreFault}
use Rattle.shiftrun.specs.Holding.{Held}
use Rattle.shiftrun.specs.Runs.{Runs}
use Rattle.shiftrun.specs.declared.lines.OwnLine.{OwnLine}
use Rattle.shiftrun.specs.declared.lines.Pacing.{Pacing}

-- how far a client has come, by its own entries
abbrev pub progress_of : Plan → ℕ → List Entry → Progress
progress_of plan client past = record { commands = commands_of plan client; retries = plan.retries; standing = standing_of plan client past }

-- the clients of the lines, in order
abbrev pub clients_of : Plan → List ℕ
clients_of plan = map (λ (l : Line). l.client) plan.lines

-- how often a client is among these
abbrev pub times : ℕ → List ℕ → ℕ
times client clients = length (filter (λ (n : ℕ). n == client) clients)

-- a line for each of these clients, which come behind the ones before, with its index among its client's lines
abbrev pub own_lines : (before clients : List ℕ) → List OwnLine
own_lines before [] = []
own_lines before (client ∷ clients) = record { client = client; index = times client before } ∷ own_lines (before ++ client ∷ []) clients

-- each client has come past the lines that it has among the first so many
abbrev pub HavePassed : Plan → ℕ → List Entry → Type 0
HavePassed plan done past = (client : ℕ) → times client (take done (clients_of plan)) ≤ index_of (standing_of plan client past)

-- the courses of the clients from 1 to 8
abbrev pub AreCourses : Plan → List Entry → List Progress → Type 0
AreCourses plan past courses = (client : ℕ) → 1 ≤ client → client ≤ 8 → slice_get courses (client - 1) ≡ Some (progress_of plan client past)

-- how far the propagator has come with its lines: those that are left begin with the next, without those that make no event
pub record IsPaced (plan : Plan) (past : List Entry) (pacing : Pacing) : Type 0 where
  pub paces : pacing.paces ≡ plan.paces
  pub asked : pacing.is_asked ≡ is_some plan.change
  pub left : paces_left plan past ≡ from_event plan.change (holds_image (phase past)) (drop pacing.next plan.paces)

-- whether the propagator's line at this place stands before a line of the script, or behind all of them
abbrev pub stands_before : Option ℕ → ℕ → Bool
stands_before None place = true
stands_before (Some line) place = nat_lt place line

-- the propagator's next line isn't to be taken before that line
abbrev pub WaitsFor : Option ℕ → List Pace → Type 0
WaitsFor until [] = ⊤
WaitsFor until (p ∷ paces) = stands_before until p.line ≡ false

-- of these lines the first is taken, which stands before a line of the script; or it waits for that line
abbrev pub TakesNext : Option ℕ → (left after : List Pace) → Option PropLine → Type 0
TakesNext until left after (Some what) = (place : ℕ) × (left ≡ record { line = place; what = what } ∷ after) × (stands_before until place ≡ true)
TakesNext until left after None = (after ≡ left) × WaitsFor until left

-- the place of the first line that isn't worked through
abbrev pub open_place : Plan → List Entry → Option ℕ
open_place plan past = option_map (λ (l : Line). l.command.line) (open_line plan past)

-- a machine and the clients' courses, behind so many lines
pub record StandsAt (plan : Plan) (done : ℕ) (machine : Machine) (courses : List Progress) : Type 0 where
  pub runs : Runs plan machine
  pub passed : HavePassed plan done machine.past
  pub are_courses : AreCourses plan machine.past courses

-- a line whose turn has come: every client's line before it is passed
pub record IsDue (plan : Plan) (machine : Machine) (course : Progress) (line : OwnLine) : Type 0 where
  pub runs : Runs plan machine
  pub is_course : course ≡ progress_of plan line.client machine.past
  pub done : ℕ
  pub here : slice_get (clients_of plan) done ≡ Some line.client
  pub index : line.index ≡ times line.client (take done (clients_of plan))
  pub passed : HavePassed plan done machine.past

-- the same, and the propagator waits for it
pub record IsAhead (plan : Plan) (machine : Machine) (course : Progress) (line : OwnLine) : Type 0 where
  pub due : IsDue plan machine course line
  pub waits : (asked : Line) → slice_get plan.lines due.done ≡ Some asked → WaitsFor (Some asked.command.line) (paces_left plan machine.past)

-- between two moments no client has gone back, and all but one stand where they stood
pub record GoesOn (plan : Plan) (client : ℕ) (before after : List Entry) : Type 0 where
  pub forward : (other : ℕ) → index_of (standing_of plan other before) ≤ index_of (standing_of plan other after)
  pub others : (other : ℕ) → 1 ≤ other → (other == client) ≡ false → standing_of plan other after ≡ standing_of plan other before

-- between two moments the propagator has made no event
pub record PropagatorRests (plan : Plan) (before after : List Entry) : Type 0 where
  pub left : paces_left plan after ≡ paces_left plan before
  pub phase_is : phase after ≡ phase before

-- a line whose client has come past it, from this moment on
pub record IsPassed (plan : Plan) (before : List Entry) (machine : Machine) (course : Progress) (line : OwnLine) : Type 0 where
  pub runs : Runs plan machine
  pub is_course : course ≡ progress_of plan line.client machine.past
  pub passed : line.index < index_of course.standing
  pub goes_on : GoesOn plan line.client before machine.past

-- from this moment on the propagator has made events of its lines, and no client has gone on
pub record IsLed (plan : Plan) (before : List Entry) (machine : Machine) (image : Option Kind) (pacing : Pacing) : Type 0 where
  pub runs : Runs plan machine
  pub held : Held machine image
  pub paced : IsPaced plan machine.past pacing
  pub goes_on : GoesOn plan 0 before machine.past
  pub same_line : open_line plan machine.past ≡ open_line plan before

-- a line that is passed, with the image and the propagator's lines at that moment
pub record IsWorked (plan : Plan) (before : List Entry) (machine : Machine) (image : Option Kind) (pacing : Pacing) (course : Progress) (line : OwnLine) : Type 0 where
  pub passed : IsPassed plan before machine course line
  pub held : Held machine image
  pub paced : IsPaced plan machine.past pacing

-- a client's request was answered, and its course goes on by the answer
pub record IsNoted (old new : Machine) (before after : Progress) (client : ℕ) (asked : Request) : Type 0 where
  pub reply : Reply
  pub turn : Turns old new client (Client asked) reply
  pub course : after ≡ record { commands = before.commands; retries = before.retries; standing = standing_after before.commands before.retries before.standing reply }

-- or it failed, and changed nothing in the machine
abbrev pub Asks : (old new : Machine) → (before after : Progress) → ℕ → Request → Result Unit CoreFault → Type 0
Asks old new before after client asked (Ok done) = IsNoted old new before after client asked
Asks old new before after client asked (Err fault) = Fails old new client (Client asked) fault
