-- How far a machine has come with a script.
use Rattle.std.specs.Prelude.{◌≡◌, ⊤, ℕ, [], Option, Some, None, Result, Ok, Err}
use Rattle.sx_ops.specs.declared.spec.Spec.{Spec}
use Rattle.sx_model.specs.Leaves.{living}
use Rattle.sx_model.specs.Legal.{Legal}
use Rattle.sx_model.specs.Schedules.{Plan, opening_of, open_line, paces_left, Stepped, IsComplete, IsStopped}
use Rattle.sx_journal.specs.declared.entry.Event.{Event}
use Rattle.sx_journal.specs.declared.entry.Reply.{Reply}
use Rattle.sx_core.specs.Machines.{Machine, Turns}
use Rattle.sx_core.specs.Answers.{Fails}
use Rattle.sx_core.specs.declared.machine.CoreFault.{CoreFault}
use Rattle.sx_core.specs.declared.machine.CoreFault.TheVariants.{Memory, Full}
use Rattle.shiftrun.specs.declared.end.End.{End}
use Rattle.shiftrun.specs.declared.end.End.TheVariants.{NoChange, Switched}

-- a machine whose journal is legal, from the script's opening, and has the script's turns so far
pub record Runs (plan : Plan) (machine : Machine) : Type 0 where
  pub opening : machine.opening ≡ opening_of plan
  pub legal : Legal machine.opening machine.past
  pub stepped : Stepped plan machine.past

-- a machine that has worked through all lines, the clients' and the propagator's
pub record HasRunLines (plan : Plan) (machine : Machine) : Type 0 where
  pub runs : Runs plan machine
  pub worked : open_line plan machine.past ≡ None
  pub passed : paces_left plan machine.past ≡ []

-- a machine that has besides rolled back every transaction that lived
pub record HasRolledBack (plan : Plan) (machine : Machine) : Type 0 where
  pub lines : HasRunLines plan machine
  pub rest : living machine.past ≡ []

-- a machine that has run a script to its end, where nobody lives
pub record HasRun (plan : Plan) (machine : Machine) : Type 0 where
  pub runs : Runs plan machine
  pub rest : living machine.past ≡ []
  pub complete : IsComplete plan machine.past

-- a machine whose journal is full before the script's end
pub record HasStopped (plan : Plan) (machine : Machine) : Type 0 where
  pub runs : Runs plan machine
  pub stopped : IsStopped plan machine.past

-- a turn of the machine, whatever its answer
pub record Takes (old new : Machine) (actor : ℕ) (event : Event) : Type 0 where
  pub reply : Reply
  pub turn : Turns old new actor event reply

-- an event was taken from the machine, or it failed and changed nothing
abbrev pub IsTaken : (old new : Machine) → ℕ → Event → Result Unit CoreFault → Type 0
IsTaken old new actor event (Ok done) = Takes old new actor event
IsTaken old new actor event (Err fault) = Fails old new actor event fault

-- how a run ends, by whether the script asks for a transformation
abbrev pub end_of : Option Spec → End
end_of None = NoChange
end_of (Some spec) = Switched

-- what a part of a run leaves: what it is to come to, or a full journal; of the machine nothing is said where memory ran out
abbrev pub ComesTo : {A : Type 0} → (A → Type 0) → Plan → Machine → Result A CoreFault → Type 0
ComesTo Reached plan machine (Ok done) = Reached done
ComesTo Reached plan machine (Err Memory) = ⊤
ComesTo Reached plan machine (Err Full) = HasStopped plan machine

-- a script was run to its end, which is this one
pub record IsEnd (plan : Plan) (machine : Machine) (end : End) : Type 0 where
  pub run : HasRun plan machine
  pub ends : end ≡ end_of plan.change
