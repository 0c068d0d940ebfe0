-- What clients and the propagator ask of the machine, and in what state it is then.
use Rattle.std.specs.Prelude.{◌≡◌, ◌≤◌, ◌<◌, ◌+◌, ◌⊎◌, false, ℕ, List, length, Some}
use Rattle.sx_txn.specs.declared.answers.Change.{Change}
use Rattle.sx_txn.specs.declared.answers.Change.TheVariants.{Insert, Replace, Delete}
use Rattle.sx_ops.specs.declared.spec.Spec.{Spec}
use Rattle.sx_ops.specs.Checks.{IsShaped}
use Rattle.sx_sync.specs.declared.Phase.{Phase}
use Rattle.sx_sync.specs.declared.Phase.TheVariants.{Chasing, Draining}
use Rattle.sx_sync.specs.declared.Strategy.{Strategy}
use Rattle.sx_sync.specs.declared.Strategy.TheVariants.{Blocking}
use Rattle.sx_journal.specs.declared.entry.Request.{Request}
use Rattle.sx_journal.specs.declared.entry.Request.TheVariants as request
use Rattle.sx_model.specs.Leaves.{living, txn_of}
use Rattle.sx_model.specs.Held.{is_ending}
use Rattle.sx_core.specs.Machines.{Machine}

-- a client asks
pub record Comes (actor : ℕ) : Type 0 where
  pub from_one : 1 ≤ actor
  pub to_eight : actor ≤ 8

-- entries and live transactions number less than 50,000
abbrev pub HasPlace : Machine → Type 0
HasPlace m = length m.past + length (living m.past) < 50000

-- the client is in this transaction, which isn't ending
pub record IsInside (m : Machine) (actor txn : ℕ) : Type 0 where
  pub inside : txn_of m.past actor ≡ Some txn
  pub resting : is_ending m.past txn ≡ false

-- the request that asks for a change of a table
abbrev pub asked_for : List ℕ → Change → Request
asked_for table (Insert row) = request.Insert table row
asked_for table (Replace row) = request.Update table row
asked_for table (Delete key) = request.Delete table key

-- a transformation is to start, and the journal has a place for it; until the other strategies come it is under blocking commit
pub record StartsSo (m : Machine) (spec : Spec) (strategy : Strategy) : Type 0 where
  pub place : HasPlace m
  pub shaped : IsShaped spec
  pub blocking : strategy ≡ Blocking

-- a turn is asked of 1 to so many rows or records, and the journal has a place for it
pub record AsksUpTo (m : Machine) (most n : ℕ) : Type 0 where
  pub place : HasPlace m
  pub some : 1 ≤ n
  pub few : n ≤ most

-- the phases between a scan's end and the switch
abbrev pub IsScanned : Phase → Type 0
IsScanned at = (at ≡ Chasing) ⊎ (at ≡ Draining)
