-- What a manager's fields keep of each other.
use Rattle.std.specs.Prelude.{◌≡◌, ◌+◌, ◌<◌, ◌≤◌, ⊤, ℕ, List, [], ◌∷◌, length, map}
use Rattle.std.specs.List.{AllByRecursion}
use Rattle.sx_lists.specs.Places.{Growing}
use Rattle.sx_txn.specs.Homes.{Homed}
use Rattle.sx_log.specs.declared.record.Rec.{Rec}
use Rattle.sx_log.specs.declared.record.Body.{Body}
use Rattle.sx_log.specs.declared.record.Body.TheVariants.{Write, Undo, Commit, Abort, Mark, Check, Switch}
use Rattle.sx_log.specs.Undoing.{writes_left}
use Rattle.sx_locks.specs.Locks.{Locks}
use Rattle.sx_txn.specs.Lives.{Kept, alive_all}
use Rattle.sx_txn.specs.Managed.{Managed, AreOwn, shape_of}

-- what a contract sees of a manager that keeps these
abbrev pub managed : Homed → Growing Rec → Locks → List Kept → ℕ → Managed
managed homes log locks kept begun =
    record { shapes = map shape_of homes.all; tables = homes.all; own = homes.own; log = log.newest; spare = log.spare; locks = locks; living = alive_all kept; begun = begun }

-- a record that ends its transaction
abbrev pub IsEnd : Body → Type 0
IsEnd Commit = ⊤
IsEnd Abort = ⊤
IsEnd (Write table key before after) = ⊥
IsEnd (Undo undoes table key before after) = ⊥
IsEnd Mark = ⊥
IsEnd (Check group dep) = ⊥
IsEnd Switch = ⊥

-- transactions by falling number, from 1 and below a limit
abbrev pub AreBelow : ℕ → List Kept → Type 0
AreBelow limit [] = ⊤
AreBelow limit (k ∷ kept) = (0 < k.txn) × (k.txn < limit) × AreBelow k.txn kept

-- the last begun first; no record is of a later one; each that has ended has a record
pub record AreNumbered (log : List Rec) (kept : List Kept) (begun : ℕ) : Type 0 where
  pub falling : AreBelow (begun + 1) kept
  pub records : AllByRecursion (λ (r : Rec). r.txn ≤ begun) log
  pub few : begun ≤ length log + length kept

-- a transaction keeps the writes that are left to undo
abbrev pub KeepsWrites : List Rec → Kept → Type 0
KeepsWrites log k = k.writes ≡ writes_left k.txn log

-- the declared tables have what the log leaves; the log has room for an end record of each live transaction
pub record IsManaged (homes : Homed) (log : Growing Rec) (kept : List Kept) (begun : ℕ) : Type 0 where
  pub rows : AreOwn homes.own log.newest (map shape_of homes.all) homes.all
  pub room : length kept ≤ log.spare
  pub numbers : AreNumbered log.newest kept begun
  pub writes : AllByRecursion (KeepsWrites log.newest) kept
