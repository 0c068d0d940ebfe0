-- What comes of a transaction's asking for a lock, inside the table of locks.
use Rattle.std.specs.Prelude.{◌≡◌, ◌==◌, ℕ, List, Some, None, if◌then◌else◌}
use Rattle.sx_values.specs.declared.value.Value.{Value}
use Rattle.sx_locks.specs.declared.mode.Mode.{Mode}
use Rattle.sx_locks.specs.declared.mode.Taken.{Taken}
use Rattle.sx_locks.specs.declared.mode.Taken.TheVariants.{Hindered, Locked}
use Rattle.sx_locks.specs.Modes.{mode_of, stronger, IsLeastOf}
use Rattle.sx_locks.specs.Locks.{KeyHolders, Locks, mode_at, mode_held, SetsLockAt, LockedSo, IsLeastOther}

-- among the holders of one key: another hinders it and all stays, or it holds the stronger of what it held and what it asks
abbrev pub TakesAmong : List (ℕ × Mode) → List (ℕ × Mode) → ℕ → Mode → Taken → Type 0
TakesAmong old new txn mode (Hindered by) = IsLeastOf (mode_of old) txn mode (Some by) × (new ≡ old)
TakesAmong old new txn mode (Locked held) = IsLeastOf (mode_of old) txn mode None × (held ≡ mode_of old txn) × ((other : ℕ) → mode_of new other ≡ (if txn == other then Some (stronger (mode_of old txn) mode) else mode_of old other))

-- the same at a key of one table
abbrev pub TakesAt : KeyHolders → KeyHolders → ℕ → List Value → Mode → Taken → Type 0
TakesAt old new txn key mode (Hindered by) = IsLeastOf (λ other. mode_at old other key) txn mode (Some by) × (new ≡ old)
TakesAt old new txn key mode (Locked held) = IsLeastOf (λ other. mode_at old other key) txn mode None × (held ≡ mode_at old txn key) × SetsLockAt old new txn key (Some (stronger (mode_at old txn key) mode))

-- the same at a key of a table
abbrev pub Takes : Locks → Locks → ℕ → List ℕ → List Value → Mode → Taken → Type 0
Takes old new txn table key mode (Hindered by) = IsLeastOther old txn table key mode (Some by) × (new ≡ old)
Takes old new txn table key mode (Locked held) = IsLeastOther old txn table key mode None × (held ≡ mode_held old txn table key) × LockedSo old new txn table key mode
