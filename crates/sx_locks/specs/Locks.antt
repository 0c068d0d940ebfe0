-- The locks that transactions hold on the keys of tables.
use Rattle.std.specs.Prelude.{◌≡◌, ◌==◌, ◌&&◌, ℕ, List, [], Option, Some, None, unwrap_or, IsSome, if◌then◌else◌}
use Rattle.std.specs.Map.{lookup}
use Rattle.sx_values.specs.declared.value.Value.{Value}
use Rattle.sx_values.specs.Values.{values_eq}
use Rattle.sx_values.specs.Names.{same_name}
use Rattle.sx_locks.specs.declared.mode.Mode.{Mode}
use Rattle.sx_locks.specs.declared.mode.Asked.{Asked}
use Rattle.sx_locks.specs.declared.mode.Asked.TheVariants.{Granted, Held}
use Rattle.sx_locks.specs.Modes.{mode_of, stronger, IsLeastOf}

-- the holders of the keys of one table: transactions with their modes
abbrev pub KeyHolders : Type 0
KeyHolders = List (List Value × List (ℕ × Mode))

-- the holders of the keys of each table
abbrev pub Locks : Type 0
Locks = List (List ℕ × KeyHolders)

-- the holders of a key
abbrev pub holders_at : KeyHolders → List Value → List (ℕ × Mode)
holders_at keys key = unwrap_or (lookup (values_eq key) keys) []

-- the mode in which a transaction holds a key of a table that has these holders, if it does
abbrev pub mode_at : KeyHolders → ℕ → List Value → Option Mode
mode_at keys txn key = mode_of (holders_at keys key) txn

-- the transaction has now this at the key, a mode or nothing; all else stays
abbrev pub SetsLockAt : KeyHolders → KeyHolders → ℕ → List Value → Option Mode → Type 0
SetsLockAt old new txn key image = (other : ℕ) (place : List Value) → mode_at new other place ≡ (if txn == other && values_eq key place then image else mode_at old other place)

-- the holders of the keys of a table
abbrev pub keys_at : Locks → List ℕ → KeyHolders
keys_at locks table = unwrap_or (lookup (same_name table) locks) []

-- the mode in which a transaction holds a key of a table, if it does
abbrev pub mode_held : Locks → ℕ → List ℕ → List Value → Option Mode
mode_held locks txn table key = mode_at (keys_at locks table) txn key

-- each transaction holds each key of each table as before
abbrev pub SameLocks : Locks → Locks → Type 0
SameLocks old new = (txn : ℕ) (table : List ℕ) (key : List Value) → mode_held new txn table key ≡ mode_held old txn table key

-- the transaction has now this at the key of the table, a mode or nothing; all else stays
abbrev pub SetsLock : Locks → Locks → ℕ → List ℕ → List Value → Option Mode → Type 0
SetsLock old new txn table key image = (other : ℕ) (name : List ℕ) (place : List Value)
    → mode_held new other name place ≡ (if txn == other && (same_name table name && values_eq key place) then image else mode_held old other name place)

-- the transaction holds now the key of the table in the stronger of its old mode and this one; all else stays
abbrev pub LockedSo : Locks → Locks → ℕ → List ℕ → List Value → Mode → Type 0
LockedSo old new txn table key mode = SetsLock old new txn table key (Some (stronger (mode_held old txn table key) mode))

-- the transaction holds nothing now; all else stays
abbrev pub Freed : Locks → Locks → ℕ → Type 0
Freed old new txn = (other : ℕ) (table : List ℕ) (key : List Value)
    → mode_held new other table key ≡ (if txn == other then None else mode_held old other table key)

-- the least other transaction that holds a conflicting lock on the key of the table, or None where none does
abbrev pub IsLeastOther : Locks → ℕ → List ℕ → List Value → Mode → Option ℕ → Type 0
IsLeastOther locks txn table key mode answer = IsLeastOf (λ other. mode_held locks other table key) txn mode answer

-- no other transaction's lock conflicted, and the transaction has now the lock
pub record Grants (old new : Locks) (txn : ℕ) (table : List ℕ) (key : List Value) (mode : Mode) : Type 0 where
  pub free : IsLeastOther old txn table key mode None
  pub locked : LockedSo old new txn table key mode

-- another transaction's lock conflicts, the least such is named, and no lock has changed
pub record Refuses (old new : Locks) (txn : ℕ) (table : List ℕ) (key : List Value) (mode : Mode) (by : ℕ) : Type 0 where
  pub least : IsLeastOther old txn table key mode (Some by)
  pub same : SameLocks old new

-- what the answer to a transaction's asking says
abbrev pub AnswersAsk : Locks → Locks → ℕ → List ℕ → List Value → Mode → Asked → Type 0
AnswersAsk old new txn table key mode Granted = Grants old new txn table key mode
AnswersAsk old new txn table key mode (Held by) = Refuses old new txn table key mode by

-- the transaction holds some key of the table
abbrev pub HoldsOn : Locks → ℕ → List ℕ → Type 0
HoldsOn locks txn table = (key : List Value) × IsSome (mode_held locks txn table key)
