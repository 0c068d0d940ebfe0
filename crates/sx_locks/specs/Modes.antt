-- The modes of locks, and the least of the transactions that pass a test.
use Rattle.std.specs.Prelude.{◌≡◌, ◌<◌, ◌==◌, ◌&&◌, Bool, true, false, not, ℕ, List, Option, Some, None}
use Rattle.std.specs.Map.{lookup}
use Rattle.sx_locks.specs.declared.mode.Mode.{Mode}
use Rattle.sx_locks.specs.declared.mode.Mode.TheVariants.{Shared, Exclusive}

-- whether two locks conflict: all do but two shared ones
abbrev pub do_conflict : Mode → Mode → Bool
do_conflict Shared Shared = false
do_conflict Shared Exclusive = true
do_conflict Exclusive asked = true

-- the stronger of what is held, if anything is, and what is asked
abbrev pub stronger : Option Mode → Mode → Mode
stronger None asked = asked
stronger (Some Shared) asked = asked
stronger (Some Exclusive) asked = Exclusive

-- whether what is held, if anything is, conflicts with what is asked
abbrev pub is_against : Option Mode → Mode → Bool
is_against None asked = false
is_against (Some held) asked = do_conflict held asked

-- the mode in which a transaction is among these, if it is
abbrev pub mode_of : List (ℕ × Mode) → ℕ → Option Mode
mode_of holders txn = lookup (λ other. txn == other) holders

-- whether another transaction than this one, by the modes that they hold, stands against what it asks
abbrev pub is_other_against : (ℕ → Option Mode) → ℕ → Mode → ℕ → Bool
is_other_against held txn asked other = not (txn == other) && is_against (held other) asked

-- this transaction stands against what is asked, and no other lesser one does
pub record IsLeastAgainst (held : ℕ → Option Mode) (txn : ℕ) (asked : Mode) (by : ℕ) : Type 0 where
  pub against : is_other_against held txn asked by ≡ true
  pub least : (other : ℕ) → other < by → is_other_against held txn asked other ≡ false

-- the least of the other transactions that stand against what is asked, or None where none does
abbrev pub IsLeastOf : (ℕ → Option Mode) → ℕ → Mode → Option ℕ → Type 0
IsLeastOf held txn asked None = (other : ℕ) → is_other_against held txn asked other ≡ false
IsLeastOf held txn asked (Some by) = IsLeastAgainst held txn asked by
