-- The copy of a transformation's sources as one list.
use Rattle.std.specs.Prelude.{◌≡◌, ◌≤◌, ◌&&◌, ◌==◌, Bool, ℕ, List, [], ◌∷◌, length, take, Option, Some, None, if◌then◌else◌}
use Rattle.sx_values.specs.declared.value.Value.{Value}
use Rattle.sx_values.specs.Values.{values_eq}
use Rattle.sx_log.specs.declared.record.Rec.{Rec}
use Rattle.sx_log.specs.State.{Stored}
use Rattle.sx_log.specs.Copies.{copied_on}
use Rattle.sx_heap.specs.declared.seen.Seen.{Seen}
use Rattle.sx_ops.specs.declared.spec.Spec.{Spec}
use Rattle.sx_ops.specs.Operators.{sources_of}
use Rattle.sx_copy.specs.Readings.{merged}
use Rattle.sx_copy.specs.declared.list.CopyRow.{CopyRow}

-- whether a row of the copy is that of this key of this side
abbrev pub is_at : ℕ → List Value → CopyRow → Bool
is_at side key r = (r.side == side) && values_eq r.key key

-- what the copy has for a key of a side: the row and the LSN under which it was learnt
abbrev pub copy_at : List CopyRow → ℕ → List Value → Option Stored
copy_at [] side key = None
copy_at (r ∷ rows) side key = if is_at side key r then Some (r.row, r.lsn) else copy_at rows side key

-- the new copy has this for the key of this side, and what the old one had elsewhere
abbrev pub SetsKey : ℕ → List Value → Option Stored → (old new : List CopyRow) → Type 0
SetsKey side key image old new =
    (other : ℕ) (at : List Value) → copy_at new other at ≡ (if (side == other) && values_eq key at then image else copy_at old other at)

-- the new copy has merged these readings of a side into the old one
abbrev pub Merges : ℕ → List Seen → (old new : List CopyRow) → Type 0
Merges side seen old new =
    (other : ℕ) (key : List Value) → copy_at new other key ≡ (if side == other then merged seen key (copy_at old other key) else copy_at old other key)

-- the new copy has merged the readings before some place
pub record MergesSome (side : ℕ) (seen : List Seen) (old new : List CopyRow) : Type 0 where
  pub place : ℕ
  pub within : place ≤ length seen
  pub merges : Merges side (take place seen) old new

-- the new copy is the old one behind the record of this LSN
abbrev pub Redoes : Spec → ℕ → Rec → (old new : List CopyRow) → Type 0
Redoes spec lsn rec old new =
    (side : ℕ) (key : List Value) → copy_at new side key ≡ copied_on (sources_of spec) side lsn rec.body key (copy_at old side key)
