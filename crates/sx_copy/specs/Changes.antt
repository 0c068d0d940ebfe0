-- What one change makes of a copy.
use Rattle.std.specs.Prelude.{◌≡◌, ◌&&◌, ⊤, Bool, true, ℕ, zero, suc, List, [], ◌∷◌, Option, Some, None, option_map, not, is_some, nat_lt, if◌then◌else◌}
use Rattle.sx_values.specs.Names.{same_name}
use Rattle.sx_values.specs.declared.value.Value.{Value}
use Rattle.sx_log.specs.declared.record.Body.{Body}
use Rattle.sx_log.specs.declared.record.Body.TheVariants.{Write, Undo, Commit, Abort, Mark, Check, Switch}
use Rattle.sx_log.specs.State.{Stored, is_place}
use Rattle.sx_log.specs.Copies.{redo}
use Rattle.sx_ops.specs.declared.spec.Spec.{Spec}
use Rattle.sx_ops.specs.Operators.{sources_of}
use Rattle.sx_copy.specs.CopyLists.{is_at, copy_at}
use Rattle.sx_copy.specs.declared.change.Change.{Change}
use Rattle.sx_copy.specs.declared.list.CopyRow.{CopyRow}
use Rattle.sx_copy.specs.declared.list.Step.{Step}
use Rattle.sx_copy.specs.declared.list.Step.TheVariants.{Keep, Take}

-- a change of this row, with these images
pub record IsChange (c : Change) (of : List ℕ) (at : List Value) (was is : Option (List Value)) : Type 0 where
  pub table : c.table.now ≡ of
  pub key : c.key.now ≡ at
  pub before : c.before.now ≡ was
  pub after : c.after.now ≡ is

-- a record tells this change
unfoldable pub Tells : Body → Change → Type 0
Tells (Write table key before after) c = IsChange c table key before after
Tells (Undo undoes table key before after) c = IsChange c table key before after
Tells Commit c = ⊥
Tells Abort c = ⊥
Tells Mark c = ⊥
Tells (Check group dep) c = ⊥
Tells Switch c = ⊥

-- what a key of a table has in the copy behind a change, if there was one
abbrev pub behind : Option Change → List ℕ → List Value → Option Stored → Option Stored
behind None table key known = known
behind (Some c) table key known = if is_place c.table.now c.key.now table key then redo c.lsn c.before.now c.after.now known else known

-- whether a row under this LSN is taken: where the copy has the key, under a smaller LSN; where it lacks it, as told
abbrev pub takes : ℕ → Bool → Option Stored → Bool
takes lsn where_absent None = where_absent
takes lsn where_absent (Some known) = nat_lt known.1 lsn

-- the same for the key of a change, where a side may have no table
abbrev pub behind_own : Change → Option (List ℕ) → Option Stored → Option Stored
behind_own c None known = known
behind_own c (Some table) known = behind (Some c) table c.key.now known

-- whether a change is taken on a side of this table
abbrev pub is_changed : Change → List ℕ → Option Stored → Bool
is_changed c table known = same_name c.table.now table && takes c.lsn (not (is_some c.before.now)) known

-- what a key has behind a change, on one of several sides, whose tables are given in order
abbrev pub behind_on : Option Change → List (List ℕ) → ℕ → List Value → Option Stored → Option Stored
behind_on change [] side key known = known
behind_on change (table ∷ others) zero key known = behind change table key known
behind_on change (table ∷ others) (suc side) key known = behind_on change others side key known

-- the new copy is the old one behind a change
abbrev pub RedoesChange : Spec → Change → (old new : List CopyRow) → Type 0
RedoesChange spec change old new =
    (side : ℕ) (key : List Value) → copy_at new side key ≡ behind_on (Some change) (sources_of spec) side key (copy_at old side key)

-- these are the tables of one side, or of two
abbrev pub AreSides : List (List ℕ) → List ℕ → Option (List ℕ) → Type 0
AreSides tables first None = tables ≡ first ∷ []
AreSides tables first (Some second) = tables ≡ first ∷ second ∷ []

-- what a row brings to its key
abbrev pub brought : Option CopyRow → Option Stored
brought row = option_map (λ (r : CopyRow). (r.row, r.lsn)) row

-- what a key has behind a step
abbrev pub stepped : Step → Option Stored → Option Stored
stepped Keep known = known
stepped (Take row) known = brought row

-- the row, if any, is that of this key of this side
abbrev pub IsRowAt : ℕ → List Value → Option CopyRow → Type 0
IsRowAt side key None = ⊤
IsRowAt side key (Some r) = is_at side key r ≡ true

-- the same of the row that a step brings
abbrev pub Brings : ℕ → List Value → Step → Type 0
Brings side key Keep = ⊤
Brings side key (Take row) = IsRowAt side key row
