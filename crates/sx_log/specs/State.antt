-- The rows that a log leaves, key by key. A log is seen newest first.
use Rattle.std.specs.Prelude.{◌+◌, ◌-◌, ◌&&◌, Bool, ℕ, List, [], ◌∷◌, length, drop, Option, Some, None, option_map, if◌then◌else◌}
use Rattle.sx_values.specs.Names.{same_name}
use Rattle.sx_values.specs.Values.{values_eq}
use Rattle.sx_values.specs.declared.value.Value.{Value}
use Rattle.sx_log.specs.declared.record.Rec.{Rec}
use Rattle.sx_log.specs.declared.record.Body.{Body}
use Rattle.sx_log.specs.declared.record.Body.TheVariants.{Write, Undo, Commit, Abort, Mark, Check, Switch}

-- a row and the LSN of its last record
abbrev pub Stored : Type 0
Stored = List Value × ℕ

-- what an image leaves that was written at this place: the row with the place as its LSN, or nothing
abbrev pub stored : ℕ → Option (List Value) → Option Stored
stored lsn None = None
stored lsn (Some row) = Some (row, lsn)

-- whether these are one table and one key
abbrev pub is_place : List ℕ → List Value → List ℕ → List Value → Bool
is_place written at table key = same_name written table && values_eq at key

-- what a key has after a record at this place, from what it had before it
unfoldable pub after_body : ℕ → Body → List ℕ → List Value → Option Stored → Option Stored
after_body lsn (Write written at before after) table key earlier = if is_place written at table key then stored lsn after else earlier
after_body lsn (Undo undoes written at before after) table key earlier = if is_place written at table key then stored lsn after else earlier
after_body lsn Commit table key earlier = earlier
after_body lsn Abort table key earlier = earlier
after_body lsn Mark table key earlier = earlier
after_body lsn (Check group dep) table key earlier = earlier
after_body lsn Switch table key earlier = earlier

-- what a key of a table has in the state that a log leaves
abbrev pub state_at : List Rec → List ℕ → List Value → Option Stored
state_at [] table key = None
state_at (r ∷ past) table key = after_body (length past + 1) r.body table key (state_at past table key)

-- the oldest n records of a log
abbrev pub oldest : ℕ → List Rec → List Rec
oldest n log = drop (length log - n) log

-- what a key of a table has in the state at a place of a log: behind the record there, or behind none at place 0
abbrev pub state_at_place : List Rec → ℕ → List ℕ → List Value → Option Stored
state_at_place log place table key = state_at (oldest place log) table key

-- the same as at the end, without the LSN
abbrev pub row_left : List Rec → List ℕ → List Value → Option (List Value)
row_left log table key = option_map (λ (s : Stored). s.0) (state_at log table key)
