-- The steps by which a copy of a table learns its rows, key by key. A log is seen newest first.
use Rattle.std.specs.Prelude.{◌+◌, ℕ, zero, suc, List, [], ◌∷◌, length, nat_lt, Option, Some, None, if◌then◌else◌}
use Rattle.sx_values.specs.declared.value.Value.{Value}
use Rattle.sx_log.specs.declared.record.Rec.{Rec}
use Rattle.sx_log.specs.declared.record.Body.{Body}
use Rattle.sx_log.specs.declared.record.Body.TheVariants.{Write, Undo, Commit, Abort, Mark, Check, Switch}
use Rattle.sx_log.specs.State.{Stored, stored, is_place}

-- a reading is taken where the key isn't there or has a smaller LSN
abbrev pub after_reading : Stored → Option Stored → Option Stored
after_reading read None = Some read
after_reading read (Some known) = if nat_lt known.1 read.1 then Some read else Some known

-- what a record at this place sets a key to that the copy lacks: it is taken where it has no image before
abbrev pub unseen : ℕ → (before after : Option (List Value)) → Option Stored
unseen place None after = stored place after
unseen place (Some row) after = None

-- what a key has in the copy behind a record on it: one that the copy has is set where its LSN is less than the record's
abbrev pub redo : ℕ → (before after : Option (List Value)) → Option Stored → Option Stored
redo place before after None = unseen place before after
redo place before after (Some known) = if nat_lt known.1 place then stored place after else Some known

-- what the copy of a table has for a key behind the record at this place, from what it had before it
unfoldable pub copied : List ℕ → ℕ → Body → List Value → Option Stored → Option Stored
copied table place (Write written at before after) key known = if is_place written at table key then redo place before after known else known
copied table place (Undo undoes written at before after) key known = if is_place written at table key then redo place before after known else known
copied table place Commit key known = known
copied table place Abort key known = known
copied table place Mark key known = known
copied table place (Check group dep) key known = known
copied table place Switch key known = known

-- what the copy has behind a log's records after this place, from what it had there
abbrev pub redone : List Rec → ℕ → List ℕ → List Value → Option Stored → Option Stored
redone [] place table key known = known
redone (r ∷ past) place table key known =
    if nat_lt place (length past + 1) then copied table (length past + 1) r.body key (redone past place table key known) else known

-- what a copy of several tables, given in order, has for the key of one of its sides behind the record at this place
unfoldable pub copied_on : List (List ℕ) → ℕ → ℕ → Body → List Value → Option Stored → Option Stored
copied_on [] side place body key known = known
copied_on (table ∷ others) zero place body key known = copied table place body key known
copied_on (table ∷ others) (suc side) place body key known = copied_on others side place body key known
