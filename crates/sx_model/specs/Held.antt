-- The locks that live transactions have, and who is ending. A journal is seen newest first.
use Rattle.std.specs.Prelude.{◌==◌, ◌&&◌, ◌||◌, Bool, true, false, not, ℕ, List, [], ◌∷◌, map, filter, Option, Some, None, if◌then◌else◌}
use Rattle.sx_values.specs.declared.value.Value.{Value}
use Rattle.sx_values.specs.declared.catalog.Declared.{Declared}
use Rattle.sx_log.specs.State.{is_place}
use Rattle.sx_locks.specs.declared.mode.Mode.{Mode}
use Rattle.sx_locks.specs.declared.mode.Mode.TheVariants.{Shared, Exclusive}
use Rattle.sx_locks.specs.Modes.{stronger, is_against}
use Rattle.sx_sync.specs.Ready.{least}
use Rattle.sx_journal.specs.declared.entry.Entry.{Entry}
use Rattle.sx_journal.specs.declared.entry.Event.{Event}
use Rattle.sx_journal.specs.declared.entry.Event.TheVariants as event
use Rattle.sx_journal.specs.declared.entry.Request.{Request}
use Rattle.sx_journal.specs.declared.entry.Request.TheVariants as request
use Rattle.sx_model.specs.Effects.{Effect, Reads, Writes, Undoes, Commits, Aborts, effect}
use Rattle.sx_model.specs.Openings.{Opening, key_in}
use Rattle.sx_model.specs.Known.{known}
use Rattle.sx_model.specs.Leaves.{Living, living, txn_of}

-- whether a request asks for this key of this table
unfoldable pub asks_for_key : List Declared → Request → List ℕ → List Value → Bool
asks_for_key catalog (request.Read named at) table key = is_place named at table key
asks_for_key catalog (request.Insert named row) table key = is_place named (key_in catalog named row) table key
asks_for_key catalog (request.Update named row) table key = is_place named (key_in catalog named row) table key
asks_for_key catalog (request.Delete named at) table key = is_place named at table key
asks_for_key catalog other table key = false

-- the same of an event
unfoldable pub is_for_key : List Declared → Event → List ℕ → List Value → Bool
is_for_key catalog (event.Client asked) table key = asks_for_key catalog asked table key
is_for_key catalog other table key = false

-- the lock on a key behind an entry of the transaction: a write has the exclusive one, a read at least the shared one, and the end frees all
abbrev pub lock_after : List Declared → Event → Effect → List ℕ → List Value → Option Mode → Option Mode
lock_after catalog asked Writes table key held = if is_for_key catalog asked table key then Some Exclusive else held
lock_after catalog asked Reads table key held = if is_for_key catalog asked table key then Some (stronger held Shared) else held
lock_after catalog asked Commits table key held = None
lock_after catalog asked Aborts table key held = None
lock_after catalog asked other table key held = held

-- whether a transaction is this one
abbrev pub is_txn : ℕ → Option ℕ → Bool
is_txn txn None = false
is_txn txn (Some other) = txn == other

-- the lock that a transaction has on a key of a table, by its entries
abbrev pub lock_of : Opening → List Entry → ℕ → List ℕ → List Value → Option Mode
lock_of o [] txn table key = None
lock_of o (e ∷ past) txn table key =
    if is_txn txn (txn_of past e.actor) then lock_after (known o past) e.event (effect e.reply) table key (lock_of o past txn table key)
    else lock_of o past txn table key

-- whether an answer undoes a write
abbrev pub undoes : Effect → Bool
undoes Undoes = true
undoes other = false

-- whether a transaction is ending: a write of it was undone
abbrev pub is_ending : List Entry → ℕ → Bool
is_ending [] txn = false
is_ending (e ∷ past) txn = (is_txn txn (txn_of past e.actor) && undoes (effect e.reply)) || is_ending past txn

-- whether a live transaction is another than this one, with a lock on the key that conflicts with this mode
abbrev pub holds_against : Opening → List Entry → ℕ → List ℕ → List Value → Mode → Living → Bool
holds_against o past txn table key mode l = not (txn == l.txn) && is_against (lock_of o past l.txn table key) mode

-- the least live other transaction with a conflicting lock on a key of a table, if there is one
abbrev pub holder : Opening → List Entry → ℕ → List ℕ → List Value → Mode → Option ℕ
holder o past txn table key mode = least (map (λ (l : Living). l.txn) (filter (holds_against o past txn table key mode) (living past)))
