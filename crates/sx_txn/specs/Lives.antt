-- What a manager keeps of its live transactions.
use Rattle.std.specs.Prelude.{◌≡◌, ◌==◌, ◌<◌, not, true, false, Bool, ℕ, List, [], ◌∷◌, map, filter, if◌then◌else◌}
use Rattle.sx_txn.specs.Managed.{Alive}
use Rattle.sx_txn.specs.Writes.{rest_of}
use Rattle.sx_txn.specs.declared.lives.Live.{Live}

-- a live transaction, whether it is ending, and the LSNs of its writes that are left to undo, the last one first
pub record Kept : Type 0 where
  pub txn : ℕ
  pub ending : Bool
  pub writes : List ℕ

-- a live transaction without the room that it has for writes
abbrev pub kept_of : Live → Kept
kept_of live = record { txn = live.txn; ending = live.ending; writes = live.writes.newest }

abbrev pub kept_all : List Live → List Kept
kept_all living = map kept_of living

-- a transaction that has just begun
abbrev pub fresh : ℕ → Kept
fresh txn = record { txn = txn; ending = false; writes = [] }

-- a live transaction without its writes
abbrev pub alive_of : Kept → Alive
alive_of k = record { txn = k.txn; ending = k.ending }

abbrev pub alive_all : List Kept → List Alive
alive_all kept = map alive_of kept

-- the writes that are left of a transaction, if it is among these
abbrev pub writes_of : List Kept → ℕ → List ℕ
writes_of [] txn = []
writes_of (k ∷ kept) txn = if k.txn == txn then k.writes else writes_of kept txn

-- the same transaction; if it is this one, it has a further write
abbrev pub with_write : ℕ → ℕ → Kept → Kept
with_write txn lsn k = if k.txn == txn then record { txn = k.txn; ending = k.ending; writes = lsn ∷ k.writes } else k

-- the same transaction; if it is this one, its last write is undone, and it is ending
abbrev pub with_undo : ℕ → Kept → Kept
with_undo txn k = if k.txn == txn then record { txn = k.txn; ending = true; writes = rest_of k.writes } else k

-- these without a transaction
abbrev pub kept_without : ℕ → List Kept → List Kept
kept_without txn kept = filter (λ (k : Kept). not (k.txn == txn)) kept

-- a transaction, if it is this one, has room for a further write
abbrev pub HasRoomFor : ℕ → Live → Type 0
HasRoomFor txn live = (live.txn == txn) ≡ true → 0 < live.writes.spare
