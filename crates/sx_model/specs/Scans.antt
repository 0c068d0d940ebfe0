-- What a scan without locks has seen, and which scan turns are allowed.
use Rattle.std.specs.Prelude.{◌≡◌, ◌≤◌, ◌<◌, ◌+◌, ◌&&◌, ◌++◌, ◌⊎◌, Bool, false, not, IsTrue, ℕ, List, [], ◌∷◌, length, Option, Some, None, nat_eq, slice_get, if◌then◌else◌}
use Rattle.std.specs.List.{list_any, IsDistinct, AllByRecursion}
use Rattle.sx_values.specs.declared.value.Value.{Value}
use Rattle.sx_log.specs.declared.record.Rec.{Rec}
use Rattle.sx_log.specs.declared.record.Body.{Body}
use Rattle.sx_log.specs.declared.record.Body.TheVariants.{Write, Undo, Commit, Abort, Mark, Check, Switch}
use Rattle.sx_log.specs.State.{Stored, is_place, state_at, state_at_place, after_body}
use Rattle.sx_ops.specs.Operators.{sources_of}
use Rattle.sx_journal.specs.declared.entry.Entry.{Entry}
use Rattle.sx_journal.specs.declared.entry.Event.{Event}
use Rattle.sx_journal.specs.declared.entry.Event.TheVariants as event
use Rattle.sx_journal.specs.declared.entry.Reply.{Reply}
use Rattle.sx_journal.specs.declared.entry.Reply.TheVariants as reply
use Rattle.sx_model.specs.Effects.{Effect, Starts, Sees, effect}
use Rattle.sx_sync.specs.declared.Phase.TheVariants.{Scanning}
use Rattle.sx_model.specs.Openings.{Opening}
use Rattle.sx_model.specs.Leaves.{Started, started, phase}
use Rattle.sx_model.specs.Logs.{log_of}

-- the LSNs that the scan has seen after an answer: a start sees none, a turn adds its own
abbrev pub seen_after : Effect → List ℕ → List ℕ
seen_after (Starts mark) seen = []
seen_after (Sees lsns last) seen = seen ++ lsns
seen_after other seen = seen

-- the LSNs of the rows that were seen since the last start
abbrev pub seen : List Entry → List ℕ
seen [] = []
seen (e ∷ past) = seen_after (effect e.reply) (seen past)

-- whether an LSN is among these
abbrev pub has_lsn : List ℕ → ℕ → Bool
has_lsn lsns lsn = list_any (nat_eq lsn) lsns

-- whether a record is about a key of a table
unfoldable pub is_about : Body → List ℕ → List Value → Bool
is_about (Write written at before after) table key = is_place written at table key
is_about (Undo undoes written at before after) table key = is_place written at table key
is_about Commit table key = false
is_about Abort table key = false
is_about Mark table key = false
is_about (Check group dep) table key = false
is_about Switch table key = false

-- what was seen of a key: the reading of greatest LSN among those with these LSNs, or nothing
abbrev pub reading : List Rec → List ℕ → List ℕ → List Value → Option Stored
reading [] lsns table key = None
reading (r ∷ past) lsns table key =
    if has_lsn lsns (length past + 1) && is_about r.body table key then after_body (length past + 1) r.body table key None
    else reading past lsns table key

-- what was seen of a key is what the log left there at some place from the Mark on
pub record IsCovered (log : List Rec) (mark : ℕ) (lsns : List ℕ) (table : List ℕ) (key : List Value) : Type 0 where
  pub place : ℕ
  pub from_mark : mark ≤ place
  pub until_now : place ≤ length log
  pub same : reading log lsns table key ≡ state_at_place log place table key

-- a table is covered where each of its keys is
abbrev pub Covers : List Rec → ℕ → List ℕ → List ℕ → Type 0
Covers log mark lsns table = (key : List Value) → IsCovered log mark lsns table key

-- the LSN is that of a row that the table has now
pub record IsRowNow (log : List Rec) (table : List ℕ) (lsn : ℕ) : Type 0 where
  pub key : List Value
  pub row : List Value
  pub now : state_at log table key ≡ Some (row, lsn)

-- each row that the table has now was seen
abbrev pub SawAll : List Rec → List ℕ → List ℕ → Type 0
SawAll log lsns table = (key row : List Value) (lsn : ℕ) → state_at log table key ≡ Some (row, lsn) → IsTrue (has_lsn lsns lsn)

-- a turn of at most n rows that ends its side: it has fewer, or after it each row was seen
abbrev pub EndsSide : List Rec → ℕ → List ℕ → List ℕ → List ℕ → Type 0
EndsSide log n turn lsns table = (length turn < n) ⊎ SawAll log lsns table

-- the table of a side; a side that there isn't has no table
abbrev pub side_table : Option Started → ℕ → Option (List ℕ)
side_table None side = None
side_table (Some s) side = slice_get (sources_of s.spec) side

-- the side is the last of the transformation's sources
abbrev pub IsLastSide : Option Started → ℕ → Type 0
IsLastSide None side = ⊥
IsLastSide (Some s) side = side + 1 ≡ length (sources_of s.spec)

-- the LSN of the Mark of the transformation that started last
abbrev pub mark_of : Option Started → ℕ
mark_of None = 0
mark_of (Some s) = s.mark

-- the number of rows that a scan turn asks for
abbrev pub turn_size : Event → ℕ
turn_size (event.Scan n) = n
turn_size other = 0

-- the side of the turn after one of n rows on a side: the same one where that turn didn't end it, or the next one where it is covered
abbrev pub FollowsTurn : List Rec → Option Started → ℕ → ℕ → List ℕ → List ℕ → ℕ → Type 0
FollowsTurn log s n side turn lsns next = ((next ≡ side) × ((table : List ℕ) → side_table s side ≡ Some table → EndsSide log n turn lsns table → ⊥))
    ⊎ ((next ≡ side + 1) × ((table : List ℕ) → side_table s side ≡ Some table → Covers log (mark_of s) lsns table))

-- the side of the next turn, from the last entry and what held before it
unfoldable pub next_side_after : List Rec → Option Started → List ℕ → Event → Reply → ℕ → Type 0 → Type 0
next_side_after log s lsns asked (reply.Started lsn) next earlier = next ≡ 0
next_side_after log s lsns asked (reply.Scanned side turn last) next earlier = FollowsTurn log s (turn_size asked) side turn lsns next
next_side_after log s lsns asked other next earlier = earlier

-- the sides that the next scan turn may have
abbrev pub IsNextSide : Opening → List Entry → ℕ → Type 0
IsNextSide o [] next = next ≡ 0
IsNextSide o (e ∷ past) next = next_side_after (log_of o (e ∷ past)) (started (e ∷ past)) (seen (e ∷ past)) e.event e.reply next (IsNextSide o past next)

-- a scan turn of at most n rows that may be answered so
pub record IsScanTurn (o : Opening) (past : List Entry) (n side : ℕ) (lsns : List ℕ) (last : Bool) : Type 0 where
  pub scanning : phase past ≡ Scanning
  -- at most n rows, each once, and none that was seen before
  pub few : length lsns ≤ n
  pub distinct : IsDistinct nat_eq lsns
  pub unseen : IsTrue (not (list_any (has_lsn (seen past)) lsns))
  -- each is a row that the side's source has now
  pub on_side : IsNextSide o past side
  pub table : List ℕ
  pub of_side : side_table (started past) side ≡ Some table
  pub present : AllByRecursion (IsRowNow (log_of o past) table) lsns
  -- a turn that ends the last side ends the scan, which it does only where that side is covered
  pub ends : EndsSide (log_of o past) n lsns (seen past ++ lsns) table → IsLastSide (started past) side → IsTrue last
  pub last_side : IsTrue last → IsLastSide (started past) side
  pub covered : IsTrue last → Covers (log_of o past) (mark_of (started past)) (seen past ++ lsns) table
