-- The copy of the sources that a journal tells, key by key: what the propagator's readings and the records handed out to it make of it.
use Rattle.std.specs.Prelude.{◌==◌, ℕ, List, [], ◌∷◌, length, Option, Some, None, if◌then◌else◌}
use Rattle.sx_lists.specs.Places.{numbered}
use Rattle.sx_values.specs.declared.value.Value.{Value}
use Rattle.sx_log.specs.declared.record.Rec.{Rec}
use Rattle.sx_log.specs.State.{Stored, after_body, oldest}
use Rattle.sx_log.specs.Copies.{after_reading, redone}
use Rattle.sx_journal.specs.declared.entry.Entry.{Entry}
use Rattle.sx_journal.specs.declared.entry.Reply.{Reply}
use Rattle.sx_journal.specs.declared.entry.Reply.TheVariants as reply
use Rattle.sx_model.specs.Openings.{Opening}
use Rattle.sx_model.specs.Leaves.{started}
use Rattle.sx_model.specs.Logs.{log_of}
use Rattle.sx_model.specs.Scans.{side_table}
use Rattle.sx_model.specs.Switches.{position}

-- a reading that there may be is merged
abbrev pub with_reading : Option Stored → Option Stored → Option Stored
with_reading None known = known
with_reading (Some read) known = after_reading read known

-- what a record tells of a key, as a reading under its LSN
abbrev pub reading_of : Option Rec → ℕ → List ℕ → List Value → Option Stored
reading_of None lsn table key = None
reading_of (Some r) lsn table key = after_body lsn r.body table key None

-- what the copy has for a key behind the readings of these LSNs of its table
abbrev pub behind_readings : List Rec → List ℕ → List ℕ → List Value → Option Stored → Option Stored
behind_readings log [] table key known = known
behind_readings log (lsn ∷ lsns) table key known = behind_readings log lsns table key (with_reading (reading_of (numbered log lsn) lsn table key) known)

-- what the copy has for a key of a table behind an entry, by the log behind it and the position before it: a start begins anew, a turn of the table's side merges its readings, and records that are handed out are redone
unfoldable pub copied_by : List Rec → ℕ → Reply → ℕ → List ℕ → List Value → Option Stored → Option Stored
copied_by log from (reply.Started lsn) side table key known = None
copied_by log from (reply.Scanned turn lsns last) side table key known = if turn == side then behind_readings log lsns table key known else known
copied_by log from (reply.Fetched first to) side table key known = redone (oldest to log) first table key known
copied_by log from (reply.Violated first second) side table key known = redone log from table key known
copied_by log from other side table key known = known

-- the same for a side that there may be
abbrev pub copied_on_side : List Rec → ℕ → Reply → ℕ → Option (List ℕ) → List Value → Option Stored → Option Stored
copied_on_side log from answer side None key known = None
copied_on_side log from answer side (Some table) key known = copied_by log from answer side table key known

-- what the copy has for a key of a side
abbrev pub copy : Opening → List Entry → ℕ → List Value → Option Stored
copy o [] side key = None
copy o (e ∷ past) side key = copied_on_side (log_of o (e ∷ past)) (position o past) e.reply side (side_table (started (e ∷ past)) side) key (copy o past side key)

-- how long the log was when the scan ended last
unfoldable pub scan_end_after : ℕ → Reply → ℕ → ℕ
scan_end_after end (reply.Scanned side lsns last) earlier = if last then end else earlier
scan_end_after end other earlier = earlier

abbrev pub scan_end : Opening → List Entry → ℕ
scan_end o [] = 0
scan_end o (e ∷ past) = scan_end_after (length (log_of o (e ∷ past))) e.reply (scan_end o past)
