-- The log that a journal makes. Both are seen newest first.
use Rattle.std.specs.Prelude.{◌+◌, ◌++◌, ℕ, List, [], ◌∷◌, length, Option, Some, None, unwrap_or}
use Rattle.std.specs.Option.{option_to_list}
use Rattle.sx_values.specs.declared.value.Value.{Value}
use Rattle.sx_values.specs.declared.catalog.Declared.{Declared}
use Rattle.sx_log.specs.declared.record.Rec.{Rec}
use Rattle.sx_log.specs.declared.record.Body.TheVariants as body
use Rattle.sx_log.specs.Undoing.{Rows, undo_record}
use Rattle.sx_journal.specs.declared.entry.Entry.{Entry}
use Rattle.sx_journal.specs.declared.entry.Event.{Event}
use Rattle.sx_journal.specs.declared.entry.Event.TheVariants as event
use Rattle.sx_journal.specs.declared.entry.Request.{Request}
use Rattle.sx_journal.specs.declared.entry.Request.TheVariants as request
use Rattle.sx_model.specs.Effects.{Effect, Writes, Undoes, Commits, Aborts, Starts, Switches, effect}
use Rattle.sx_model.specs.Openings.{Opening, key_in}
use Rattle.sx_model.specs.Leaves.{txn_of}
use Rattle.sx_model.specs.Known.{known}
use Rattle.sx_model.specs.NewRows.{row_in}

-- the record of a write: the image before is the row that the key has now
abbrev pub write_record : Rows → ℕ → List ℕ → List Value → Option (List Value) → Rec
write_record there txn table key after = record { txn = txn; body = body.Write table key (there table key) after }

-- the record of a request that was answered Done
unfoldable pub request_record : List Declared → Rows → ℕ → Request → Option Rec
request_record tables there txn (request.Insert table row) = Some (write_record there txn table (key_in tables table row) (Some row))
request_record tables there txn (request.Update table row) = Some (write_record there txn table (key_in tables table row) (Some row))
request_record tables there txn (request.Delete table key) = Some (write_record there txn table key None)
request_record tables there txn other = None

-- the same of an event
unfoldable pub event_record : List Declared → Rows → ℕ → Event → Option Rec
event_record tables there txn (event.Client request) = request_record tables there txn request
event_record tables there txn other = None

-- the record that an event with this effect makes behind a log, for a transaction, by the known tables and their rows; Check records come with their request
abbrev pub effect_record : List Declared → Rows → List Rec → ℕ → Event → Effect → Option Rec
effect_record tables there log txn asked Writes = event_record tables there txn asked
effect_record tables there log txn asked Undoes = undo_record there log txn
effect_record tables there log txn asked Commits = Some (record { txn = txn; body = body.Commit })
effect_record tables there log txn asked Aborts = Some (record { txn = txn; body = body.Abort })
effect_record tables there log txn asked (Starts mark) = Some (record { txn = 0; body = body.Mark })
effect_record tables there log txn asked Switches = Some (record { txn = 0; body = body.Switch })
effect_record tables there log txn asked other = None

-- the record that an entry makes, from the entries before it and the log that they made
abbrev pub entry_record : Opening → List Entry → List Rec → Entry → Option Rec
entry_record o past log e = effect_record (known o past) (row_in o past log) log (unwrap_or (txn_of past e.actor) 0) e.event (effect e.reply)

-- the log: the records of the loaded rows, and then one for each reply that makes one
abbrev pub log_of : Opening → List Entry → List Rec
log_of o [] = o.loads
log_of o (e ∷ past) = option_to_list (entry_record o past (log_of o past) e) ++ log_of o past

-- the LSN that the next record gets
abbrev pub next_lsn : Opening → List Entry → ℕ
next_lsn o past = length (log_of o past) + 1

-- the row that a key of a table has now
abbrev pub row_now : Opening → List Entry → List ℕ → List Value → Option (List Value)
row_now o past table key = row_in o past (log_of o past) table key
