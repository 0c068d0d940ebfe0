-- What one more entry leaves, by what it does.
use Rattle.std.proofs.Common.{◌≡◌, ◌≤◌, ◌+◌, ◌++◌, ℕ, Bool, List, [], ◌∷◌, length, Option, Some, None, ap, ◌∙◌, arith, unwrap_or}
use Rattle.std.specs.Option.{option_to_list}
use Rattle.sx_lists.specs.Places.{numbered}
use Rattle.sx_log.specs.declared.record.Rec.{Rec}
use Rattle.sx_log.specs.declared.record.Body.TheVariants.{Commit, Abort, Mark, Switch}
use Rattle.sx_log.specs.Undoing.{undo_at, undo_last, undo_record}
use Rattle.sx_journal.specs.declared.entry.Entry.{Entry}
use Rattle.sx_model.specs.Effects.{Effect, Nothing, Reads, Begins, Writes, Undoes, Commits, Aborts, Starts, Sees, Fetches, Conflicts, Switches, effect}
use Rattle.sx_model.specs.Openings.{Opening}
use Rattle.sx_model.specs.Known.{known}
use Rattle.sx_model.specs.NewRows.{row_in}
use Rattle.sx_model.specs.Leaves.{living_after, living, txn_of}
use Rattle.sx_model.specs.Logs.{log_of, next_lsn, write_record, event_record, effect_record, entry_record}
use Rattle.sx_model.proofs.Outcomes.{Written, Committed, Undone, Aborted}

-- the log behind an entry with this effect
abbrev pub log_after : Opening → List Entry → Entry → Effect → List Rec
log_after o past e f = option_to_list (effect_record (known o past) (row_in o past (log_of o past)) (log_of o past) (unwrap_or (txn_of past e.actor) 0) e.event f) ++ log_of o past

pub log_by : (o : Opening) (past : List Entry) (e : Entry) (f : Effect) → effect e.reply ≡ f → log_of o (e ∷ past) ≡ log_after o past e f
log_by o past e f told = ap (log_after o past e) told

pub living_by : (past : List Entry) (e : Entry) (f : Effect) → effect e.reply ≡ f → living (e ∷ past) ≡ living_after e.actor f (living past)
living_by past e f told = ap (λ g. living_after e.actor g (living past)) told

-- the logs behind entries that make no record
pub log-quiet : (o : Opening) (past : List Entry) (e : Entry) → effect e.reply ≡ Nothing → log_of o (e ∷ past) ≡ log_of o past
log-quiet o past e told = log_by o past e Nothing told

pub log-read : (o : Opening) (past : List Entry) (e : Entry) → effect e.reply ≡ Reads → log_of o (e ∷ past) ≡ log_of o past
log-read o past e told = log_by o past e Reads told

pub log-begun : (o : Opening) (past : List Entry) (e : Entry) (txn : ℕ) → effect e.reply ≡ Begins txn → log_of o (e ∷ past) ≡ log_of o past
log-begun o past e txn told = log_by o past e (Begins txn) told

pub log-conflict : (o : Opening) (past : List Entry) (e : Entry) → effect e.reply ≡ Conflicts → log_of o (e ∷ past) ≡ log_of o past
log-conflict o past e told = log_by o past e Conflicts told

-- the transaction of an entry whose client is in one
txn_here : (past : List Entry) (e : Entry) (txn : ℕ) → txn_of past e.actor ≡ Some txn → unwrap_or (txn_of past e.actor) 0 ≡ txn
txn_here past e txn inside = ap (λ t. unwrap_or t 0) inside

-- and behind those that make one
pub log-written : (o : Opening) (past : List Entry) (e : Entry) (w : Written o past e) → log_of o (e ∷ past) ≡ write_record (row_in o past (log_of o past)) w.txn w.table w.key w.after ∷ log_of o past
log-written o past e w =
    log_by o past e Writes w.told
    ∙ (ap (λ t. option_to_list (event_record (known o past) (row_in o past (log_of o past)) t e.event) ++ log_of o past) (txn_here past e w.txn w.inside)
    ∙ ap (λ r. option_to_list r ++ log_of o past) w.made)

pub log-committed : (o : Opening) (past : List Entry) (e : Entry) (c : Committed o past e) → log_of o (e ∷ past) ≡ record { txn = c.txn; body = Commit } ∷ log_of o past
log-committed o past e c =
    log_by o past e Commits c.told
    ∙ ap (λ t. record { txn = t; body = Commit } ∷ log_of o past) (txn_here past e c.txn c.inside)

pub log-undone : (o : Opening) (past : List Entry) (e : Entry) (u : Undone o past e) → log_of o (e ∷ past) ≡ option_to_list (undo_at (row_in o past (log_of o past)) u.txn u.lsn (numbered (log_of o past) u.lsn)) ++ log_of o past
log-undone o past e u =
    log_by o past e Undoes u.told
    ∙ (ap (λ t. option_to_list (undo_record (row_in o past (log_of o past)) (log_of o past) t) ++ log_of o past) (txn_here past e u.txn u.inside)
    ∙ ap (λ left. option_to_list (undo_last (row_in o past (log_of o past)) (log_of o past) u.txn left) ++ log_of o past) u.left)

pub log-aborted : (o : Opening) (past : List Entry) (e : Entry) (a : Aborted o past e) → log_of o (e ∷ past) ≡ record { txn = a.txn; body = Abort } ∷ log_of o past
log-aborted o past e a =
    log_by o past e Aborts a.told
    ∙ ap (λ t. record { txn = t; body = Abort } ∷ log_of o past) (txn_here past e a.txn a.inside)

pub log-started : (o : Opening) (past : List Entry) (e : Entry) (mark : ℕ) → effect e.reply ≡ Starts mark → log_of o (e ∷ past) ≡ record { txn = 0; body = Mark } ∷ log_of o past
log-started o past e mark told = log_by o past e (Starts mark) told

pub log-switched : (o : Opening) (past : List Entry) (e : Entry) → effect e.reply ≡ Switches → log_of o (e ∷ past) ≡ record { txn = 0; body = Switch } ∷ log_of o past
log-switched o past e told = log_by o past e Switches told

pub log-saw : (o : Opening) (past : List Entry) (e : Entry) (lsns : List ℕ) (last : Bool) → effect e.reply ≡ Sees lsns last → log_of o (e ∷ past) ≡ log_of o past
log-saw o past e lsns last told = log_by o past e (Sees lsns last) told

pub log-fetched : (o : Opening) (past : List Entry) (e : Entry) (place : ℕ) → effect e.reply ≡ Fetches place → log_of o (e ∷ past) ≡ log_of o past
log-fetched o past e place told = log_by o past e (Fetches place) told

-- an entry makes one record at most
length-option : {T : Type 0} (item : Option T) (items : List T) → length (option_to_list item ++ items) ≤ length items + 1
length-option None items = omega arith
length-option (Some x) items = omega arith

pub option_longer : {T : Type 0} (item : Option T) (items : List T) → length items ≤ length (option_to_list item ++ items)
option_longer None items = omega arith
option_longer (Some x) items = omega arith

pub log_grows_by_one : (o : Opening) (past : List Entry) (e : Entry) → length (log_of o (e ∷ past)) ≤ length (log_of o past) + 1
log_grows_by_one o past e = length-option (entry_record o past (log_of o past) e) (log_of o past)

pub log_never_shrinks : (o : Opening) (past : List Entry) (e : Entry) → length (log_of o past) ≤ length (log_of o (e ∷ past))
log_never_shrinks o past e = option_longer (entry_record o past (log_of o past) e) (log_of o past)

pub next_lsn_grows_by_one : (o : Opening) (past : List Entry) (e : Entry) → next_lsn o (e ∷ past) ≤ next_lsn o past + 1
next_lsn_grows_by_one o past e = let h = log_grows_by_one o past e in omega arith

-- a log has no more records than loaded rows and entries
pub log_bounded : (o : Opening) (past : List Entry) → length (log_of o past) ≤ length o.loads + length past
log_bounded o [] = omega arith
log_bounded o (e ∷ past) =
    let h = log_grows_by_one o past e in
    let more = log_bounded o past in
    omega arith
