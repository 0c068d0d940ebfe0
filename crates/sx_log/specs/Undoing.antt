-- Which writes of a transaction are left to undo, and the record of an undo. A log is seen newest first.
use Rattle.std.specs.Prelude.{◌+◌, ◌==◌, not, ℕ, List, [], ◌∷◌, length, filter, Option, Some, None, if◌then◌else◌}
use Rattle.sx_lists.specs.Places.{numbered}
use Rattle.sx_log.specs.declared.record.Rec.{Rec}
use Rattle.sx_log.specs.declared.record.Body.{Body}
use Rattle.sx_log.specs.declared.record.Body.TheVariants.{Write, Undo, Commit, Abort, Mark, Check, Switch}
use Rattle.sx_values.specs.declared.value.Value.{Value}

-- LSNs without this one
abbrev pub without_lsn : ℕ → List ℕ → List ℕ
without_lsn lsn lsns = filter (λ other. not (other == lsn)) lsns

-- the writes left behind a transaction's own record at this place: a Write adds its LSN, an Undo takes away the one that it undoes
unfoldable pub left_after : ℕ → Body → List ℕ → List ℕ
left_after lsn (Write table key before after) left = lsn ∷ left
left_after lsn (Undo undoes table key before after) left = without_lsn undoes left
left_after lsn Commit left = left
left_after lsn Abort left = left
left_after lsn Mark left = left
left_after lsn (Check group dep) left = left
left_after lsn Switch left = left

-- the LSNs of a transaction's Write records that no Undo undoes, the last one first
abbrev pub writes_left : ℕ → List Rec → List ℕ
writes_left txn [] = []
writes_left txn (r ∷ past) = if r.txn == txn then left_after (length past + 1) r.body (writes_left txn past) else writes_left txn past

-- what each key of each table has now
abbrev pub Rows : Type 0
Rows = List ℕ → List Value → Option (List Value)

-- the record that undoes a write of this LSN and body: the image before is the row that the key has now, the image after is what the write found
unfoldable pub undo_of : Rows → ℕ → ℕ → Body → Option Rec
undo_of there txn lsn (Write table key before after) = Some (record { txn = txn; body = Undo lsn table key (there table key) before })
undo_of there txn lsn other = None

-- the record that undoes the write with this LSN
abbrev pub undo_at : Rows → ℕ → ℕ → Option Rec → Option Rec
undo_at there txn lsn None = None
undo_at there txn lsn (Some r) = undo_of there txn lsn r.body

-- the record that undoes the last of the writes that are left, if one is left
abbrev pub undo_last : Rows → List Rec → ℕ → List ℕ → Option Rec
undo_last there log txn [] = None
undo_last there log txn (lsn ∷ left) = undo_at there txn lsn (numbered log lsn)

-- the record that a transaction's undo makes, or None where nothing is left to undo
abbrev pub undo_record : Rows → List Rec → ℕ → Option Rec
undo_record there log txn = undo_last there log txn (writes_left txn log)
