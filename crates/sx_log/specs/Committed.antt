-- The committed writes of a log.
use Rattle.std.specs.Prelude.{◌&&◌, ◌||◌, ◌==◌, Bool, true, false, ℕ, List, [], ◌∷◌, filter}
use Rattle.sx_log.specs.declared.record.Rec.{Rec}
use Rattle.sx_log.specs.declared.record.Body.{Body}
use Rattle.sx_log.specs.declared.record.Body.TheVariants.{Write, Undo, Commit, Abort, Mark, Check, Switch}

unfoldable pub is_write : Body → Bool
is_write (Write table key before after) = true
is_write (Undo undoes table key before after) = false
is_write Commit = false
is_write Abort = false
is_write Mark = false
is_write (Check group dep) = false
is_write Switch = false

unfoldable pub is_commit : Body → Bool
is_commit Commit = true
is_commit (Write table key before after) = false
is_commit (Undo undoes table key before after) = false
is_commit Abort = false
is_commit Mark = false
is_commit (Check group dep) = false
is_commit Switch = false

-- whether a log has a Commit of this transaction
abbrev pub commits : List Rec → ℕ → Bool
commits [] txn = false
commits (r ∷ past) txn = (is_commit r.body && (r.txn == txn)) || commits past txn

-- a Write whose transaction is 0 or has a Commit in the log
abbrev pub is_committed : List Rec → Rec → Bool
is_committed log r = is_write r.body && ((r.txn == 0) || commits log r.txn)

-- the committed writes, in the log's order
abbrev pub committed : List Rec → List Rec
committed log = filter (is_committed log) log
