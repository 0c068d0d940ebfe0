-- Whether a transaction has undone a write. A log is seen newest first.
use Rattle.std.specs.Prelude.{◌&&◌, ◌||◌, ◌==◌, Bool, true, false, ℕ, List, [], ◌∷◌}
use Rattle.sx_log.specs.declared.record.Rec.{Rec}
use Rattle.sx_log.specs.declared.record.Body.{Body}
use Rattle.sx_log.specs.declared.record.Body.TheVariants.{Write, Undo, Commit, Abort, Mark, Check, Switch}

-- whether a body is that of an Undo record
unfoldable pub is_undo : Body → Bool
is_undo (Undo undoes table key before after) = true
is_undo (Write table key before after) = false
is_undo Commit = false
is_undo Abort = false
is_undo Mark = false
is_undo (Check group dep) = false
is_undo Switch = false

-- whether a log has an Undo record of this transaction
abbrev pub has_undone : List Rec → ℕ → Bool
has_undone [] txn = false
has_undone (r ∷ log) txn = (is_undo r.body && (r.txn == txn)) || has_undone log txn
