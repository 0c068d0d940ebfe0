-- What a log's records say of the rows before them. A log is seen newest first.
use Rattle.std.specs.Prelude.{◌≡◌, ◌≤◌, ⊤, true, length, ℕ, List, [], ◌∷◌, Option, None}
use Rattle.sx_values.specs.declared.value.Value.{Value}
use Rattle.sx_log.specs.declared.record.Rec.{Rec}
use Rattle.sx_log.specs.declared.record.Body.{Body}
use Rattle.sx_log.specs.declared.record.Body.TheVariants.{Write, Undo, Commit, Abort, Mark, Check, Switch}
use Rattle.sx_log.specs.State.{row_left}
use Rattle.sx_model.specs.Scans.{is_about}

-- the image that a body has before it, where it has images
abbrev pub before_of : Body → Option (List Value)
before_of (Write table key before after) = before
before_of (Undo undoes table key before after) = before
before_of Commit = None
before_of Abort = None
before_of Mark = None
before_of (Check group dep) = None
before_of Switch = None

-- each record about a key behind a place has, as its image before, the row that the records before it left there
abbrev pub KeepsSince : ℕ → List Rec → List ℕ → List Value → Type 0
KeepsSince place [] table key = ⊤
KeepsSince place (r ∷ past) table key = KeepsSince place past table key × (place ≤ length past → is_about r.body table key ≡ true → before_of r.body ≡ row_left past table key)
