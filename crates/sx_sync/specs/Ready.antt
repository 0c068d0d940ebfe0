-- Whether a switch can be done, by the log that is unread and by the transactions that live.
use Rattle.std.specs.Prelude.{◌-◌, ◌&&◌, Bool, true, false, ℕ, List, [], ◌∷◌, map, filter, min, nat_lt, Option, Some, None, if◌then◌else◌}
use Rattle.sx_ops.specs.declared.spec.Spec.{Spec}
use Rattle.sx_ops.specs.Operators.{is_split}
use Rattle.sx_sync.specs.declared.Strategy.{Strategy}
use Rattle.sx_sync.specs.declared.Strategy.TheVariants.{Blocking, NonBlockingAbort, NonBlockingCommit}
use Rattle.sx_sync.specs.declared.ready.Live.{Live}
use Rattle.sx_sync.specs.declared.ready.Ready.{Ready}
use Rattle.sx_sync.specs.declared.ready.Ready.TheVariants as answer

-- the lesser of a transaction and another, if there is another
abbrev pub lesser : ℕ → Option ℕ → ℕ
lesser txn None = txn
lesser txn (Some other) = min txn other

-- the least of these numbers
abbrev pub least : List ℕ → Option ℕ
least [] = None
least (txn ∷ txns) = Some (lesser txn (least txns))

-- whether old transactions keep the switch waiting
abbrev pub is_blocking : Strategy → Bool
is_blocking Blocking = true
is_blocking NonBlockingAbort = false
is_blocking NonBlockingCommit = false

-- whether a live transaction hinders the switch: under blocking commit by a lock on a source, else by a record on the source of a vertical split
abbrev pub hinders : Strategy → Spec → Live → Bool
hinders strategy spec live = if is_blocking strategy then live.locks_source else is_split spec && live.wrote_source

-- the least live transaction that hinders it
abbrev pub least_hindering : Strategy → Spec → List Live → Option ℕ
least_hindering strategy spec living = least (map (λ (l : Live). l.txn) (filter (hinders strategy spec) living))

-- ready, unless a transaction hinders it
abbrev pub unless_hindered : Option ℕ → Ready
unless_hindered None = answer.Ready
unless_hindered (Some txn) = answer.Conflict txn

-- the answer to an attempt whose tail is the records from the position to the log's end
abbrev pub ready : Strategy → Spec → ℕ → ℕ → List Live → Ready
ready strategy spec position end living =
    if nat_lt 256 (end - position) then answer.Unread position end else unless_hindered (least_hindering strategy spec living)
