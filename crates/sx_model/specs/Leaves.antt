-- What a journal leaves: who lives, and how far a transformation has come. A journal is seen newest first.
use Rattle.std.specs.Prelude.{◌+◌, ◌==◌, not, Bool, false, ℕ, List, [], ◌∷◌, filter, Option, Some, None, if◌then◌else◌}
use Rattle.sx_ops.specs.declared.spec.Spec.{Spec}
use Rattle.sx_sync.specs.declared.Strategy.{Strategy}
use Rattle.sx_sync.specs.Ready.{is_blocking}
use Rattle.sx_sync.specs.declared.Phase.{Phase}
use Rattle.sx_sync.specs.declared.Phase.TheVariants.{Idle, Scanning, Chasing, Draining, Done}
use Rattle.sx_journal.specs.declared.entry.Entry.{Entry}
use Rattle.sx_journal.specs.declared.entry.Event.{Event}
use Rattle.sx_journal.specs.declared.entry.Event.TheVariants as event
use Rattle.sx_model.specs.Effects.{Effect, Begins, Commits, Aborts, Starts, Sees, Conflicts, Violates, Switches, Cancels, effect}

-- a client with its live transaction
pub record Living : Type 0 where
  pub client : ℕ
  pub txn : ℕ

-- these without the client's
abbrev pub without : ℕ → List Living → List Living
without client living = filter (λ (l : Living). not (l.client == client)) living

-- who lives after a reply to an actor
abbrev pub living_after : ℕ → Effect → List Living → List Living
living_after actor (Begins txn) living = record { client = actor; txn = txn } ∷ living
living_after actor Commits living = without actor living
living_after actor Aborts living = without actor living
living_after actor other living = living

-- the live transactions: begun, and neither committed nor aborted
abbrev pub living : List Entry → List Living
living [] = []
living (e ∷ past) = living_after e.actor (effect e.reply) (living past)

-- the transaction of a client among these
abbrev pub txn_among : List Living → ℕ → Option ℕ
txn_among [] client = None
txn_among (l ∷ others) client = if l.client == client then Some l.txn else txn_among others client

-- the client's live transaction, if it has one
abbrev pub txn_of : List Entry → ℕ → Option ℕ
txn_of past client = txn_among (living past) client

-- how many transactions have begun after an answer
abbrev pub begun_after : Effect → ℕ → ℕ
begun_after (Begins txn) begun = begun + 1
begun_after other begun = begun

-- how many transactions were begun
abbrev pub begun : List Entry → ℕ
begun [] = 0
begun (e ∷ past) = begun_after (effect e.reply) (begun past)

-- a transformation as it was started
pub record Started : Type 0 where
  pub spec : Spec
  pub strategy : Strategy
  pub mark : ℕ

-- the transformation that an event started, with its Mark at this place
abbrev pub started_as : Event → ℕ → Option Started → Option Started
started_as (event.Start spec strategy) mark earlier = Some (record { spec = spec; strategy = strategy; mark = mark })
started_as other mark earlier = earlier

-- the same, if the reply says that it started
abbrev pub started_by : Event → Effect → Option Started → Option Started
started_by asked (Starts mark) earlier = started_as asked mark earlier
started_by asked other earlier = earlier

-- the transformation that was started last, with the LSN of its Mark
abbrev pub started : List Entry → Option Started
started [] = None
started (e ∷ past) = started_by e.event (effect e.reply) (started past)

-- whether a conflict at the switch drains old transactions
abbrev pub drains : Option Started → Bool
drains None = false
drains (Some s) = is_blocking s.strategy

-- how far a transformation has come after a reply, where no transaction is old
abbrev pub phase_after : Option Started → Effect → Phase → Phase
phase_after s (Starts mark) phase = Scanning
phase_after s (Sees lsns last) phase = if last then Chasing else phase
phase_after s Violates phase = Chasing
phase_after s Conflicts phase = if drains s then Draining else phase
phase_after s Switches phase = Done
phase_after s Cancels phase = Idle
phase_after s other phase = phase

-- how far the transformation has come
abbrev pub phase : List Entry → Phase
phase [] = Idle
phase (e ∷ past) = phase_after (started past) (effect e.reply) (phase past)
