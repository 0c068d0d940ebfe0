-- How a client works through its lines, by the answers that it gets. Its own entries are seen newest first.
use Rattle.std.specs.Prelude.{◌≡◌, ◌+◌, Bool, true, false, ℕ, List, [], ◌∷◌, drop, length, nat_lt, Option, Some, None, option_map, position, slice_get, if◌then◌else◌}
use Rattle.sx_journal.specs.declared.entry.Entry.{Entry}
use Rattle.sx_journal.specs.declared.entry.Event.{Event}
use Rattle.sx_journal.specs.declared.entry.Event.TheVariants.{Client}
use Rattle.sx_journal.specs.declared.entry.Reply.{Reply}
use Rattle.sx_journal.specs.declared.entry.Reply.TheVariants as reply
use Rattle.sx_journal.specs.declared.entry.Request.{Request}
use Rattle.sx_journal.specs.declared.entry.Request.TheVariants.{Commit, Undo}
use Rattle.sx_journal.specs.declared.entry.What.{What}
use Rattle.sx_journal.specs.declared.entry.What.TheVariants.{Ask, Abort}
use Rattle.sx_journal.specs.declared.course.Command.{Command}
use Rattle.sx_journal.specs.declared.course.Standing.{Standing}
use Rattle.sx_journal.specs.declared.course.Standing.TheVariants.{AtLine, GaveUp}

-- what a client works through, how often it repeats a request that was held, and how far it has come
pub record Progress : Type 0 where
  pub commands : List Command
  pub retries : ℕ
  pub standing : Standing

-- whether an answer lets a client ask the same again
unfoldable pub is_held : Reply → Bool
is_held (reply.Held by) = true
is_held reply.Draining = true
is_held other = false

-- whether an answer makes a client give up at once
unfoldable pub is_doomed : Reply → Bool
is_doomed reply.Doomed = true
is_doomed other = false

-- whether an answer to Undo says that nothing is left to undo
unfoldable pub is_aborted : Reply → Bool
is_aborted (reply.Aborted lsn) = true
is_aborted other = false

-- whether an answer to Undo ends the line `abort`
unfoldable pub ends_abort : Reply → Bool
ends_abort (reply.Aborted lsn) = true
ends_abort reply.NoTxn = true
ends_abort other = false

-- whether a request is Commit
unfoldable pub is_commit : Request → Bool
is_commit Commit = true
is_commit other = false

-- whether a line ends a transaction: a commit or an abort
abbrev pub ends_transaction : What → Bool
ends_transaction (Ask asked) = is_commit asked
ends_transaction Abort = true

-- the number of lines up to and including the first that was found, or of all
abbrev pub up_to : Option ℕ → ℕ → ℕ
up_to (Some index) all = index + 1
up_to None all = all

-- how many of these lines a client passes over that gave up the first: up to and including the first that ends a transaction, or all
abbrev pub passed_over : List Command → ℕ
passed_over commands = up_to (position (λ (c : Command). ends_transaction c.what) commands) (length commands)

-- a request is repeated while it is held and repeats are left, else given up; behind any other answer the next line comes
abbrev pub after_ask : (retries index held : ℕ) → Reply → Standing
after_ask retries index held answer =
    if is_held answer then (if nat_lt held retries then AtLine index (held + 1) else GaveUp index)
    else if is_doomed answer then GaveUp index else AtLine (index + 1) 0

-- the line `abort` is Undo until the transaction has ended
abbrev pub after_abort : ℕ → Reply → Standing
after_abort index answer = if ends_abort answer then AtLine (index + 1) 0 else AtLine index 0

-- where a client stands after the answer to a line's request
abbrev pub after_what : What → (retries index held : ℕ) → Reply → Standing
after_what (Ask asked) retries index held answer = after_ask retries index held answer
after_what Abort retries index held answer = after_abort index answer

-- the same, if there is such a line
abbrev pub after_line : Option Command → (retries index held : ℕ) → Reply → Standing
after_line None retries index held answer = AtLine index held
after_line (Some command) retries index held answer = after_what command.what retries index held answer

-- a client that gave up undoes until the end, and then passes over the rest of its transaction's lines
abbrev pub after_undo : List Command → ℕ → Reply → Standing
after_undo commands index answer = if is_aborted answer then AtLine (index + passed_over (drop index commands)) 0 else GaveUp index

-- where a client stands after an answer
abbrev pub standing_after : List Command → ℕ → Standing → Reply → Standing
standing_after commands retries (AtLine index held) answer = after_line (slice_get commands index) retries index held answer
standing_after commands retries (GaveUp index) answer = after_undo commands index answer

-- where a client stands by its own entries
abbrev pub standing_by : List Command → ℕ → List Entry → Standing
standing_by commands retries [] = AtLine 0 0
standing_by commands retries (e ∷ past) = standing_after commands retries (standing_by commands retries past) e.reply

-- the request of a line
abbrev pub request_of : What → Request
request_of (Ask asked) = asked
request_of Abort = Undo

-- the client's next request; none where its lines are worked through
abbrev pub next_at : List Command → Standing → Option Request
next_at commands (AtLine index held) = option_map (λ (c : Command). request_of c.what) (slice_get commands index)
next_at commands (GaveUp index) = Some Undo

-- the next request by a client's own entries
abbrev pub next_by : List Command → ℕ → List Entry → Option Request
next_by commands retries own = next_at commands (standing_by commands retries own)

-- the line's place in the script, or 0 where there is none
abbrev pub place_of : Option Command → ℕ
place_of None = 0
place_of (Some command) = command.line

-- the index of the line where a client stands, or which it gave up
abbrev pub index_of : Standing → ℕ
index_of (AtLine index held) = index
index_of (GaveUp index) = index

-- the place of that line
abbrev pub line_at : List Command → Standing → ℕ
line_at commands standing = place_of (slice_get commands (index_of standing))

-- an event is the client's next request
pub record IsNext (progress : Progress) (event : Event) : Type 0 where
  pub asked : Request
  pub next : next_at progress.commands progress.standing ≡ Some asked
  pub is : event ≡ Client asked
