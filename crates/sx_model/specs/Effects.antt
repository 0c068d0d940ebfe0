-- What a reply does, in short: every word about journals goes by this summary.
use Rattle.std.specs.Prelude.{Bool, ℕ, List}
use Rattle.sx_journal.specs.declared.entry.Reply.{Reply}
use Rattle.sx_journal.specs.declared.entry.Reply.TheVariants as reply

-- what an answer does to the log, the transactions and the transformation
pub data Effect : Type 0 where
  -- a refusal, or an answer that tells something and changes nothing
  Nothing : Effect
  -- a row was read, or it was seen that there is none
  Reads : Effect
  Begins : (txn : ℕ) → Effect
  Writes : Effect
  Undoes : Effect
  Commits : Effect
  Aborts : Effect
  -- a transformation started, with its Mark at this place
  Starts : (mark : ℕ) → Effect
  -- a scan turn saw the rows of these LSNs, and it was the last or not
  Sees : (lsns : List ℕ) (last : Bool) → Effect
  -- the log was handed out up to this place
  Fetches : (place : ℕ) → Effect
  Checks : Effect
  Conflicts : Effect
  Violates : Effect
  Switches : Effect
  Cancels : Effect

-- what each answer does
unfoldable pub effect : Reply → Effect
effect (reply.Begun txn) = Begins txn
effect (reply.Row row) = Reads
effect reply.Absent = Reads
effect (reply.Done lsn) = Writes
effect (reply.Committed lsn) = Commits
effect (reply.Undone lsn) = Undoes
effect (reply.Aborted lsn) = Aborts
effect (reply.Started lsn) = Starts lsn
effect (reply.Scanned side lsns last) = Sees lsns last
effect (reply.Fetched from to) = Fetches to
effect (reply.Agree lsn) = Checks
effect (reply.Switched lsn) = Switches
effect (reply.Conflict txn) = Conflicts
effect (reply.Violated first second) = Violates
effect reply.Cancelled = Cancels
effect other = Nothing
