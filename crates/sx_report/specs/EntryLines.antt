-- The line of an entry of the journal: its number, who acted, what was asked and what was answered; the values stand last.
use Rattle.std.specs.Prelude.{◌++◌, ℕ, List, [], ◌∷◌, codes, decimal, Option, Some, None, unwrap_or, if◌then◌else◌}
use Rattle.sx_values.specs.declared.value.Value.{Value}
use Rattle.sx_values.specs.declared.schema.BadRow.{BadRow}
use Rattle.sx_values.specs.declared.schema.BadRow.TheVariants as bad
use Rattle.sx_journal.specs.declared.entry.Request.{Request}
use Rattle.sx_journal.specs.declared.entry.Request.TheVariants as request
use Rattle.sx_journal.specs.declared.entry.Event.{Event}
use Rattle.sx_journal.specs.declared.entry.Event.TheVariants as event
use Rattle.sx_journal.specs.declared.entry.Reply.{Reply}
use Rattle.sx_journal.specs.declared.entry.Reply.TheVariants as reply
use Rattle.sx_journal.specs.declared.entry.Entry.{Entry}
use Rattle.sx_report.specs.Words.{numbers_text, ending_text, actor_text, lines_of}

-- what a client asks, up to its values
unfoldable pub request_text : Request → List ℕ
request_text request.Begin = codes "begin"
request_text (request.Read table key) = codes "read " ++ table
request_text (request.Insert table row) = codes "insert " ++ table
request_text (request.Update table row) = codes "update " ++ table
request_text (request.Delete table key) = codes "delete " ++ table
request_text request.Commit = codes "commit"
request_text request.Undo = codes "undo"

-- what is asked, up to its values
unfoldable pub event_text : Event → List ℕ
event_text (event.Client asked) = request_text asked
event_text (event.Start spec strategy) = codes "start"
event_text (event.Scan n) = codes "scan " ++ decimal n
event_text (event.Fetch n) = codes "fetch " ++ decimal n
event_text (event.Check group) = codes "check"
event_text event.Switch = codes "switch"
event_text event.Cancel = codes "cancel"

-- the row or the key that a client asks about
unfoldable pub requested : Request → Option (List Value)
requested request.Begin = None
requested (request.Read table key) = Some key
requested (request.Insert table row) = Some row
requested (request.Update table row) = Some row
requested (request.Delete table key) = Some key
requested request.Commit = None
requested request.Undo = None

-- the row, the key or the group that is asked about
unfoldable pub asked : Event → Option (List Value)
asked (event.Client of_client) = requested of_client
asked (event.Start spec strategy) = None
asked (event.Scan n) = None
asked (event.Fetch n) = None
asked (event.Check group) = Some group
asked event.Switch = None
asked event.Cancel = None

-- why a row is bad
unfoldable pub bad_word : BadRow → List ℕ
bad_word bad.Width = codes "badrow width"
bad_word (bad.Kind column) = codes "badrow kind"
bad_word (bad.Null column) = codes "badrow null"
bad_word bad.AllNull = codes "badrow allnull"

-- the word of a refusal of a client's request
unfoldable pub refusal_word : Reply → List ℕ
refusal_word reply.NoTxn = codes "notxn"
refusal_word reply.Already = codes "already"
refusal_word reply.Ending = codes "ending"
refusal_word reply.Doomed = codes "doomed"
refusal_word reply.NoTable = codes "notable"
refusal_word reply.Hidden = codes "hidden"
refusal_word reply.Gone = codes "gone"
refusal_word reply.Draining = codes "draining"
refusal_word reply.Closed = codes "closed"
refusal_word (reply.Held by) = codes "held"
refusal_word reply.Exists = codes "exists"
refusal_word reply.Missing = codes "missing"
refusal_word (reply.BadRow why) = bad_word why
refusal_word other = []

-- the word of a reply
unfoldable pub reply_word : Reply → List ℕ
reply_word (reply.Begun txn) = codes "begun"
reply_word (reply.Row row) = codes "row"
reply_word reply.Absent = codes "absent"
reply_word (reply.Done lsn) = codes "done"
reply_word (reply.Committed lsn) = codes "committed"
reply_word (reply.Undone lsn) = codes "undone"
reply_word (reply.Aborted lsn) = codes "aborted"
reply_word (reply.Started lsn) = codes "started"
reply_word reply.Running = codes "running"
reply_word reply.Spent = codes "spent"
reply_word (reply.BadSpec fault) = codes "badspec"
reply_word (reply.Scanned side lsns last) = if last then codes "end" else codes "more"
reply_word reply.ScanOver = codes "scanover"
reply_word (reply.Fetched from to) = codes "fetched"
reply_word (reply.Agree lsn) = codes "agree"
reply_word (reply.Disagree first second) = codes "disagree"
reply_word reply.Empty = codes "empty"
reply_word reply.NotSplit = codes "notsplit"
reply_word (reply.Switched lsn) = codes "switched"
reply_word reply.NoTransform = codes "notransform"
reply_word reply.NotScanned = codes "notscanned"
reply_word (reply.Unread pos end) = codes "unread"
reply_word (reply.Conflict txn) = codes "conflict"
reply_word (reply.Violated first second) = codes "violated"
reply_word reply.Cancelled = codes "cancelled"
reply_word other = refusal_word other

-- the side of a scan turn, before the word of its reply
unfoldable pub side_text : Reply → List ℕ
side_text (reply.Scanned side lsns last) = 32 ∷ decimal side
side_text other = []

-- the column of a bad row
unfoldable pub bad_numbers : BadRow → List ℕ
bad_numbers bad.Width = []
bad_numbers (bad.Kind column) = column ∷ []
bad_numbers (bad.Null column) = column ∷ []
bad_numbers bad.AllNull = []

-- the numbers that a reply tells behind its word
unfoldable pub reply_numbers : Reply → List ℕ
reply_numbers (reply.Begun txn) = txn ∷ []
reply_numbers (reply.Done lsn) = lsn ∷ []
reply_numbers (reply.Committed lsn) = lsn ∷ []
reply_numbers (reply.Undone lsn) = lsn ∷ []
reply_numbers (reply.Aborted lsn) = lsn ∷ []
reply_numbers (reply.BadRow why) = bad_numbers why
reply_numbers (reply.Held by) = by ∷ []
reply_numbers (reply.Started lsn) = lsn ∷ []
reply_numbers (reply.Scanned side lsns last) = lsns
reply_numbers (reply.Fetched from to) = from ∷ to ∷ []
reply_numbers (reply.Agree lsn) = lsn ∷ []
reply_numbers (reply.Switched lsn) = lsn ∷ []
reply_numbers (reply.Unread pos end) = pos ∷ end ∷ []
reply_numbers (reply.Conflict txn) = txn ∷ []
reply_numbers other = []

-- the values that end the line: what was asked about, but for a row that was read and for keys at fault
unfoldable pub told : Event → Reply → Option (List Value)
told event (reply.Row row) = Some row
told event (reply.Disagree first second) = Some (unwrap_or (asked event) [] ++ first ++ second)
told event (reply.Violated first second) = Some (first ++ second)
told event other = asked event

-- an answer, between what is asked and the values
unfoldable pub reply_text : Reply → List ℕ
reply_text answer = side_text answer ++ 32 ∷ reply_word answer ++ numbers_text (reply_numbers answer)

-- the line of the entry of this number
unfoldable pub entry_line : ℕ → Entry → List ℕ
entry_line number e =
    decimal number ++ 32 ∷ actor_text e.actor ++ 32 ∷ event_text e.event ++ reply_text e.reply ++ ending_text (told e.event e.reply) ++ 10 ∷ []

-- the lines of a journal that is seen newest first
abbrev pub journal_lines : List Entry → List ℕ
journal_lines past = lines_of entry_line past
