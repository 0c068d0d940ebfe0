-- The answers to a fetch of the next records.
use Rattle.std.specs.Prelude.{◌+◌, ℕ, List, length, min}
use Rattle.sx_sync.specs.declared.Phase.{Phase}
use Rattle.sx_sync.specs.declared.Phase.TheVariants.{Idle, Scanning, Chasing, Draining, Late, Done}
use Rattle.sx_journal.specs.declared.entry.Entry.{Entry}
use Rattle.sx_journal.specs.declared.entry.Reply.{Reply}
use Rattle.sx_journal.specs.declared.entry.Reply.TheVariants as reply
use Rattle.sx_model.specs.Openings.{Opening}
use Rattle.sx_model.specs.Leaves.{phase}
use Rattle.sx_model.specs.Logs.{log_of}
use Rattle.sx_model.specs.Switches.{position}

-- at most n records from a position on, as many as the log has
abbrev pub fetched : ℕ → ℕ → ℕ → Reply
fetched position end n = reply.Fetched position (min (position + n) end)

-- a fetch is answered by the phase: only a scan that has ended lets it go on
abbrev pub fetch_in : Opening → List Entry → ℕ → Phase → Reply
fetch_in o past n Idle = reply.NoTransform
fetch_in o past n Scanning = reply.NotScanned
fetch_in o past n Chasing = fetched (position o past) (length (log_of o past)) n
fetch_in o past n Draining = fetched (position o past) (length (log_of o past)) n
fetch_in o past n Late = reply.NoTransform
fetch_in o past n Done = reply.NoTransform

-- the answer to a fetch of at most n records
abbrev pub fetch_reply : Opening → List Entry → ℕ → Reply
fetch_reply o past n = fetch_in o past n (phase past)
