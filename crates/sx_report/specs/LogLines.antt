-- The line of a record of the log: its LSN, whose it is, and what it tells; the values stand last.
use Rattle.std.specs.Prelude.{◌++◌, ℕ, List, [], ◌∷◌, codes, decimal, Option, Some, None}
use Rattle.sx_values.specs.declared.value.Value.{Value}
use Rattle.sx_log.specs.declared.record.Rec.{Rec}
use Rattle.sx_log.specs.declared.record.Body.{Body}
use Rattle.sx_log.specs.declared.record.Body.TheVariants as body
use Rattle.sx_text.specs.Records.{record_text}
use Rattle.sx_report.specs.Words.{lines_of}

-- the image behind a record: the row of a key, or that it's gone
unfoldable pub image_text : List ℕ → List Value → Option (List Value) → List ℕ
image_text table key None = codes "del " ++ table ++ 32 ∷ record_text key
image_text table key (Some row) = codes "put " ++ table ++ 32 ∷ record_text row

-- what a record tells
unfoldable pub body_text : Body → List ℕ
body_text (body.Write table key before after) = image_text table key after
body_text (body.Undo undoes table key before after) = codes "back " ++ decimal undoes ++ 32 ∷ image_text table key after
body_text body.Commit = codes "commit"
body_text body.Abort = codes "abort"
body_text body.Mark = codes "mark"
body_text (body.Check group dep) = codes "check " ++ record_text (group ++ dep)
body_text body.Switch = codes "switch"

-- whose a record is: the propagator's, or a transaction's by its number
unfoldable pub owner_text : ℕ → Body → List ℕ
owner_text txn body.Mark = codes "p"
owner_text txn (body.Check group dep) = codes "p"
owner_text txn body.Switch = codes "p"
owner_text txn other = decimal txn

-- the line of the record of this LSN
unfoldable pub log_line : ℕ → Rec → List ℕ
log_line lsn r = decimal lsn ++ 32 ∷ owner_text r.txn r.body ++ 32 ∷ body_text r.body ++ 10 ∷ []

-- the lines of a log that is seen newest first
abbrev pub log_lines : List Rec → List ℕ
log_lines log = lines_of log_line log
