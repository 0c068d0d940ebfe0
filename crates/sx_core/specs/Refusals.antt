-- What a client's read or change is refused with by its table's name, state and schema, and what the manager's answers tell.
use Rattle.std.specs.Prelude.{ℕ, List, Option, Some, None, option_map}
use Rattle.sx_values.specs.declared.value.Value.{Value}
use Rattle.sx_values.specs.declared.schema.BadRow.{BadRow}
use Rattle.sx_lists.specs.Answers.{or_later}
use Rattle.sx_values.specs.Layouts.{Layout, row_fault, key_fault}
use Rattle.sx_values.specs.Catalogs.{schema_of}
use Rattle.sx_model.specs.Known.{known}
use Rattle.sx_core.specs.Machines.{Machine}
use Rattle.sx_txn.specs.declared.answers.Change.{Change}
use Rattle.sx_txn.specs.declared.answers.Change.TheVariants.{Insert, Replace, Delete}
use Rattle.sx_txn.specs.declared.answers.TxnRead.{TxnRead}
use Rattle.sx_txn.specs.declared.answers.TxnRead.TheVariants as read
use Rattle.sx_txn.specs.declared.answers.TxnWrite.{TxnWrite}
use Rattle.sx_txn.specs.declared.answers.TxnWrite.TheVariants as write
use Rattle.sx_journal.specs.declared.entry.Reply.{Reply}
use Rattle.sx_journal.specs.declared.entry.Reply.TheVariants as reply

-- the schema of the table that a name means now
abbrev pub known_schema : Machine → List ℕ → Option Layout
known_schema m table = schema_of (known m.opening m.past) table

-- a key of a table without a name, of one that is closed to the transaction, or one that the schema doesn't admit
abbrev pub key_refused : Option Layout → Option Reply → List Value → Option Reply
key_refused None shut key = Some reply.NoTable
key_refused (Some layout) shut key = or_later shut (option_map reply.BadRow (key_fault layout key))

-- why a schema doesn't admit a change
abbrev pub change_fault : Layout → Change → Option BadRow
change_fault layout (Insert row) = row_fault layout row
change_fault layout (Replace row) = row_fault layout row
change_fault layout (Delete key) = key_fault layout key

-- the same of a change
abbrev pub change_refused : Option Layout → Option Reply → Change → Option Reply
change_refused None shut change = Some reply.NoTable
change_refused (Some layout) shut change = or_later shut (option_map reply.BadRow (change_fault layout change))

-- what the manager's answer to a read tells
abbrev pub read_told : TxnRead → Reply
read_told (read.Row row) = reply.Row row
read_told read.Absent = reply.Absent
read_told (read.Held by) = reply.Held by

-- what the manager's answer to a change tells
abbrev pub write_told : TxnWrite → Reply
write_told (write.Done lsn) = reply.Done lsn
write_told (write.Held by) = reply.Held by
write_told write.Exists = reply.Exists
write_told write.Missing = reply.Missing
