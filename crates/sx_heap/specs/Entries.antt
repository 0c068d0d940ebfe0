-- The rows of a map from keys to rows with their LSNs.
use Rattle.std.specs.Prelude.{ℕ, List, map}
use Rattle.sx_values.specs.declared.value.Value.{Value}
use Rattle.sx_values.specs.Layouts.{Layout, key_of}
use Rattle.sx_heap.specs.declared.seen.Seen.{Seen}
use Rattle.sx_heap.specs.declared.table.Stamped.{Stamped}

-- an entry as a row with its key
abbrev pub seen_of : List Value × Stamped → Seen
seen_of entry = record { key = entry.0; row = entry.1.row; lsn = entry.1.lsn }

-- the rows of a map's entries, in order
abbrev pub rows_of : List (List Value × Stamped) → List Seen
rows_of entries = map seen_of entries

-- the entry of a row under this LSN
abbrev pub entry_under : Layout → ℕ → List Value → List Value × Stamped
entry_under layout lsn row = (key_of layout row, record { row = row; lsn = lsn })
