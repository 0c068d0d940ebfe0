-- The readings of a scan turn, as a copy learns them.
use Rattle.std.specs.Prelude.{List, [], ◌∷◌, Option, if◌then◌else◌}
use Rattle.sx_values.specs.declared.value.Value.{Value}
use Rattle.sx_values.specs.Values.{values_eq}
use Rattle.sx_log.specs.State.{Stored}
use Rattle.sx_log.specs.Copies.{after_reading}
use Rattle.sx_heap.specs.declared.seen.Seen.{Seen}

-- what a key has in the copy behind a reading
abbrev pub learnt : Seen → List Value → Option Stored → Option Stored
learnt seen key known = if values_eq seen.key key then after_reading (seen.row, seen.lsn) known else known

-- what a key has in the copy behind these readings, taken in order
abbrev pub merged : List Seen → List Value → Option Stored → Option Stored
merged [] key known = known
merged (seen ∷ readings) key known = merged readings key (learnt seen key known)
