-- New tables whose rows no record put there.
use Rattle.std.specs.Prelude.{◌∷◌, List, [], map}
use Rattle.sx_values.specs.declared.value.Value.{Value}
use Rattle.sx_values.specs.Layouts.{Layout}
use Rattle.sx_heap.specs.declared.seen.Seen.{Seen}
use Rattle.sx_heap.specs.declared.tables.NamedTable.{NamedTable}
use Rattle.sx_heap.specs.Relations.{Relation, seen_under}
use Rattle.sx_ops.specs.declared.spec.Target.{Target}

-- the rows of a table in key order, without keys and LSNs
abbrev pub bare_rows : List Seen → List (List Value)
bare_rows rows = map (λ (s : Seen). s.row) rows

-- a table of these rows, each under LSN 0
abbrev pub fresh_table : Layout → List (List Value) → Relation
fresh_table schema rows = record { schema = schema; rows = map (seen_under schema 0) rows }

-- a table for each of these, in order, with the rows of its list
abbrev pub fresh_tables : List Target → List (List (List Value)) → List NamedTable
fresh_tables [] lists = []
fresh_tables (target ∷ targets) [] = []
fresh_tables (target ∷ targets) (rows ∷ lists) = record { name = target.name; table = fresh_table target.schema rows } ∷ fresh_tables targets lists
