-- The source of a transformation among the tables.
use Rattle.std.specs.Prelude.{ℕ, List, Option, Some, None}
use Rattle.sx_values.specs.declared.value.Value.{Value}
use Rattle.sx_heap.specs.declared.tables.NamedTable.{NamedTable}
use Rattle.sx_heap.specs.declared.walk.Walked.{Walked}
use Rattle.sx_heap.specs.NamedTables.{table_named}
use Rattle.sx_heap.specs.Relations.{Relation, IsRelation}
use Rattle.sx_heap.specs.Walks.{WalksOn}
use Rattle.sx_ops.specs.declared.spec.Spec.{Spec}
use Rattle.sx_ops.specs.declared.spec.Spec.TheVariants.{Join, Split, Part, Union}

-- the table of a horizontal split's source, if it's there; each other operator brings its own case
abbrev pub source_among : List NamedTable → Spec → Option Relation
source_among tables (Part table tests passing failing) = table_named tables table
source_among tables (Join left right on_left on_right into) = None
source_among tables (Split table by dep rest dependent) = None
source_among tables (Union left right into) = None

-- the same of a transformation that may not have started
abbrev pub source_table : Option Spec → List NamedTable → Option Relation
source_table None tables = None
source_table (Some spec) tables = source_among tables spec

-- a walk in a table behind a cursor
pub record WalksIn (cursor : Option (List Value)) (n : ℕ) (walked : Walked) (source : Relation) : Type 0 where
  pub relation : IsRelation source
  pub walks : WalksOn source.rows cursor n walked
