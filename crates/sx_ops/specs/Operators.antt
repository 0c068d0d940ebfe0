-- The operators over whole lists of rows.
use Rattle.std.specs.Prelude.{⊤, not, Bool, true, false, ℕ, List, [], ◌∷◌, map, filter, All, if◌then◌else◌, Option, Some, None, IfSome}
use Rattle.std.specs.List.{list_all, IsDistinct}
use Rattle.std.specs.Ordering.{is_lt, is_le, is_eq, is_gt, is_ge}
use Rattle.std.specs.declared.cmp.Ordering.{Ordering}
use Rattle.sx_values.specs.Names.{same_name}
use Rattle.sx_values.specs.Values.{value_cmp, values_eq}
use Rattle.sx_values.specs.Layouts.{Layout, Admits, key_of, is_null}
use Rattle.sx_values.specs.Catalogs.{schema_of}
use Rattle.sx_values.specs.declared.value.Value.{Value}
use Rattle.sx_values.specs.declared.value.Value.TheVariants.{Null}
use Rattle.sx_values.specs.declared.schema.Column.{Column}
use Rattle.sx_values.specs.declared.catalog.Declared.{Declared}
use Rattle.sx_ops.specs.declared.spec.Spec.{Spec}
use Rattle.sx_ops.specs.declared.spec.Spec.TheVariants.{Join, Split, Part, Union}
use Rattle.sx_ops.specs.declared.spec.Test.{Test}
use Rattle.sx_ops.specs.declared.spec.Cmp.{Cmp}
use Rattle.sx_ops.specs.declared.spec.Cmp.TheVariants as cmp

-- the value of the column of this name in a row
abbrev pub value_named : List Column → List ℕ → List Value → Value
value_named [] name row = Null
value_named (column ∷ columns) name [] = Null
value_named (column ∷ columns) name (value ∷ row) = if same_name column.name name then value else value_named columns name row

-- whether a comparison asks for this outcome
abbrev pub asks_for : Cmp → Ordering → Bool
asks_for cmp.Eq order = is_eq order
asks_for cmp.Ne order = not (is_eq order)
asks_for cmp.Lt order = is_lt order
asks_for cmp.Le order = is_le order
asks_for cmp.Gt order = is_gt order
asks_for cmp.Ge order = is_ge order

-- whether a comparison is true of a value: of a Null it isn't
abbrev pub is_true_of : Test → Value → Bool
is_true_of test value = if is_null value then false else asks_for test.cmp (value_cmp value test.value)

-- whether every comparison is true of a row
abbrev pub passes : List Column → List Test → List Value → Bool
passes columns tests row = list_all (λ (test : Test). is_true_of test (value_named columns test.column row)) tests

-- the rows of the horizontal split's first table, in order
abbrev pub rows_passing : List Column → List Test → List (List Value) → List (List Value)
rows_passing columns tests rows = filter (passes columns tests) rows

-- the rows of its second table: all others, in order
abbrev pub rows_failing : List Column → List Test → List (List Value) → List (List Value)
rows_failing columns tests rows = filter (λ row. not (passes columns tests row)) rows

-- whether a transformation is a vertical split
abbrev pub is_split : Spec → Bool
is_split (Join left right on_left on_right into) = false
is_split (Split table by dep rest dependent) = true
is_split (Part table tests passing failing) = false
is_split (Union left right into) = false

-- the names of a transformation's sources, in order of side
abbrev pub sources_of : Spec → List (List ℕ)
sources_of (Join left right on_left on_right into) = left ∷ right ∷ []
sources_of (Split table by dep rest dependent) = table ∷ []
sources_of (Part table tests passing failing) = table ∷ []
sources_of (Union left right into) = left ∷ right ∷ []

-- the names of its new tables, in order
abbrev pub targets_of : Spec → List (List ℕ)
targets_of (Join left right on_left on_right into) = into ∷ []
targets_of (Split table by dep rest dependent) = rest ∷ dependent ∷ []
targets_of (Part table tests passing failing) = passing ∷ failing ∷ []
targets_of (Union left right into) = into ∷ []

-- both new tables of a horizontal split, from the rows of its source
abbrev pub split_rows : List Column → List Test → List (List (List Value)) → List (List (List Value))
split_rows columns tests [] = []
split_rows columns tests (rows ∷ others) = rows_passing columns tests rows ∷ rows_failing columns tests rows ∷ []

-- the columns of a table that may be missing
abbrev pub columns_in : Option Layout → List Column
columns_in None = []
columns_in (Some schema) = schema.columns

-- the columns of the table of this name; none where there is no such table
abbrev pub columns_of : List Declared → List ℕ → List Column
columns_of catalog name = columns_in (schema_of catalog name)

-- rows that a schema admits, no two of them with one key
pub record AreRowsOf (schema : Layout) (rows : List (List Value)) : Type 0 where
  pub admitted : All (Admits schema) rows
  pub apart : IsDistinct values_eq (map (key_of schema) rows)

-- for each of these tables, in order, a list of rows that its schema admits
abbrev pub AreSourceRows : List Declared → List (List ℕ) → List (List (List Value)) → Type 0
AreSourceRows catalog [] [] = ⊤
AreSourceRows catalog (name ∷ names) (rows ∷ lists) = IfSome (schema_of catalog name) (λ schema. AreRowsOf schema rows) × AreSourceRows catalog names lists
AreSourceRows catalog [] (rows ∷ lists) = ⊥
AreSourceRows catalog (name ∷ names) [] = ⊥

-- the rows of the new tables, from the rows of each source in key order; each other operator brings its own case
abbrev pub operator : List Declared → Spec → List (List (List Value)) → List (List (List Value))
operator catalog (Part table tests passing failing) sources = split_rows (columns_of catalog table) tests sources
operator catalog (Join left right on_left on_right into) sources = []
operator catalog (Split table by dep rest dependent) sources = []
operator catalog (Union left right into) sources = []
