-- The catalog of tables: their names, schemas and indexes.
use Rattle.std.specs.Prelude.{◌≤◌, ◌++◌, Bool, false, not, IsTrue, ℕ, List, [], ◌∷◌, length, map, option_map, Option, Some, None, All, is_some, nat_le, if◌then◌else◌}
use Rattle.std.specs.List.{list_any, list_all, IsDistinct}
use Rattle.std.specs.Cmp.Lexicographic.{pointwise}
use Rattle.sx_values.specs.Names.{same_name, has_name}
use Rattle.sx_values.specs.Layouts.{Layout, IsLayout}
use Rattle.sx_values.specs.SchemaFaults.{names_of, IsDeclarable}
use Rattle.sx_values.specs.declared.schema.Column.{Column}
use Rattle.sx_values.specs.declared.catalog.Declared.{Declared}
use Rattle.sx_values.specs.declared.catalog.CatalogFault.{CatalogFault}
use Rattle.sx_values.specs.declared.catalog.CatalogFault.TheVariants as fault

-- the table of this name, if there is one
abbrev pub declared_as : List Declared → List ℕ → Option Declared
declared_as [] name = None
declared_as (table ∷ tables) name = if same_name table.name name then Some table else declared_as tables name

-- the schema of the table of this name, if there is one
abbrev pub schema_of : List Declared → List ℕ → Option Layout
schema_of tables name = option_map (λ (t : Declared). t.schema) (declared_as tables name)

-- the names of the tables, in order
abbrev pub table_names : List Declared → List (List ℕ)
table_names tables = map (λ (t : Declared). t.name) tables

-- whether two lists of names are one
abbrev pub same_names : List (List ℕ) → List (List ℕ) → Bool
same_names names others = pointwise same_name names others

-- whether each of these names is that of a column
abbrev pub has_columns : Layout → List (List ℕ) → Bool
has_columns layout columns = list_all (has_name (names_of layout.columns)) columns

-- whether a table has an index on these columns, in this order
abbrev pub is_indexed_by : List (List ℕ) → Declared → Bool
is_indexed_by columns table = list_any (same_names columns) table.indexes

-- whether the table of this name was declared
abbrev pub is_source : List Declared → List ℕ → Bool
is_source tables name = elim (declared_as tables name) [ None ↦ false | Some table ↦ table.source ]

-- the schema of a table that may be the source of a transformation
abbrev pub source_schema : List Declared → List ℕ → Option Layout
source_schema tables name = if is_source tables name then schema_of tables name else None

-- the fault of a table that is adopted under this name, but for want of memory
abbrev pub adopt_fault : List Declared → List ℕ → Option CatalogFault
adopt_fault tables name = if is_some (declared_as tables name) then Some fault.Taken else None

-- the fault of a table that is declared under this name, but for want of memory
abbrev pub declare_fault : List Declared → List ℕ → Option CatalogFault
declare_fault tables name =
    if is_some (declared_as tables name) then Some fault.Taken
    else if nat_le 16 (length tables) then Some fault.Many
    else None

-- the fault of a new index on these columns of a table, but for want of memory
abbrev pub table_index_fault : List (List ℕ) → Option Declared → Option CatalogFault
table_index_fault columns None = Some fault.NoTable
table_index_fault columns (Some table) =
    if not (has_columns table.schema columns) then Some fault.NoColumn
    else if is_indexed_by columns table then Some fault.Taken
    else if nat_le 4 (length table.indexes) then Some fault.Many
    else None

-- the fault of a new index, but for want of memory
abbrev pub index_fault : List Declared → List ℕ → List (List ℕ) → Option CatalogFault
index_fault tables name columns = table_index_fault columns (declared_as tables name)

-- a table with one more index, on these columns
abbrev pub with_index : List (List ℕ) → Declared → Declared
with_index columns table = record table { indexes = table.indexes ++ columns ∷ [] }

-- the tables with one more index of the table of this name
abbrev pub indexed : List Declared → List ℕ → List (List ℕ) → List Declared
indexed [] name columns = []
indexed (table ∷ tables) name columns =
    if same_name table.name name then with_index columns table ∷ tables
    else table ∷ indexed tables name columns

-- whether the table of this name has an index on these columns, in this order
abbrev pub has_index : List Declared → List ℕ → List (List ℕ) → Bool
has_index tables name columns = elim (declared_as tables name) [ None ↦ false | Some table ↦ is_indexed_by columns table ]

-- column names to which two bytes can be added
abbrev pub HasShortNames : Layout → Type 0
HasShortNames layout = All (λ (c : Column). length c.name ≤ 30) layout.columns

-- a table with indexes on columns of its own; one that was declared has few columns with short names
pub record IsTable (table : Declared) : Type 0 where
  pub layout : IsLayout table.schema
  pub declarable : IsTrue table.source → IsDeclarable table.schema
  pub short_names : IsTrue table.source → HasShortNames table.schema
  pub own_columns : IsTrue (list_all (has_columns table.schema) table.indexes)

-- tables whose names differ
pub record IsCatalog (tables : List Declared) : Type 0 where
  pub distinct : IsDistinct same_name (table_names tables)
  pub sound : All IsTable tables
