-- Tables by name.
use Rattle.std.specs.Prelude.{◌≡◌, ℕ, List, [], ◌∷◌, map, Option, Some, None, position, IsSome, IsSomeAnd, if◌then◌else◌}
use denote.Ref.{Bor}
use Rattle.std.specs.List.{IsDistinct}
use Rattle.sx_values.specs.Names.{same_name}
use Rattle.sx_values.specs.declared.value.Value.{Value}
use Rattle.sx_values.specs.Layouts.{Admits, key_of}
use Rattle.sx_heap.specs.Relations.{Relation, SetsRow, row_at}
use Rattle.sx_heap.specs.declared.tables.NamedTable.{NamedTable}

-- the names of tables, in order
abbrev pub names_of_tables : List NamedTable → List (List ℕ)
names_of_tables tables = map (λ (t : NamedTable). t.name) tables

-- no two of these tables have one name
abbrev pub AreNamedApart : List NamedTable → Type 0
AreNamedApart tables = IsDistinct same_name (names_of_tables tables)

-- the table of a name, if it's there
abbrev pub table_named : List NamedTable → List ℕ → Option Relation
table_named [] name = None
table_named (t ∷ tables) name = if same_name t.name name then Some t.table else table_named tables name

-- the index of a name, if it's there
abbrev pub index_named : List NamedTable → List ℕ → Option ℕ
index_named tables name = position (λ (t : NamedTable). same_name t.name name) tables

-- another table under a name; the other names keep theirs
abbrev pub with_table : List NamedTable → List ℕ → Relation → List NamedTable
with_table [] name table = []
with_table (t ∷ tables) name table = if same_name t.name name then record { name = t.name; table = table } ∷ tables else t ∷ with_table tables name table

-- what a reference to a name and one to a table show
abbrev pub named_pair : Bor (List ℕ) × Bor Relation → NamedTable
named_pair pair = record { name = pair.0.now; table = pair.1.now }

-- the table admits the row, whose key this is
pub record CanHold (key row : List Value) (table : Relation) : Type 0 where
  pub admitted : Admits table.schema row
  pub keyed : key ≡ key_of table.schema row

-- the table admits the row and lacks its key
pub record LacksKeyOf (row : List Value) (table : Relation) : Type 0 where
  pub admitted : Admits table.schema row
  pub absent : row_at table.rows (key_of table.schema row) ≡ None

-- the table admits the row and has a row of its key
pub record HasKeyOf (row : List Value) (table : Relation) : Type 0 where
  pub admitted : Admits table.schema row
  pub there : IsSome (row_at table.rows (key_of table.schema row))

-- the table admits the row, whose key this is, and has a row of it
pub record HasThisKeyOf (key row : List Value) (table : Relation) : Type 0 where
  pub admitted : Admits table.schema row
  pub keyed : key ≡ key_of table.schema row
  pub there : IsSome (row_at table.rows key)

-- the table of this name was this one, and has now this row at the key, or none; all else stays
pub record SetsRowIn (old new : List NamedTable) (name : List ℕ) (before : Relation) (key : List Value) (image : Option (List Value × ℕ)) : Type 0 where
  pub after : Relation
  pub sets : SetsRow before after key image
  pub others : new ≡ with_table old name after

-- the table of this name has now this row at its key; all else stays
abbrev pub PutsRowIn : List NamedTable → List NamedTable → List ℕ → List Value → ℕ → Type 0
PutsRowIn old new name row lsn =
    IsSomeAnd (table_named old name) (λ before. SetsRowIn old new name before (key_of before.schema row) (Some (row, lsn)))

-- the table of this name lacks now the key; all else stays
abbrev pub RemovesRowIn : List NamedTable → List NamedTable → List ℕ → List Value → Type 0
RemovesRowIn old new name key = IsSomeAnd (table_named old name) (λ before. SetsRowIn old new name before key None)
