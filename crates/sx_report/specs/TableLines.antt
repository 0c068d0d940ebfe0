-- The lines of tables: the name, and the rows in order.
use Rattle.std.specs.Prelude.{◌++◌, ℕ, List, [], ◌∷◌, codes, map}
use Rattle.std.specs.List.{AllByRecursion}
use Rattle.sx_values.specs.declared.value.Value.{Value}
use Rattle.sx_heap.specs.declared.seen.Seen.{Seen}
use Rattle.sx_heap.specs.Relations.{IsRelation}
use Rattle.sx_heap.specs.declared.tables.NamedTable.{NamedTable}
use Rattle.sx_text.specs.Records.{record_text}

-- the line of a row
unfoldable pub row_line : List ℕ → List Value → List ℕ
row_line name row = codes "row " ++ name ++ 32 ∷ record_text row ++ 10 ∷ []

-- a line for each row
abbrev pub row_lines : List ℕ → List (List Value) → List ℕ
row_lines name [] = []
row_lines name (row ∷ rows) = row_line name row ++ row_lines name rows

-- the lines of a table
abbrev pub table_text : List ℕ → List (List Value) → List ℕ
table_text name rows = codes "table " ++ name ++ 10 ∷ row_lines name rows

-- the rows of a table, in key order
abbrev pub rows_in : NamedTable → List (List Value)
rows_in t = map (λ (s : Seen). s.row) t.table.rows

-- the lines of tables, in order
abbrev pub tables_text : List NamedTable → List ℕ
tables_text [] = []
tables_text (t ∷ tables) = table_text t.name (rows_in t) ++ tables_text tables

-- tables whose rows stand in key order, one for each key
abbrev pub AreRelations : List NamedTable → Type 0
AreRelations tables = AllByRecursion (λ (t : NamedTable). IsRelation t.table) tables
