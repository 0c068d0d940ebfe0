-- Columns, keys and the rows that a schema admits.
use Rattle.std.specs.Prelude.{◌≡◌, ◌+◌, ◌≤◌, ◌<◌, ◌==◌, Bool, true, false, ℕ, List, [], ◌∷◌, length, map, get_or, All, Option, Some, None, nat_eq, slice_get, if◌then◌else◌}
use Rattle.std.specs.List.{list_all, filter_map, IsDistinct}
use Rattle.sx_lists.specs.Answers.{or_later}
use Rattle.sx_values.specs.declared.value.Value.{Value}
use Rattle.sx_values.specs.declared.value.Value.TheVariants.{Null, Int, Text}
use Rattle.sx_values.specs.declared.schema.Kind.{Kind}
use Rattle.sx_values.specs.declared.schema.Kind.TheVariants as kind
use Rattle.sx_values.specs.declared.schema.Column.{Column}
use Rattle.sx_values.specs.declared.schema.BadRow.{BadRow}
use Rattle.sx_values.specs.declared.schema.BadRow.TheVariants as bad

-- what a contract sees of a schema: its columns, and the places of its key's columns, counted from 0
pub record Layout : Type 0 where
  pub columns : List Column
  pub key : List ℕ

-- the values at these places of a row
abbrev pub projected : List ℕ → List Value → List Value
projected places row = map (λ place. get_or row place Null) places

-- the key of a row
abbrev pub key_of : Layout → List Value → List Value
key_of layout row = projected layout.key row

-- whether a kind is that of numbers
abbrev pub is_int : Kind → Bool
is_int kind.Int = true
is_int kind.Text = false

abbrev pub is_null : Value → Bool
is_null Null = true
is_null (Int i) = false
is_null (Text t) = false

-- the fault of a value in a column of this number from 1: another kind, or a Null that the column doesn't take
abbrev pub value_fault : ℕ → Column → Value → Option BadRow
value_fault number column Null = if column.nullable then None else Some (bad.Null number)
value_fault number column (Int i) = if is_int column.kind then None else Some (bad.Kind number)
value_fault number column (Text t) = if is_int column.kind then Some (bad.Kind number) else None

-- the first fault of the values in their columns, of which the first has this number
abbrev pub first_fault : ℕ → List Column → List Value → Option BadRow
first_fault number [] values = None
first_fault number (column ∷ columns) [] = None
first_fault number (column ∷ columns) (value ∷ values) = or_later (value_fault number column value) (first_fault (number + 1) columns values)

-- the fault of a key whose values are all Null
abbrev pub all_null_fault : List Value → Option BadRow
all_null_fault key = if list_all is_null key then Some bad.AllNull else None

-- the first fault of values in these columns, with the key among them: the width, then the columns in order, then the key
abbrev pub values_fault : List Column → List Value → List Value → Option BadRow
values_fault columns values key =
    if length values == length columns then or_later (first_fault 1 columns values) (all_null_fault key) else Some bad.Width

-- the first fault of a row
abbrev pub row_fault : Layout → List Value → Option BadRow
row_fault layout row = values_fault layout.columns row (key_of layout row)

-- the columns of a schema's key, in key order
abbrev pub key_columns : Layout → List Column
key_columns layout = filter_map (slice_get layout.columns) layout.key

-- the first fault of a key, whose columns are counted within the key
abbrev pub key_fault : Layout → List Value → Option BadRow
key_fault layout key = values_fault (key_columns layout) key key

-- a row without a fault
abbrev pub Admits : Layout → List Value → Type 0
Admits layout row = row_fault layout row ≡ None

-- a key without a fault
abbrev pub AdmitsKey : Layout → List Value → Type 0
AdmitsKey layout key = key_fault layout key ≡ None

-- up to 32 columns and up to 6 key columns, which differ and are among them
pub record IsLayout (layout : Layout) : Type 0 where
  pub some_columns : 0 < length layout.columns
  pub few_columns : length layout.columns ≤ 32
  pub some_key : 0 < length layout.key
  pub few_key : length layout.key ≤ 6
  pub within : All (λ place. place < length layout.columns) layout.key
  pub distinct : IsDistinct nat_eq layout.key
