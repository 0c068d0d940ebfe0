-- Why columns and a key are no schema, by cases in order.
use Rattle.std.specs.Prelude.{◌≡◌, ◌+◌, ◌==◌, Bool, false, ℕ, List, [], ◌∷◌, length, map, Option, Some, None, nat_lt, slice_get, if◌then◌else◌}
use Rattle.sx_lists.specs.Answers.{or_later}
use Rattle.sx_values.specs.Names.{repeated_name}
use Rattle.sx_values.specs.Layouts.{Layout}
use Rattle.sx_values.specs.declared.schema.Column.{Column}
use Rattle.sx_values.specs.declared.schema.SchemaFault.{SchemaFault}
use Rattle.sx_values.specs.declared.schema.SchemaFault.TheVariants as fault

-- the names of columns, in order
abbrev pub names_of : List Column → List (List ℕ)
names_of columns = map (λ (c : Column). c.name) columns

-- the fault of a name that stands twice
abbrev pub name_fault : Option (List ℕ) → Option SchemaFault
name_fault None = None
name_fault (Some name) = Some (fault.RepeatedName name)

-- the faults of columns of which at most `limit` are allowed
abbrev pub columns_fault : ℕ → List Column → Option SchemaFault
columns_fault limit columns =
    if length columns == 0 then Some fault.NoColumns
    else if nat_lt limit (length columns) then Some fault.TooManyColumns
    else name_fault (repeated_name (names_of columns))

-- the faults of a key of which at most `limit` columns are allowed
abbrev pub length_fault : ℕ → List ℕ → Option SchemaFault
length_fault limit key =
    if length key == 0 then Some fault.NoKey
    else if nat_lt limit (length key) then Some fault.LongKey
    else None

-- whether the column at a place takes Null
abbrev pub is_nullable_at : List Column → ℕ → Bool
is_nullable_at columns place = elim (slice_get columns place) [ None ↦ false | Some column ↦ column.nullable ]

-- the first key column that takes Null, its number counted from 1
abbrev pub nullable_fault : List Column → List ℕ → Option SchemaFault
nullable_fault columns [] = None
nullable_fault columns (place ∷ places) = if is_nullable_at columns place then Some (fault.NullableKey (place + 1)) else nullable_fault columns places

-- the first fault of a new table's schema
abbrev pub wide_fault : List Column → List ℕ → Option SchemaFault
wide_fault columns key = or_later (columns_fault 32 columns) (length_fault 6 key)

-- the first fault of a declared table's schema
abbrev pub schema_fault : List Column → List ℕ → Option SchemaFault
schema_fault columns key = or_later (columns_fault 16 columns) (or_later (length_fault 3 key) (nullable_fault columns key))

-- a schema that a declared table may have
abbrev pub IsDeclarable : Layout → Type 0
IsDeclarable layout = schema_fault layout.columns layout.key ≡ None
