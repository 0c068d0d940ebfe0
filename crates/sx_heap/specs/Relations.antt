-- What a contract sees of a table.
use Rattle.std.specs.Prelude.{◌≡◌, Bool, ℕ, List, [], ◌∷◌, map, All, Option, Some, None, if◌then◌else◌}
use Rattle.std.specs.Ordering.{is_eq}
use Rattle.std.specs.List.Sorted.{IsStrictlySortedBy}
use Rattle.sx_values.specs.declared.value.Value.{Value}
use Rattle.sx_values.specs.Values.{values_cmp}
use Rattle.sx_values.specs.Layouts.{Layout, IsLayout, Admits, key_of}
use Rattle.sx_heap.specs.declared.seen.Seen.{Seen}

-- a schema, and rows in key order, each with its key and its LSN
pub record Relation : Type 0 where
  pub schema : Layout
  pub rows : List Seen

-- whether two keys are one
abbrev pub same_key : List Value → List Value → Bool
same_key key other = is_eq (values_cmp key other)

-- the row of a key and its LSN, if the key is there
abbrev pub row_at : List Seen → List Value → Option (List Value × ℕ)
row_at [] key = None
row_at (seen ∷ rows) key = if same_key key seen.key then Some (seen.row, seen.lsn) else row_at rows key

-- the keys of rows, in order
abbrev pub row_keys : List Seen → List (List Value)
row_keys rows = map (λ (s : Seen). s.key) rows

-- a row with its key, under this LSN
abbrev pub seen_under : Layout → ℕ → List Value → Seen
seen_under layout lsn row = record { key = key_of layout row; row = row; lsn = lsn }

-- the schema admits the row, which has this key
pub record IsRowOf (layout : Layout) (seen : Seen) : Type 0 where
  pub admitted : Admits layout seen.row
  pub keyed : seen.key ≡ key_of layout seen.row

-- a schema and rows that it admits, each with its own key, in strict key order
pub record IsRelation (relation : Relation) : Type 0 where
  pub laid_out : IsLayout relation.schema
  pub sorted : IsStrictlySortedBy values_cmp (row_keys relation.rows)
  pub each : All (IsRowOf relation.schema) relation.rows

-- the new table has this row at the key, or none, and what the old one had at every other key
pub record SetsRow (old new : Relation) (key : List Value) (image : Option (List Value × ℕ)) : Type 0 where
  pub same_schema : new.schema ≡ old.schema
  pub at_keys : (other : List Value) → row_at new.rows other ≡ (if same_key key other then image else row_at old.rows other)
