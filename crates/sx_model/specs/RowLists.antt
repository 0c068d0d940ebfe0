-- The rows of a table as one list.
use Rattle.std.specs.Prelude.{◌≡◌, List, [], ◌∷◌, map, Option, Some, None, if◌then◌else◌}
use Rattle.std.specs.List.{AllByRecursion}
use Rattle.std.specs.List.Sorted.{IsStrictlySortedBy}
use Rattle.sx_values.specs.declared.value.Value.{Value}
use Rattle.sx_values.specs.Layouts.{Layout, key_of, Admits}
use Rattle.sx_values.specs.Values.{values_cmp, values_eq}

-- the row of a key among rows
abbrev pub row_of_key : Layout → List (List Value) → List Value → Option (List Value)
row_of_key layout [] key = None
row_of_key layout (row ∷ rows) key = if values_eq (key_of layout row) key then Some row else row_of_key layout rows key

-- rows that a schema admits, in key order, that have for each key the row that is there
pub record AreRows (layout : Layout) (there : List Value → Option (List Value)) (rows : List (List Value)) : Type 0 where
  pub admitted : AllByRecursion (Admits layout) rows
  pub in_order : IsStrictlySortedBy values_cmp (map (key_of layout) rows)
  pub same : (key : List Value) → row_of_key layout rows key ≡ there key
