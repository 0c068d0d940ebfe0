-- The rows that a log leaves in a table, as one list. A log is seen newest first.
use Rattle.std.specs.Prelude.{◌++◌, not, ℕ, List, [], ◌∷◌, filter, Option, Some, None, if◌then◌else◌}
use Rattle.std.specs.Ordering.{is_lt, is_gt}
use Rattle.sx_values.specs.Names.{same_name}
use Rattle.sx_values.specs.Values.{values_cmp, values_eq}
use Rattle.sx_values.specs.declared.value.Value.{Value}
use Rattle.sx_log.specs.declared.record.Rec.{Rec}
use Rattle.sx_log.specs.declared.record.Body.{Body}
use Rattle.sx_log.specs.declared.record.Body.TheVariants.{Write, Undo, Commit, Abort, Mark, Check, Switch}

-- a row with its key
pub record Keyed : Type 0 where
  pub key : List Value
  pub row : List Value

-- rows in key order, of which this key has now this image: a row between those of lesser and of greater keys, or none
abbrev pub with_image : List Value → Option (List Value) → List Keyed → List Keyed
with_image key None rows = filter (λ (k : Keyed). not (values_eq k.key key)) rows
with_image key (Some row) rows =
    filter (λ (k : Keyed). is_lt (values_cmp k.key key)) rows ++ record { key = key; row = row } ∷ filter (λ (k : Keyed). is_gt (values_cmp k.key key)) rows

-- the rows of a table behind a record, from those before it
unfoldable pub rows_after : List ℕ → Body → List Keyed → List Keyed
rows_after table (Write written key before after) rows = if same_name written table then with_image key after rows else rows
rows_after table (Undo undoes written key before after) rows = if same_name written table then with_image key after rows else rows
rows_after table Commit rows = rows
rows_after table Abort rows = rows
rows_after table Mark rows = rows
rows_after table (Check group dep) rows = rows
rows_after table Switch rows = rows

-- the rows that a log leaves in a table, in key order
abbrev pub rows_left : List Rec → List ℕ → List Keyed
rows_left [] table = []
rows_left (r ∷ past) table = rows_after table r.body (rows_left past table)
