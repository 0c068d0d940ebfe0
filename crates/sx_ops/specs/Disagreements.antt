-- Where the rows of a vertical split's source disagree.
use Rattle.std.specs.Prelude.{◌&&◌, not, Bool, ℕ, List, [], ◌∷◌, map, Option, Some, None, option_map, if◌then◌else◌}
use Rattle.sx_values.specs.declared.value.Value.{Value}
use Rattle.sx_values.specs.declared.schema.Column.{Column}
use Rattle.sx_values.specs.Values.{values_eq}
use Rattle.sx_values.specs.Layouts.{Layout, key_of}
use Rattle.sx_lists.specs.Answers.{or_later}
use Rattle.sx_ops.specs.Operators.{value_named}

-- the values of the columns of these names in a row
abbrev pub values_named : List Column → List (List ℕ) → List Value → List Value
values_named columns names row = map (λ name. value_named columns name row) names

-- whether two rows have the same values in these columns
abbrev pub agree_on : List Column → List (List ℕ) → List Value → List Value → Bool
agree_on columns names row other = values_eq (values_named columns names row) (values_named columns names other)

-- whether two rows agree on the columns of the split, and differ on those that depend on them
abbrev pub disagree : List Column → List (List ℕ) → List (List ℕ) → List Value → List Value → Bool
disagree columns by dep row other = agree_on columns by row other && not (agree_on columns dep row other)

-- the first of these rows that disagrees with a row
abbrev pub first_against : List Column → List (List ℕ) → List (List ℕ) → List Value → List (List Value) → Option (List Value)
first_against columns by dep row [] = None
first_against columns by dep row (other ∷ rows) = if disagree columns by dep row other then Some other else first_against columns by dep row rows

-- the keys of the first two rows that disagree, of rows in key order: the least key of such a row, and then the least key of one behind it
abbrev pub first_disagreement : Layout → List (List ℕ) → List (List ℕ) → List (List Value) → Option (List Value × List Value)
first_disagreement layout by dep [] = None
first_disagreement layout by dep (row ∷ rows) =
    or_later (option_map (λ other. (key_of layout row, key_of layout other)) (first_against layout.columns by dep row rows)) (first_disagreement layout by dep rows)
