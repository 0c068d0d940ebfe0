-- How rows and keys keep their values.
use Rattle.std.specs.Prelude.{List, [], ◌∷◌}
use Rattle.sx_values.specs.declared.value.Value.{Value}
use Rattle.sx_values.specs.declared.key.KeyValues.{KeyValues}
use Rattle.sx_values.specs.declared.key.KeyValues.TheVariants.{One, Many}
use Rattle.sx_values.specs.declared.row.RowValues.{RowValues}
use Rattle.sx_values.specs.declared.row.RowValues.TheVariants.{Own, Shared}

-- the values of a key
abbrev pub values_of_key : KeyValues → List Value
values_of_key (One value alloc) = value ∷ []
values_of_key (Many values) = values

-- the values of a row
abbrev pub values_of_row : RowValues → List Value
values_of_row (Own values) = values
values_of_row (Shared values alloc) = values.value
