-- What the operators keep of the rows that they are given.
use Rattle.std.proofs.Common.{◌≡◌, ℕ, List, [], ◌∷◌, refl}
use Rattle.sx_values.specs.declared.value.Value.TheVariants.{Null}
use Rattle.sx_values.specs.declared.schema.Column.{Column}
use Rattle.sx_ops.specs.Operators.{value_named}

-- no column has a value in a row without values
pub value_named_nil : (columns : List Column) (name : List ℕ) → value_named columns name [] ≡ Null
value_named_nil [] name = refl
value_named_nil (column ∷ columns) name = refl
