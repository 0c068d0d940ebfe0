-- Values, their order and their kinds.
use Rattle.std.specs.Prelude.{List, [], Bool, Option, Some}
use Rattle.std.specs.Hash as fed
use Rattle.std.specs.Hash.{HashWrites}
use Rattle.std.specs.Ordering.{int_cmp, nat_cmp, is_eq}
use Rattle.std.specs.Cmp.Lexicographic.{slice_cmp, slice_partial_cmp}
use Rattle.std.specs.declared.cmp.Ordering.{Ordering}
use Rattle.std.specs.declared.cmp.Ordering.TheVariants.{Less, Equal, Greater}
use Rattle.sx_values.specs.declared.value.Value.{Value}
use Rattle.sx_values.specs.declared.value.Value.TheVariants.{Null, Int, Text}

-- Null stands before numbers and numbers before texts; numbers by size, texts by bytes
abbrev pub value_cmp : Value → Value → Ordering
value_cmp Null Null = Equal
value_cmp Null (Int j) = Less
value_cmp Null (Text t) = Less
value_cmp (Int i) Null = Greater
value_cmp (Int i) (Int j) = int_cmp i j
value_cmp (Int i) (Text t) = Less
value_cmp (Text s) Null = Greater
value_cmp (Text s) (Int j) = Greater
value_cmp (Text s) (Text t) = slice_cmp nat_cmp s t

-- whether two values tie in that order
abbrev pub value_eq : Value → Value → Bool
value_eq v w = is_eq (value_cmp v w)

-- lists of values are compared from the front, a prefix first
abbrev pub values_cmp : List Value → List Value → Ordering
values_cmp = slice_cmp value_cmp

-- the same, as an answer that may be none but never is
abbrev pub value_partial_cmp : Value → Value → Option Ordering
value_partial_cmp v w = Some (value_cmp v w)

-- the same of lists
abbrev pub values_partial_cmp : List Value → List Value → Option Ordering
values_partial_cmp = slice_partial_cmp value_partial_cmp

-- whether two lists of values are one, as that order tells
abbrev pub values_eq : List Value → List Value → Bool
values_eq vs ws = is_eq (values_cmp vs ws)

-- what a value's hash is made of: its number or its bytes
abbrev pub value_fed : Value → HashWrites
value_fed Null = []
value_fed (Int i) = fed.i64 i
value_fed (Text t) = fed.slice fed.u8 t

-- the same of a list of values
abbrev pub values_fed : List Value → HashWrites
values_fed values = fed.slice value_fed values
