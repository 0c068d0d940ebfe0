-- The text of a transformation.
use Rattle.std.specs.Prelude.{◌==◌, ◌++◌, ◌&&◌, Bool, false, ℕ, List, [], ◌∷◌, codes, if◌then◌else◌}
use Rattle.std.specs.List.{list_all}
use Rattle.std.specs.Fmt.{signed_decimal}
use Rattle.sx_values.specs.declared.value.Value.{Value}
use Rattle.sx_values.specs.declared.value.Value.TheVariants.{Null, Int, Text}
use Rattle.sx_ops.specs.declared.spec.Spec.{Spec}
use Rattle.sx_ops.specs.declared.spec.Spec.TheVariants.{Join, Split, Part, Union}
use Rattle.sx_ops.specs.declared.spec.Test.{Test}
use Rattle.sx_ops.specs.declared.spec.Cmp.{Cmp}
use Rattle.sx_ops.specs.declared.spec.Cmp.TheVariants as cmp
use Rattle.sx_text.specs.Records.{is_value}
use Rattle.sx_lang.specs.Parts.{is_short_name}

abbrev pub cmp_text : Cmp → List ℕ
cmp_text cmp.Eq = codes "="
cmp_text cmp.Ne = codes "<>"
cmp_text cmp.Lt = codes "<"
cmp_text cmp.Le = codes "<="
cmp_text cmp.Gt = codes ">"
cmp_text cmp.Ge = codes ">="

-- bytes with each quote written twice
abbrev pub doubled : List ℕ → List ℕ
doubled [] = []
doubled (b ∷ rest) = if b == 39 then 39 ∷ 39 ∷ doubled rest else b ∷ doubled rest

-- a constant; no test has Null
abbrev pub constant_text : Value → List ℕ
constant_text Null = []
constant_text (Int i) = signed_decimal i
constant_text (Text t) = 39 ∷ (doubled t ++ 39 ∷ [])

abbrev pub test_text : Test → List ℕ
test_text test = test.column ++ (cmp_text test.cmp ++ constant_text test.value)

-- the tests behind the first, each after its ` and `
abbrev pub further_text : List Test → List ℕ
further_text [] = []
further_text (test ∷ tests) = codes " and " ++ (test_text test ++ further_text tests)

abbrev pub tests_text : List Test → List ℕ
tests_text [] = []
tests_text (test ∷ tests) = test_text test ++ further_text tests

-- the source of a horizontal split with its tests
abbrev pub source_text : List ℕ → List Test → List ℕ
source_text table tests = codes "part " ++ (table ++ (codes " if " ++ tests_text tests))

-- its new tables
abbrev pub targets_text : List ℕ → List ℕ → List ℕ
targets_text passing failing = codes " into " ++ (passing ++ (codes " " ++ failing))

-- the text of a transformation; each other operator brings its own case
abbrev pub spec_text : Spec → List ℕ
spec_text (Part table tests passing failing) = source_text table tests ++ targets_text passing failing
spec_text (Join left right on_left on_right into) = []
spec_text (Split table by dep rest dependent) = []
spec_text (Union left right into) = []

-- a test whose column has a name as texts have it, and whose constant is a value of the program
abbrev pub is_spelled : Test → Bool
is_spelled test = is_short_name test.column && is_value test.value

-- a transformation whose names and constants a text can have; each other operator brings its own case
abbrev pub has_spelling : Spec → Bool
has_spelling (Part table tests passing failing) = is_short_name table && is_short_name passing && is_short_name failing && list_all is_spelled tests
has_spelling (Join left right on_left on_right into) = false
has_spelling (Split table by dep rest dependent) = false
has_spelling (Union left right into) = false
