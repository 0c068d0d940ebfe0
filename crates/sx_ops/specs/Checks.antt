-- Which transformations fit a catalog, and why one doesn't.
use Rattle.std.specs.Prelude.{◌≡◌, ◌≢◌, IsSome, Result, Ok, Err, ◌≤◌, ◌+◌, ◌||◌, ⊤, Bool, false, not, IsTrue, ℕ, List, [], ◌∷◌, length, is_some, Option, Some, None, if◌then◌else◌}
use Rattle.std.specs.List.{list_any}
use Rattle.sx_lists.specs.Answers.{or_later}
use Rattle.sx_values.specs.Names.{same_name, has_name}
use Rattle.sx_values.specs.Layouts.{Layout, is_int, is_null}
use Rattle.sx_values.specs.SchemaFaults.{names_of}
use Rattle.sx_values.specs.Catalogs.{schema_of, source_schema}
use Rattle.sx_values.specs.declared.value.Value.{Value}
use Rattle.sx_values.specs.declared.value.Value.TheVariants as value
use Rattle.sx_values.specs.declared.schema.Kind.{Kind}
use Rattle.sx_values.specs.declared.schema.Column.{Column}
use Rattle.sx_values.specs.declared.catalog.Declared.{Declared}
use Rattle.sx_ops.specs.declared.spec.Spec.{Spec}
use Rattle.sx_ops.specs.declared.spec.Spec.TheVariants.{Join, Split, Part, Union}
use Rattle.sx_ops.specs.declared.spec.Test.{Test}
use Rattle.sx_ops.specs.declared.spec.SpecFault.{SpecFault}
use Rattle.sx_ops.specs.declared.spec.SpecFault.TheVariants as fault

-- a transformation that is a horizontal split
abbrev pub IsPart : Spec → Type 0
IsPart (Part table tests passing failing) = ⊤
IsPart (Join left right on_left on_right into) = ⊥
IsPart (Split table by dep rest dependent) = ⊥
IsPart (Union left right into) = ⊥

-- from one to four comparisons, none with Null
pub record AreTests (tests : List Test) : Type 0 where
  pub some : 1 ≤ length tests
  pub few : length tests ≤ 4
  pub no_null : IsTrue (not (list_any (λ (test : Test). is_null test.value) tests))

-- a horizontal split with the numbers that its text allows
abbrev pub IsShaped : Spec → Type 0
IsShaped (Part table tests passing failing) = AreTests tests
IsShaped (Join left right on_left on_right into) = ⊥
IsShaped (Split table by dep rest dependent) = ⊥
IsShaped (Union left right into) = ⊥

-- the first comparison whose column isn't there
abbrev pub column_fault : List Column → List Test → Option SpecFault
column_fault columns [] = None
column_fault columns (test ∷ tests) = if has_name (names_of columns) test.column then column_fault columns tests else Some (fault.NoColumn test.column)

-- whether a constant is of a kind
abbrev pub is_of_kind : Kind → Value → Bool
is_of_kind kind value.Null = false
is_of_kind kind (value.Int i) = is_int kind
is_of_kind kind (value.Text t) = not (is_int kind)

-- whether the column of this name has the kind of a constant
abbrev pub fits_column : List Column → List ℕ → Value → Bool
fits_column [] name constant = false
fits_column (column ∷ columns) name constant = if same_name column.name name then is_of_kind column.kind constant else fits_column columns name constant

-- the first comparison, the first of these with this place, whose constant is of another kind than its column
abbrev pub types_fault : ℕ → List Column → List Test → Option SpecFault
types_fault place columns [] = None
types_fault place columns (test ∷ tests) = if fits_column columns test.column test.value then types_fault (place + 1) columns tests else Some (fault.Types place)

-- whether a table of this name is known
abbrev pub is_known : List Declared → List ℕ → Bool
is_known catalog name = is_some (schema_of catalog name)

-- the first new name that is taken
abbrev pub names_fault : List Declared → List ℕ → List ℕ → Option SpecFault
names_fault catalog passing failing =
    if is_known catalog passing then Some (fault.NameTaken passing)
    else if is_known catalog failing || same_name passing failing then Some (fault.NameTaken failing)
    else None

-- the first fault of a horizontal split, by the schema of its source, if the name is that of a declared table
abbrev pub part_fault : List Declared → Option Layout → List ℕ → List Test → List ℕ → List ℕ → Option SpecFault
part_fault catalog None table tests passing failing = Some (fault.NoTable table)
part_fault catalog (Some source) table tests passing failing =
    or_later (column_fault source.columns tests) (or_later (types_fault 1 source.columns tests) (names_fault catalog passing failing))

-- the first fault of a transformation, in the order of the refusals; each other operator brings its own case
abbrev pub spec_fault : List Declared → Spec → Option SpecFault
spec_fault catalog (Part table tests passing failing) = part_fault catalog (source_schema catalog table) table tests passing failing
spec_fault catalog (Join left right on_left on_right into) = None
spec_fault catalog (Split table by dep rest dependent) = None
spec_fault catalog (Union left right into) = None

-- the answer is Ok where there is no fault, and else the fault, or want of memory for a copy of it
abbrev pub Refuses : Option SpecFault → Result (Unit {0}) SpecFault → Type 0
Refuses expected (Ok done) = expected ≡ None
Refuses expected (Err refusal) = IsSome expected × (refusal ≢ fault.Memory → expected ≡ Some refusal)
