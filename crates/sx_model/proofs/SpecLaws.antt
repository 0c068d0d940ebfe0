-- What follows from a transformation that fits the declared tables: its sources are declared, and its new tables have names of their own.
use Rattle.std.proofs.Common.{◌≡◌, ◌||◌, ℕ, Bool, true, false, List, Option, Some, None, is_some, option_map, IsSome, refl, if◌then◌else◌}
use Rattle.std.specs.List.{AllByRecursion}
use Rattle.sx_lists.specs.Answers.{or_later}
use Rattle.sx_values.specs.declared.catalog.Declared.{Declared}
use Rattle.sx_values.specs.Names.{same_name}
use Rattle.sx_values.specs.Layouts.{Layout}
use Rattle.sx_values.specs.Catalogs.{declared_as, is_source, schema_of}
use Rattle.sx_ops.specs.declared.spec.Spec.{Spec}
use Rattle.sx_ops.specs.declared.spec.Spec.TheVariants.{Join, Split, Part, Union}
use Rattle.sx_ops.specs.declared.spec.SpecFault.{SpecFault}
use Rattle.sx_ops.specs.declared.spec.Target.{Target}
use Rattle.sx_ops.specs.declared.spec.Test.{Test}
use Rattle.sx_ops.specs.Checks.{IsShaped, column_fault, types_fault, is_known, names_fault, part_fault, spec_fault}
use Rattle.sx_ops.specs.Operators.{sources_of}
use Rattle.sx_ops.specs.Targets.{part_targets, targets}

-- a horizontal split of this table into these fits the declared tables
pub record PartFits (catalog : List Declared) (table passing failing : List ℕ) : Type 0 where
  pub layout : Layout
  pub source : schema_of catalog table ≡ Some layout
  pub passing_new : declared_as catalog passing ≡ None
  pub failing_new : declared_as catalog failing ≡ None
  pub apart : same_name passing failing ≡ false

later_none : (a b : Option SpecFault) → or_later a b ≡ None → b ≡ None
later_none None b e = e
later_none (Some fault) b e = absurd (cc)

record NamesFree (one other same : Bool) : Type 0 where
  first : one ≡ false
  second : other ≡ false
  differ : same ≡ false

names_free : (one other same : Bool) (a b : SpecFault) → (if one then Some a else if other || same then Some b else None) ≡ None → NamesFree one other same
names_free true other same a b e = absurd (cc)
names_free false true same a b e = absurd (cc)
names_free false false true a b e = absurd (cc)
names_free false false false a b e = record { first = refl; second = refl; differ = refl }

not_known : (found : Option Declared) → is_some (option_map (λ (t : Declared). t.schema) found) ≡ false → found ≡ None
not_known None e = refl
not_known (Some d) e = absurd (cc)

source_fits : (catalog : List Declared) (is : Bool) (schema : Option Layout) (table passing failing : List ℕ) (tests : List Test) → schema_of catalog table ≡ schema → part_fault catalog (if is then schema else None) table tests passing failing ≡ None → PartFits catalog table passing failing
source_fits catalog false schema table passing failing tests found e = absurd (cc)
source_fits catalog true None table passing failing tests found e = absurd (cc)
source_fits catalog true (Some layout) table passing failing tests found e =
    let names = later_none (types_fault 1 layout.columns tests) (names_fault catalog passing failing) (later_none (column_fault layout.columns tests) _ e) in
    let free = names_free (is_known catalog passing) (is_known catalog failing) (same_name passing failing) _ _ names in
    record { layout = layout; source = found; passing_new = not_known (declared_as catalog passing) free.first; failing_new = not_known (declared_as catalog failing) free.second; apart = free.differ }

pub part_fits : (catalog : List Declared) (table passing failing : List ℕ) (tests : List Test) → spec_fault catalog (Part table tests passing failing) ≡ None → PartFits catalog table passing failing
part_fits catalog table passing failing tests e = source_fits catalog (is_source catalog table) (schema_of catalog table) table passing failing tests refl e

declared_there : (found : Option Declared) (layout : Layout) → option_map (λ (t : Declared). t.schema) found ≡ Some layout → IsSome found
declared_there None layout e = absurd (cc)
declared_there (Some d) layout e = refl

-- each source is declared
pub sources_declared : (catalog : List Declared) (spec : Spec) → IsShaped spec → spec_fault catalog spec ≡ None → AllByRecursion (λ name. IsSome (declared_as catalog name)) (sources_of spec)
sources_declared catalog (Part table tests passing failing) shaped fits = (let f = part_fits catalog table passing failing tests fits in declared_there (declared_as catalog table) f.layout f.source, tt)
sources_declared catalog (Join left right on_left on_right into) shaped fits = absurd shaped
sources_declared catalog (Split table by dep rest dependent) shaped fits = absurd shaped
sources_declared catalog (Union left right into) shaped fits = absurd shaped

-- and no new table is
targets_new_part : (catalog : List Declared) (schema : Option Layout) (passing failing : List ℕ) → declared_as catalog passing ≡ None → declared_as catalog failing ≡ None → AllByRecursion (λ (t : Target). declared_as catalog t.name ≡ None) (part_targets schema passing failing)
targets_new_part catalog None passing failing a b = tt
targets_new_part catalog (Some schema) passing failing a b = (a, (b, tt))

pub targets_new : (catalog : List Declared) (spec : Spec) → IsShaped spec → spec_fault catalog spec ≡ None → AllByRecursion (λ (t : Target). declared_as catalog t.name ≡ None) (targets catalog spec)
targets_new catalog (Part table tests passing failing) shaped fits = (let f = part_fits catalog table passing failing tests fits in targets_new_part catalog (schema_of catalog table) passing failing f.passing_new f.failing_new)
targets_new catalog (Join left right on_left on_right into) shaped fits = absurd shaped
targets_new catalog (Split table by dep rest dependent) shaped fits = absurd shaped
targets_new catalog (Union left right into) shaped fits = absurd shaped
