-- The new tables of a transformation have names that nobody has.
use Rattle.std.proofs.Common.{◌≡◌, ◌++◌, ◌∷◌, [], List, ℕ, false, Option, Some, None, refl}
use Rattle.sx_values.specs.declared.catalog.Declared.{Declared}
use Rattle.sx_values.specs.Layouts.{Layout}
use Rattle.sx_values.specs.Names.{same_name}
use Rattle.sx_values.specs.Catalogs.{declared_as, schema_of}
use Rattle.sx_ops.specs.declared.spec.Spec.{Spec}
use Rattle.sx_ops.specs.declared.spec.Spec.TheVariants.{Join, Split, Part, Union}
use Rattle.sx_ops.specs.declared.spec.Target.{Target}
use Rattle.sx_ops.specs.Checks.{IsShaped, spec_fault}
use Rattle.sx_ops.specs.Targets.{part_targets, targets}
use Rattle.sx_model.specs.Known.{adopted}
use Rattle.sx_model.proofs.KnownLaws.{declared_both}
use Rattle.sx_model.proofs.SpecLaws.{part_fits}

-- each of these can be put behind the tables, one after another
abbrev pub AreAdopted : List Declared → List Target → Type 0
AreAdopted tables [] = Unit {0}
AreAdopted tables (target ∷ others) = (declared_as tables target.name ≡ None) × AreAdopted (tables ++ adopted target ∷ []) others

still_new : (catalog : List Declared) (passing failing : List ℕ) (layout : Layout) → declared_as catalog failing ≡ None → same_name passing failing ≡ false
    → declared_as (catalog ++ adopted (record { name = passing; schema = layout }) ∷ []) failing ≡ None
still_new catalog passing failing layout new apart = rw (declared_both catalog (adopted (record { name = passing; schema = layout }) ∷ []) failing, new, apart) refl

part_new : (catalog : List Declared) (schema : Option Layout) (passing failing : List ℕ) → declared_as catalog passing ≡ None → declared_as catalog failing ≡ None → same_name passing failing ≡ false
    → AreAdopted catalog (part_targets schema passing failing)
part_new catalog None passing failing a b apart = tt
part_new catalog (Some layout) passing failing a b apart = (a, (still_new catalog passing failing layout b apart, tt))

pub are_adopted : (catalog : List Declared) (spec : Spec) → IsShaped spec → spec_fault catalog spec ≡ None → AreAdopted catalog (targets catalog spec)
are_adopted catalog (Part table tests passing failing) shaped fits = let f = part_fits catalog table passing failing tests fits in part_new catalog (schema_of catalog table) passing failing f.passing_new f.failing_new f.apart
are_adopted catalog (Join left right on_left on_right into) shaped fits = absurd shaped
are_adopted catalog (Split table by dep rest dependent) shaped fits = absurd shaped
are_adopted catalog (Union left right into) shaped fits = absurd shaped
