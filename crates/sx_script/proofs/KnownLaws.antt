-- The tables that are known behind a transformation.
use Rattle.std.proofs.Common.{◌≡◌, ◌++◌, ℕ, Bool, true, false, cond, List, [], ◌∷◌, map, Option, Some, None, option_map, unwrap_or, refl, sym, ap, ◌∙◌, subst}
use Rattle.sx_values.specs.declared.catalog.Declared.{Declared}
use Rattle.sx_values.specs.Names.{same_name}
use Rattle.sx_values.specs.Layouts.{Layout, IsLayout}
use Rattle.sx_values.specs.Catalogs.{declared_as, schema_of}
use Rattle.sx_ops.specs.declared.spec.Spec.{Spec}
use Rattle.sx_ops.specs.declared.spec.Spec.TheVariants.{Join, Split, Part, Union}
use Rattle.sx_ops.specs.Checks.{IsShaped, spec_fault}
use Rattle.sx_ops.specs.Targets.{part_targets, targets}
use Rattle.sx_model.specs.Known.{adopted}
use Rattle.sx_model.specs.Schedules.{Plan}
use Rattle.sx_model.proofs.KnownLaws.{declared_both, schema_second}
use Rattle.sx_model.proofs.SpecLaws.{part_fits}
use Rattle.sx_lines.specs.Forms.{HasLayouts}
use Rattle.sx_script.specs.Plans.{known_by, known}
use Rattle.sx_script.specs.Parsers.{AreNew}
use Rattle.sx_script.proofs.KeepLaws.{found_still}

-- ---- new tables have new names

-- a name that neither these tables nor the next one has stays new
still_new : (catalog : List Declared) (passing failing : List ℕ) (layout : Layout) → declared_as catalog failing ≡ None → same_name passing failing ≡ false
    → declared_as (catalog ++ adopted (record { name = passing; schema = layout }) ∷ []) failing ≡ None
still_new catalog passing failing layout new apart = rw (declared_both catalog (adopted (record { name = passing; schema = layout }) ∷ []) failing, new, apart) refl

part_new : (catalog : List Declared) (schema : Option Layout) (passing failing : List ℕ) → declared_as catalog passing ≡ None → declared_as catalog failing ≡ None → same_name passing failing ≡ false
    → AreNew catalog (part_targets schema passing failing)
part_new catalog None passing failing a b apart = tt
part_new catalog (Some layout) passing failing a b apart = (a, (still_new catalog passing failing layout b apart, tt))

-- the new tables of a transformation that fits can be adopted
pub are_new : (catalog : List Declared) (spec : Spec) → IsShaped spec → spec_fault catalog spec ≡ None → AreNew catalog (targets catalog spec)
are_new catalog (Part table tests passing failing) shaped fits = let f = part_fits catalog table passing failing tests fits in part_new catalog (schema_of catalog table) passing failing f.passing_new f.failing_new f.apart
are_new catalog (Join left right on_left on_right into) shaped fits = absurd shaped
are_new catalog (Split table by dep rest dependent) shaped fits = absurd shaped
are_new catalog (Union left right into) shaped fits = absurd shaped

-- ---- known tables have layouts

part_layouts : (schema : Option Layout) (passing failing : List ℕ) → ((layout : Layout) → schema ≡ Some layout → IsLayout layout) → HasLayouts (map adopted (part_targets schema passing failing))
part_layouts None passing failing has name layout e = absurd (cc)
part_layouts (Some source) passing failing has name layout e = by (same_name passing name) (same_name failing name) e
  where
    by : (a b : Bool) → option_map (λ (t : Declared). t.schema) (cond a (Some (adopted (record { name = passing; schema = source }))) (cond b (Some (adopted (record { name = failing; schema = source }))) None)) ≡ Some layout → IsLayout layout
    by true b f = let same : source ≡ layout = cc in subst IsLayout same (has source refl)
    by false true f = let same : source ≡ layout = cc in subst IsLayout same (has source refl)
    by false false f = absurd (cc)

new_layouts : (catalog : List Declared) (spec : Spec) → HasLayouts catalog → HasLayouts (map adopted (targets catalog spec))
new_layouts catalog (Part table tests passing failing) has = part_layouts (schema_of catalog table) passing failing (λ layout e. has table layout e)
new_layouts catalog (Join left right on_left on_right into) has = λ name layout e. absurd (cc)
new_layouts catalog (Split table by dep rest dependent) has = λ name layout e. absurd (cc)
new_layouts catalog (Union left right into) has = λ name layout e. absurd (cc)

both_layouts : (some others : List Declared) → HasLayouts some → HasLayouts others → HasLayouts (some ++ others)
both_layouts some others has more name layout e = by (declared_as some name) refl
  where
    by : (found : Option Declared) → declared_as some name ≡ found → IsLayout layout
    by None d = more name layout (sym (schema_second some others name d) ∙ e)
    by (Some t) d =
        let there : schema_of some name ≡ Some t.schema = ap (option_map (λ (x : Declared). x.schema)) d in
        let same : t.schema ≡ layout = some_is t.schema (sym (found_still some others name t.schema there) ∙ e) in
        subst IsLayout same (has name t.schema there)
      where
        some_is : (one : Layout) → ◌≡◌ {A = Option Layout} (Some one) (Some layout) → one ≡ layout
        some_is one f = cc

known_with : (catalog : List Declared) (change : Option Spec) → HasLayouts catalog → HasLayouts (unwrap_or (option_map (known_by catalog) change) catalog)
known_with catalog None has = has
known_with catalog (Some spec) has = both_layouts catalog (map adopted (targets catalog spec)) has (new_layouts catalog spec has)

-- where the declared tables have layouts all known ones have
pub known_layouts : (plan : Plan) → HasLayouts plan.catalog → HasLayouts (known plan)
known_layouts plan has = known_with plan.catalog plan.change has
