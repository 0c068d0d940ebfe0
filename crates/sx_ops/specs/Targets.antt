-- The new tables of a transformation.
use Rattle.std.specs.Prelude.{ℕ, List, [], ◌∷◌, Option, Some, None}
use Rattle.sx_values.specs.Layouts.{Layout}
use Rattle.sx_values.specs.Catalogs.{schema_of}
use Rattle.sx_values.specs.declared.catalog.Declared.{Declared}
use Rattle.sx_ops.specs.declared.spec.Spec.{Spec}
use Rattle.sx_ops.specs.declared.spec.Spec.TheVariants.{Join, Split, Part, Union}
use Rattle.sx_ops.specs.declared.spec.Target.{Target}

-- both new tables of a horizontal split have the schema of its source
abbrev pub part_targets : Option Layout → List ℕ → List ℕ → List Target
part_targets None passing failing = []
part_targets (Some schema) passing failing = record { name = passing; schema = schema } ∷ record { name = failing; schema = schema } ∷ []

-- the new tables of a transformation, in order; each other operator brings its own case
abbrev pub targets : List Declared → Spec → List Target
targets catalog (Part table tests passing failing) = part_targets (schema_of catalog table) passing failing
targets catalog (Join left right on_left on_right into) = []
targets catalog (Split table by dep rest dependent) = []
targets catalog (Union left right into) = []
