-- What is kept of a script while it is read.
use Rattle.std.specs.Prelude.{◌≡◌, ◌++◌, ⊤, Bool, not, ℕ, List, [], ◌∷◌, Option, None, option_map}
use Rattle.std.specs.List.{list_any}
use Rattle.sx_values.specs.declared.value.Value.{Value}
use Rattle.sx_values.specs.declared.catalog.Declared.{Declared}
use Rattle.sx_values.specs.Catalogs.{declared_as}
use Rattle.sx_log.specs.declared.record.Load.{Load}
use Rattle.sx_log.specs.State.{is_place}
use Rattle.sx_ops.specs.declared.spec.Target.{Target}
use Rattle.sx_model.specs.Schedules.{Plan}
use Rattle.sx_model.specs.Known.{adopted}
use Rattle.sx_model.specs.Openings.{key_in}
use Rattle.sx_lines.specs.declared.line.Line.{Line}
use Rattle.sx_script.specs.declared.parser.Place.{Place}
use Rattle.sx_script.specs.Plans.{plan_of, known_by, is_declaring, has_retries, has_strategy}
use Rattle.sx_script.specs.Sound.{IsSound}

-- whether a loaded row is of this table and has this key
abbrev pub has_key : List Declared → List ℕ → List Value → Load → Bool
has_key catalog table key load = is_place load.table (key_in catalog load.table load.row) table key

-- whether a table and a key are among these
abbrev pub is_among : List Place → List ℕ → List Value → Bool
is_among places table key = list_any (λ (p : Place). is_place table key p.table p.key) places

-- tables of which each can be adopted behind those before it
abbrev pub AreNew : List Declared → List Target → Type 0
AreNew tables [] = ⊤
AreNew tables (target ∷ targets) = (declared_as tables target.name ≡ None) × AreNew (tables ++ adopted target ∷ []) targets

-- what is kept of a plan is what it tells
pub record KeepsPlan (plan : Plan) (catalog : List Declared) (tables : Option (List Declared)) (places : List Place) (is_started : Bool) : Type 0 where
  pub sound : IsSound plan
  pub catalog_is : catalog ≡ plan.catalog
  pub known_is : tables ≡ option_map (known_by plan.catalog) plan.change
  pub places_are : (table : List ℕ) (key : List Value) → is_among places table key ≡ list_any (has_key plan.catalog table key) plan.loads
  pub started_is : is_started ≡ not (is_declaring plan)

-- what is kept is what the lines so far tell
pub record Keeps (lines : List Line) (catalog : List Declared) (tables : Option (List Declared)) (places : List Place) (is_started is_counted is_ruled : Bool) : Type 0 where
  pub plan : KeepsPlan (plan_of lines) catalog tables places is_started
  pub counted_is : is_counted ≡ has_retries lines
  pub ruled_is : is_ruled ≡ has_strategy lines
