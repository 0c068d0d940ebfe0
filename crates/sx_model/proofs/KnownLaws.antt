-- Which tables are known: the declared ones stay so, and the new ones have other names.
use Rattle.std.proofs.Common.{◌≡◌, ◌++◌, ◌||◌, ℕ, Bool, true, false, List, [], ◌∷◌, map, Option, Some, None, option_map, IsSomeAnd, cond, refl, sym, ap, ◌∙◌, subst}
use Rattle.std.proofs.lemmas.Bool.{false≢true}
use Rattle.sx_lists.specs.Answers.{or_later}
use Rattle.sx_values.specs.Names.{same_name, has_name}
use Rattle.sx_values.proofs.KeyLaws.{same_name_tells, same_name-refl}
use Rattle.sx_values.specs.declared.value.Value.{Value}
use Rattle.sx_values.specs.declared.catalog.Declared.{Declared}
use Rattle.sx_values.specs.Layouts.{Layout}
use Rattle.sx_values.specs.Catalogs.{declared_as, schema_of}
use Rattle.sx_log.specs.declared.record.Body.{Body}
use Rattle.sx_log.specs.declared.record.Body.TheVariants.{Write, Undo, Commit, Abort, Mark, Check, Switch}
use Rattle.sx_log.specs.Images.{FitsImages, FitsTables}
use Rattle.sx_ops.specs.declared.spec.Spec.{Spec}
use Rattle.sx_ops.specs.declared.spec.Spec.TheVariants.{Join, Split, Part, Union}
use Rattle.sx_ops.specs.Operators.{sources_of, targets_of}
use Rattle.sx_ops.specs.Targets.{part_targets, targets}
use Rattle.sx_sync.specs.declared.Phase.{Phase}
use Rattle.sx_sync.specs.declared.Phase.TheVariants.{Idle, Scanning, Chasing, Draining, Late, Done}
use Rattle.sx_journal.specs.declared.entry.Entry.{Entry}
use Rattle.sx_journal.specs.declared.entry.Reply.{Reply}
use Rattle.sx_model.specs.Openings.{Opening}
use Rattle.sx_model.specs.Leaves.{Started, started, phase}
use Rattle.sx_model.specs.Known.{adopted, new_tables, named_in, named_now, known}
use Rattle.sx_model.specs.Closed.{unless_new, closed_in, closed_by, closed}
use Rattle.sx_model.specs.Switches.{has_lock_on}
use Rattle.sx_model.proofs.TestLaws.{by_cases}

-- a table of two catalogs is one of the first, or else of the second
pub declared_both : (some others : List Declared) (name : List ℕ) → declared_as (some ++ others) name ≡ or_later (declared_as some name) (declared_as others name)
declared_both [] others name = refl
declared_both (t ∷ some) others name = by (same_name t.name name) (declared_both some others name)
  where
    by : (b : Bool) → declared_as (some ++ others) name ≡ or_later (declared_as some name) (declared_as others name) → cond b (Some t) (declared_as (some ++ others) name) ≡ or_later (cond b (Some t) (declared_as some name)) (declared_as others name)
    by true rest = refl
    by false rest = rest

-- what the first has is there
schema_first : (some others : List Declared) (name : List ℕ) (layout : Layout) → schema_of some name ≡ Some layout → schema_of (some ++ others) name ≡ Some layout
schema_first some others name layout is = by (declared_as some name) refl is
  where
    by : (found : Option Declared) → declared_as some name ≡ found → option_map (λ (t : Declared). t.schema) found ≡ Some layout → schema_of (some ++ others) name ≡ Some layout
    by None e none = absurd (cc)
    by (Some t) e same = ap (option_map (λ (t : Declared). t.schema)) (declared_both some others name ∙ ap (λ f. or_later f (declared_as others name)) e) ∙ same

-- what the first lacks is the second's
pub schema_second : (some others : List Declared) (name : List ℕ) → declared_as some name ≡ None → schema_of (some ++ others) name ≡ schema_of others name
schema_second some others name none = ap (option_map (λ (t : Declared). t.schema)) (declared_both some others name ∙ ap (λ f. or_later f (declared_as others name)) none)

-- a declared table is known
pub known_declared : (o : Opening) (past : List Entry) (name : List ℕ) (layout : Layout) → schema_of o.catalog name ≡ Some layout → schema_of (known o past) name ≡ Some layout
known_declared o past name layout is = schema_first o.catalog (map adopted (named_now o past)) name layout is

-- a table that isn't declared is a new one
pub known_new : (o : Opening) (past : List Entry) (name : List ℕ) → declared_as o.catalog name ≡ None → schema_of (known o past) name ≡ schema_of (map adopted (named_now o past)) name
known_new o past name none = schema_second o.catalog (map adopted (named_now o past)) name none

-- a name that is no other's is not that of another
other_name : (name other : List ℕ) → same_name name other ≡ false → same_name other name ≡ false
other_name name other differs = by_cases (same_name other name)
    (λ same. absurd (false≢true (sym differs ∙ ap (same_name name) (same_name_tells other name same) ∙ same_name-refl name)))
    (λ away. away)

-- a name that none of the new tables has
unnamed_part : (schema : Option Layout) (passing failing name : List ℕ) → (same_name name passing || (same_name name failing || false)) ≡ false → declared_as (map adopted (part_targets schema passing failing)) name ≡ None
unnamed_part None passing failing name away = refl
unnamed_part (Some schema) passing failing name away = by (same_name name passing) refl (same_name name failing) refl away
  where
    by : (a : Bool) → same_name name passing ≡ a → (b : Bool) → same_name name failing ≡ b → (a || (b || false)) ≡ false → declared_as (map adopted (part_targets (Some schema) passing failing)) name ≡ None
    by true d b e away = absurd (cc)
    by false d true e away = absurd (cc)
    by false d false e away = rw (other_name name passing d, other_name name failing e) refl

unnamed : (catalog : List Declared) (spec : Spec) (name : List ℕ) → has_name (targets_of spec) name ≡ false → declared_as (map adopted (targets catalog spec)) name ≡ None
unnamed catalog (Part table tests passing failing) name away = unnamed_part (schema_of catalog table) passing failing name away
unnamed catalog (Join left right on_left on_right into) name away = refl
unnamed catalog (Split table by dep rest dependent) name away = refl
unnamed catalog (Union left right into) name away = refl

-- without new tables the known ones are the declared ones
none_named : (at : Phase) → named_in at [] ≡ []
none_named Idle = refl
none_named Scanning = refl
none_named Chasing = refl
none_named Draining = refl
none_named Late = refl
none_named Done = refl

-- a table that isn't closed, before the switch, is a declared one or none
not_new : (is_new : Bool) → unless_new is_new None ≡ None → is_new ≡ false
not_new true e = absurd (cc)
not_new false e = refl

drains_not : (is_new : Bool) (rest : Option Reply) → unless_new is_new rest ≡ None → is_new ≡ false
drains_not true rest e = absurd (cc)
drains_not false rest e = refl

open_schema_in : (catalog : List Declared) (s : Started) (name : List ℕ) (at : Phase) (is_source has_lock : Bool) → (at ≡ Done → ⊥) → (at ≡ Late → ⊥) → closed_in at (has_name (targets_of s.spec) name) is_source has_lock ≡ None
    → declared_as (map adopted (named_in at (targets catalog s.spec))) name ≡ None
open_schema_in catalog s name Idle is_source has_lock undone timely opened = refl
open_schema_in catalog s name Scanning is_source has_lock undone timely opened = unnamed catalog s.spec name (not_new (has_name (targets_of s.spec) name) opened)
open_schema_in catalog s name Chasing is_source has_lock undone timely opened = unnamed catalog s.spec name (not_new (has_name (targets_of s.spec) name) opened)
open_schema_in catalog s name Draining is_source has_lock undone timely opened = unnamed catalog s.spec name (drains_not (has_name (targets_of s.spec) name) _ opened)
open_schema_in catalog s name Late is_source has_lock undone timely opened = absurd (timely refl)
open_schema_in catalog s name Done is_source has_lock undone timely opened = absurd (undone refl)

pub open_schema : (o : Opening) (past : List Entry) (client : ℕ) (name : List ℕ) → (phase past ≡ Done → ⊥) → (phase past ≡ Late → ⊥) → closed past client name ≡ None → schema_of (known o past) name ≡ schema_of o.catalog name
open_schema o past client name undone timely opened = by (started past) refl opened
  where
    rest : (s : Option Started) → started past ≡ s → declared_as (map adopted (named_in (phase past) (new_tables o.catalog s))) name ≡ None → schema_of (known o past) name ≡ schema_of o.catalog name
    rest s is none =
        let away : declared_as (map adopted (named_now o past)) name ≡ None = ap (λ t. declared_as (map adopted (named_in (phase past) (new_tables o.catalog t))) name) is ∙ none in
        ap (option_map (λ (t : Declared). t.schema)) (declared_both o.catalog (map adopted (named_now o past)) name ∙ ap (or_later (declared_as o.catalog name)) away ∙ none_later (declared_as o.catalog name))
      where
        none_later : (found : Option Declared) → or_later found None ≡ found
        none_later None = refl
        none_later (Some t) = refl

    by : (s : Option Started) → started past ≡ s → closed_by past client name s ≡ None → schema_of (known o past) name ≡ schema_of o.catalog name
    by None is e = rest None is (ap (λ tables. declared_as (map adopted tables) name) (none_named (phase past)))
    by (Some s) is e = rest (Some s) is (open_schema_in o.catalog s name (phase past) (has_name (sources_of s.spec) name) (has_lock_on (sources_of s.spec) client past) undone timely e)

-- what fits the declared tables fits the known ones
images_known : (known_as declared : Option Layout) (key : List Value) (before after : Option (List Value)) → ((layout : Layout) → declared ≡ Some layout → known_as ≡ Some layout) → IsSomeAnd declared (λ l. FitsImages l key before after) → IsSomeAnd known_as (λ l. FitsImages l key before after)
images_known known_as None key before after same fits = absurd fits
images_known known_as (Some l) key before after same fits = subst (λ k. IsSomeAnd k (λ m. FitsImages m key before after)) (sym (same l refl)) fits

pub fits_known : (o : Opening) (past : List Entry) (body : Body) → FitsTables (schema_of o.catalog) body → FitsTables (schema_of (known o past)) body
unfolding FitsTables
fits_known o past (Write table key before after) fits = images_known (schema_of (known o past) table) (schema_of o.catalog table) key before after (known_declared o past table) fits
fits_known o past (Undo undoes table key before after) fits = images_known (schema_of (known o past) table) (schema_of o.catalog table) key before after (known_declared o past table) fits
fits_known o past Commit fits = tt
fits_known o past Abort fits = tt
fits_known o past Mark fits = tt
fits_known o past (Check group dep) fits = tt
fits_known o past Switch fits = tt
