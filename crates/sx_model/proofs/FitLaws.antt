-- In a legal journal each image of a record is a row that its table admits, of the record's key; before the switch each record is of a declared table.
use Rattle.std.proofs.Common.{◌≡◌, ◌+◌, ◌++◌, ◌⊎◌, inl, inr, ◌∷◌, [], ℕ, List, map, Bool, true, false, not, Option, Some, None, IsSomeAnd, option_map, refl, sym, ap, ◌∙◌, subst, if◌then◌else◌}
use Rattle.std.specs.List.{AllByRecursion}
use Rattle.sx_values.specs.declared.value.Value.{Value}
use Rattle.sx_values.specs.declared.catalog.Declared.{Declared}
use Rattle.sx_values.specs.Names.{same_name}
use Rattle.sx_values.specs.Values.{values_eq}
use Rattle.sx_values.specs.Layouts.{Layout, Admits, key_of}
use Rattle.sx_values.specs.Catalogs.{declared_as, schema_of}
use Rattle.sx_log.specs.declared.record.Rec.{Rec}
use Rattle.sx_log.specs.Images.{FitsImage, FitsTables}
use Rattle.sx_log.specs.State.{Stored}
use Rattle.sx_ops.specs.declared.spec.Spec.{Spec}
use Rattle.sx_ops.specs.declared.spec.Spec.TheVariants.{Join, Split, Part, Union}
use Rattle.sx_ops.specs.declared.spec.Test.{Test}
use Rattle.sx_ops.specs.Operators.{passes, rows_passing, rows_failing, columns_of}
use Rattle.sx_ops.specs.Targets.{part_targets, targets}
use Rattle.sx_sync.specs.declared.Phase.{Phase}
use Rattle.sx_sync.specs.declared.Phase.TheVariants.{Idle, Scanning, Chasing, Draining, Late, Done}
use Rattle.sx_journal.specs.declared.entry.Entry.{Entry}
use Rattle.sx_model.specs.Effects.{Effect, Nothing, Reads, Begins, Writes, Undoes, Commits, Aborts, effect}
use Rattle.sx_model.specs.Openings.{Opening}
use Rattle.sx_model.specs.Leaves.{Started, started, started_by, phase, phase_after, begun}
use Rattle.sx_model.specs.Logs.{log_of}
use Rattle.sx_model.specs.RowLists.{row_of_key}
use Rattle.sx_model.specs.Known.{adopted, new_tables, named_in, named_now, known}
use Rattle.sx_model.specs.NewRows.{rows_of, given, row_among, given_row, visible_in, first_in}
use Rattle.sx_model.specs.Legal.{Legal}
use Rattle.sx_model.proofs.TestLaws.{by_cases}
use Rattle.sx_model.proofs.LsnLaws.{values_eq_tells}
use Rattle.sx_model.proofs.AllLaws.{all_filter, all_each}
use Rattle.sx_model.proofs.Outcomes.{Outcome, rests, begins, reads, writes, commits, undoes, aborts, starts, sees, fetches, conflicts, switches, outcome}
use Rattle.sx_model.proofs.LegalLaws.{never_late}
use Rattle.sx_model.proofs.KnownLaws.{known_declared, known_new, open_schema, fits_known}
use Rattle.sx_model.proofs.ImageLaws.{AllFit, StateFits, FirstsFit, fits_after}
use Rattle.sx_model.proofs.ListedLaws.{rows_admitted}

-- ** what an entry leaves of how far the transformation has come **

pub phase_by : (past : List Entry) (e : Entry) (f : Effect) → effect e.reply ≡ f → phase (e ∷ past) ≡ phase_after (started past) f (phase past)
phase_by past e f told = ap (λ g. phase_after (started past) g (phase past)) told

pub started_is : (past : List Entry) (e : Entry) (f : Effect) → effect e.reply ≡ f → started (e ∷ past) ≡ started_by e.event f (started past)
started_is past e f told = ap (λ g. started_by e.event g (started past)) told

not_scanned : (at : Phase) → (at ≡ Chasing) ⊎ (at ≡ Draining) → at ≡ Done → ⊥
not_scanned at (inl e) done = cc
not_scanned at (inr e) done = cc

-- behind the switch the phase and the transformation stay
pub record Stays (past : List Entry) (e : Entry) : Type 0 where
  pub at : phase (e ∷ past) ≡ Done
  pub is : started (e ∷ past) ≡ started past

pub done_stays : (o : Opening) (past : List Entry) (e : Entry) → phase past ≡ Done → Outcome o past e → Stays past e
done_stays o past e done (rests told) = record { at = phase_by past e Nothing told ∙ done; is = started_is past e Nothing told }
done_stays o past e done (begins b) = record { at = phase_by past e (Begins (begun past + 1)) b.told ∙ done; is = started_is past e (Begins (begun past + 1)) b.told }
done_stays o past e done (reads r) = record { at = phase_by past e Reads r.told ∙ done; is = started_is past e Reads r.told }
done_stays o past e done (writes w) = record { at = phase_by past e Writes w.told ∙ done; is = started_is past e Writes w.told }
done_stays o past e done (commits c) = record { at = phase_by past e Commits c.told ∙ done; is = started_is past e Commits c.told }
done_stays o past e done (undoes u) = record { at = phase_by past e Undoes u.told ∙ done; is = started_is past e Undoes u.told }
done_stays o past e done (aborts a) = record { at = phase_by past e Aborts a.told ∙ done; is = started_is past e Aborts a.told }
done_stays o past e done (starts s) = absurd (let idle = s.idle in cc)
done_stays o past e done (sees s) = absurd (let scanning = s.turn.scanning in cc)
done_stays o past e done (fetches f) = absurd (not_scanned (phase past) f.scanned done)
done_stays o past e done (conflicts a told) = absurd (not_scanned (phase past) a.scanned done)
done_stays o past e done (switches w) = absurd (not_scanned (phase past) w.attempt.scanned done)

-- ** before the switch **

-- new tables have no rows
hidden : (at : Phase) (there : Option Stored) → (at ≡ Done → ⊥) → (at ≡ Late → ⊥) → visible_in at there ≡ None
hidden Idle there undone timely = refl
hidden Scanning there undone timely = refl
hidden Chasing there undone timely = refl
hidden Draining there undone timely = refl
hidden Late there undone timely = absurd (timely refl)
hidden Done there undone timely = absurd (undone refl)

pub first_none : (o : Opening) (past : List Entry) (log : List Rec) (table : List ℕ) (key : List Value) → (phase past ≡ Done → ⊥) → first_in o past log table key ≡ None
first_none o past log table key undone = by (declared_as o.catalog table)
  where
    by : (found : Option Declared) → ◌≡◌ {A = Option Stored} (elim found [ Some d ↦ None | None ↦ visible_in (phase past) (given_row o.catalog log (started past) table key) ]) None
    by (Some d) = refl
    by None = hidden (phase past) (given_row o.catalog log (started past) table key) undone (never_late past)

none_fits : (schema : List ℕ → Option Layout) (table : List ℕ) (key : List Value) (first : Option Stored) → first ≡ None → StateFits schema table key first
none_fits schema table key first none = subst (StateFits schema table key) (sym none) tt

-- each record is of a declared table
pub declared_fit : (o : Opening) (past : List Entry) → AllFit (schema_of o.catalog) o.loads → Legal o past → (phase past ≡ Done → ⊥) → AllFit (schema_of o.catalog) (log_of o past)
declared_fit o [] loads legal undone = loads
declared_fit o (e ∷ past) loads legal undone =
    let before : phase past ≡ Done → ⊥ = λ done. undone (done_stays o past e done (outcome o past e legal)).at in
    fits_after o past e (schema_of o.catalog) (declared_fit o past loads legal.0 before) (λ table key. none_fits (schema_of o.catalog) table key (first_in o past (log_of o past) table key) (first_none o past (log_of o past) table key before))
    (λ w. subst (λ l. IsSomeAnd l (λ m. FitsImage m w.key w.after)) (open_schema o past e.actor w.table before (never_late past) w.opened) w.fits) (outcome o past e legal)

-- ** what a transformation gives **

-- a row among rows that are admitted
found_fits : (layout : Layout) (rows : List (List Value)) (key : List Value) → AllByRecursion (Admits layout) rows → FitsImage layout key (row_of_key layout rows key)
found_fits layout [] key all = tt
found_fits layout (row ∷ rows) key all = by_cases (values_eq (key_of layout row) key)
    (λ here. rw here (all.0, sym (values_eq_tells (key_of layout row) key here)))
    (λ away. rw away (found_fits layout rows key all.1))

given_state : (schema : List ℕ → Option Layout) (layout : Layout) (table : List ℕ) (key : List Value) (row : Option (List Value)) → schema table ≡ Some layout → FitsImage layout key row → StateFits schema table key (option_map (λ r. (r, 0)) row)
given_state schema layout table key None is fit = tt
given_state schema layout table key (Some row) is fit = subst (λ l. IsSomeAnd l (λ m. FitsImage m key (Some row))) (sym is) fit

-- both tables of a horizontal split
part_given : (schema : List ℕ → Option Layout) (layout : Layout) (one other : List (List Value)) (passing failing table : List ℕ) (key : List Value) → AllByRecursion (Admits layout) one → AllByRecursion (Admits layout) other
    → schema table ≡ schema_of (map adopted (part_targets (Some layout) passing failing)) table → StateFits schema table key (option_map (λ r. (r, 0)) (row_among (part_targets (Some layout) passing failing) (one ∷ other ∷ []) table key))
part_given schema layout one other passing failing table key a b is = by (same_name passing table) refl (same_name failing table) refl
  where
    by : (c : Bool) → same_name passing table ≡ c → (d : Bool) → same_name failing table ≡ d → StateFits schema table key (option_map (λ r. (r, 0)) (if c then row_of_key layout one key else if d then row_of_key layout other key else None))
    by true p d q = given_state schema layout table key (row_of_key layout one key) (is ∙ rw p refl) (found_fits layout one key a)
    by false p true q = given_state schema layout table key (row_of_key layout other key) (is ∙ rw (p, q) refl) (found_fits layout other key b)
    by false p false q = tt

split_given : (o : Opening) (past : List Entry) (log : List Rec) (source : List ℕ) (schema : Option Layout) (tests : List Test) (passing failing table : List ℕ) (key : List Value) → schema_of o.catalog source ≡ schema → AllFit (schema_of (known o past)) log
    → schema_of (known o past) table ≡ schema_of (map adopted (part_targets schema passing failing)) table
    → StateFits (schema_of (known o past)) table key (option_map (λ r. (r, 0)) (row_among (part_targets schema passing failing) (rows_passing (columns_of o.catalog source) tests (rows_of log source) ∷ rows_failing (columns_of o.catalog source) tests (rows_of log source) ∷ []) table key))
split_given o past log source None tests passing failing table key is all new = tt
split_given o past log source (Some layout) tests passing failing table key is all new =
    let admitted = rows_admitted (schema_of (known o past)) layout log source all (known_declared o past source layout is) in
    part_given (schema_of (known o past)) layout (rows_passing (columns_of o.catalog source) tests (rows_of log source)) (rows_failing (columns_of o.catalog source) tests (rows_of log source)) passing failing table key
    (all_filter (Admits layout) (passes (columns_of o.catalog source) tests) (rows_of log source) admitted) (all_filter (Admits layout) (λ row. not (passes (columns_of o.catalog source) tests row)) (rows_of log source) admitted) new

spec_given : (o : Opening) (past : List Entry) (log : List Rec) (spec : Spec) (table : List ℕ) (key : List Value) → AllFit (schema_of (known o past)) log → schema_of (known o past) table ≡ schema_of (map adopted (targets o.catalog spec)) table
    → StateFits (schema_of (known o past)) table key (option_map (λ r. (r, 0)) (row_among (targets o.catalog spec) (given o.catalog log spec) table key))
spec_given o past log (Part source tests passing failing) table key all new = split_given o past log source (schema_of o.catalog source) tests passing failing table key refl all new
spec_given o past log (Join left right on_left on_right into) table key all new = tt
spec_given o past log (Split source by dep rest dependent) table key all new = tt
spec_given o past log (Union left right into) table key all new = tt

-- what keys had before the log fits the known tables
done_first : (o : Opening) (past : List Entry) (log : List Rec) (table : List ℕ) (key : List Value) → phase past ≡ Done → AllFit (schema_of (known o past)) log → declared_as o.catalog table ≡ None → StateFits (schema_of (known o past)) table key (given_row o.catalog log (started past) table key)
done_first o past log table key done all none = by (started past) refl
  where
    by : (s : Option Started) → started past ≡ s → StateFits (schema_of (known o past)) table key (given_row o.catalog log s table key)
    by None is = tt
    by (Some s) is =
        let named : named_now o past ≡ targets o.catalog s.spec = ap (λ at. named_in at (new_tables o.catalog (started past))) done ∙ ap (new_tables o.catalog) is in
        spec_given o past log s.spec table key all (known_new o past table none ∙ ap (λ tables. schema_of (map adopted tables) table) named)

pub firsts_fit : (o : Opening) (past : List Entry) (log : List Rec) → phase past ≡ Done → AllFit (schema_of (known o past)) log → FirstsFit (schema_of (known o past)) (first_in o past log)
firsts_fit o past log done all table key = by (declared_as o.catalog table) refl
  where
    by : (found : Option Declared) → declared_as o.catalog table ≡ found → StateFits (schema_of (known o past)) table key (elim found [ Some d ↦ None | None ↦ visible_in (phase past) (given_row o.catalog log (started past) table key) ])
    by (Some d) is = tt
    by None is = subst (λ at. StateFits (schema_of (known o past)) table key (visible_in at (given_row o.catalog log (started past) table key))) (sym done) (done_first o past log table key done all is)

-- ** each image of a record fits the known tables **

abbrev KnownFit : Opening → List Entry → Type 0
KnownFit o past = AllFit (schema_of (known o past)) (log_of o past)

from_declared : (o : Opening) (past : List Entry) → AllFit (schema_of o.catalog) (log_of o past) → KnownFit o past
from_declared o past all = all_each (λ (r : Rec). FitsTables (schema_of o.catalog) r.body) (λ (r : Rec). FitsTables (schema_of (known o past)) r.body) (λ r fits. fits_known o past r.body fits) (log_of o past) all

known_stays : (o : Opening) (past : List Entry) (e : Entry) → phase past ≡ Done → Stays past e → known o (e ∷ past) ≡ known o past
known_stays o past e done s =
    ap (λ at. o.catalog ++ map adopted (named_in at (new_tables o.catalog (started (e ∷ past))))) (s.at ∙ sym done)
    ∙ ap (λ t. o.catalog ++ map adopted (named_in (phase past) (new_tables o.catalog t))) s.is

pub is_done : (at : Phase) → (at ≡ Done) ⊎ (at ≡ Done → ⊥)
is_done Idle = inr (λ e. cc)
is_done Scanning = inr (λ e. cc)
is_done Chasing = inr (λ e. cc)
is_done Draining = inr (λ e. cc)
is_done Late = inr (λ e. cc)
is_done Done = inl refl

-- an entry that comes before the switch, or is the switch
pub fresh_fit : (o : Opening) (past : List Entry) (e : Entry) → AllFit (schema_of o.catalog) o.loads → Legal o (e ∷ past) → (phase past ≡ Done → ⊥) → AllFit (schema_of o.catalog) (log_of o (e ∷ past))
fresh_fit o past e loads legal undone =
    fits_after o past e (schema_of o.catalog) (declared_fit o past loads legal.0 undone) (λ table key. none_fits (schema_of o.catalog) table key (first_in o past (log_of o past) table key) (first_none o past (log_of o past) table key undone))
    (λ w. subst (λ l. IsSomeAnd l (λ m. FitsImage m w.key w.after)) (open_schema o past e.actor w.table undone (never_late past) w.opened) w.fits) (outcome o past e legal)

pub images_fit : (o : Opening) (past : List Entry) → AllFit (schema_of o.catalog) o.loads → Legal o past → KnownFit o past
images_fit o [] loads legal = from_declared o [] loads
images_fit o (e ∷ past) loads legal = by (is_done (phase past)) (images_fit o past loads legal.0)
  where
    by : (phase past ≡ Done) ⊎ (phase past ≡ Done → ⊥) → KnownFit o past → KnownFit o (e ∷ past)
    by (inr undone) all = from_declared o (e ∷ past) (fresh_fit o past e loads legal undone)
    by (inl done) all =
        subst (λ tables. AllFit (schema_of tables) (log_of o (e ∷ past))) (sym (known_stays o past e done (done_stays o past e done (outcome o past e legal))))
        (fits_after o past e (schema_of (known o past)) all (firsts_fit o past (log_of o past) done all) (λ w. w.fits) (outcome o past e legal))
