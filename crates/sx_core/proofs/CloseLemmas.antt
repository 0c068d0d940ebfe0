-- Which tables are closed, by what the fields keep.
use Rattle.std.proofs.Common.{◌≡◌, ◌∷◌, ◌↔◌, [], ℕ, List, length, Bool, true, false, IsTrue, Option, Some, None, option_map, IsSome, refl, sym, ap, ◌∙◌, subst}
use Rattle.sx_values.specs.Names.{has_name}
use Rattle.sx_values.proofs.KeyLaws.{same_name-refl}
use Rattle.sx_locks.specs.declared.mode.Mode.{Mode}
use Rattle.sx_locks.specs.Locks.{mode_held, HoldsOn}
use Rattle.sx_ops.specs.declared.spec.Spec.{Spec}
use Rattle.sx_ops.specs.Checks.{IsShaped}
use Rattle.sx_ops.specs.Operators.{sources_of, targets_of}
use Rattle.sx_sync.specs.declared.Phase.{Phase}
use Rattle.sx_sync.specs.declared.Phase.TheVariants.{Draining}
use Rattle.sx_journal.specs.declared.entry.Entry.{Entry}
use Rattle.sx_journal.specs.declared.entry.Reply.{Reply}
use Rattle.sx_model.specs.Openings.{Opening}
use Rattle.sx_model.specs.Leaves.{Started, started, phase, txn_of}
use Rattle.sx_model.specs.Closed.{closed, closed_in, closed_by, unless_new, if_drained}
use Rattle.sx_model.specs.Switches.{has_lock_on, position}
use Rattle.sx_model.specs.Logs.{log_of}
use Rattle.sx_model.proofs.LegalLaws.{legal_progress, Progress, before, under_way}
use Rattle.sx_model.proofs.SourceLaws.{lock_shows, lock_there}
use Rattle.sx_core.specs.Kept.{Fields, IsKept}

-- a transformation that is kept was started
pub record StartedAs (past : List Entry) (spec : Spec) : Type 0 where
  pub s : Started
  pub is : started past ≡ Some s
  pub same : s.spec ≡ spec

pub started_as : (past : List Entry) (spec : Spec) → option_map (λ (s : Started). s.spec) (started past) ≡ Some spec → StartedAs past spec
started_as past spec kept = by (started past) refl kept
  where
    by : (at : Option Started) → started past ≡ at → option_map (λ (s : Started). s.spec) at ≡ Some spec → StartedAs past spec
    by None is e = absurd (cc)
    by (Some s) is e = record { s = s; is = is; same = (let h : Some s.spec ≡ Some spec = e in cc) }

pub shaped_now : (o : Opening) (past : List Entry) (f : Fields) (spec : Spec) → IsKept o past f → f.spec ≡ Some spec → IsShaped spec
shaped_now o past f spec kept is =
    let st = started_as past spec (sym kept.spec_is ∙ is) in
    subst IsShaped st.same (by st.s st.is (legal_progress o past kept.legal))
  where
    one : (a b : Started) → Some a ≡ Some b → a ≡ b
    one a b e = cc

    by : (s : Started) → started past ≡ Some s → Progress o.catalog (phase past) (started past) (position o past) (length (log_of o past)) → IsShaped s.spec
    by s st (before idle none) = absurd (let e : None ≡ Some s = sym none ∙ st in cc)
    by s st (under_way w) = subst (λ (t : Started). IsShaped t.spec) (one w.s s (sym w.this ∙ st)) w.shaped

-- a table is closed as the phase and the names say
pub closed-is : (o : Opening) (past : List Entry) (f : Fields) (actor : ℕ) (table : List ℕ) (spec : Spec) (at : Phase) → IsKept o past f → f.spec ≡ Some spec → f.now ≡ at
    → closed past actor table ≡ closed_in at (has_name (targets_of spec) table) (has_name (sources_of spec) table) (has_lock_on (sources_of spec) actor past)
closed-is o past f actor table spec at kept is now =
    let st = started_as past spec (sym kept.spec_is ∙ is) in
    ap (closed_by past actor table) st.is
    ∙ ap (λ p. closed_in p (has_name (targets_of st.s.spec) table) (has_name (sources_of st.s.spec) table) (has_lock_on (sources_of st.s.spec) actor past)) (sym kept.phase_is ∙ now)
    ∙ ap (λ (x : Spec). closed_in at (has_name (targets_of x) table) (has_name (sources_of x) table) (has_lock_on (sources_of x) actor past)) st.same

-- no table is closed where nothing was started
pub closed-none : (o : Opening) (past : List Entry) (f : Fields) (actor : ℕ) (table : List ℕ) → IsKept o past f → f.spec ≡ None → closed past actor table ≡ None
closed-none o past f actor table kept none = by (started past) refl
  where
    by : (s : Option Started) → started past ≡ s → closed past actor table ≡ None
    by None is = ap (closed_by past actor table) is
    by (Some s) is = absurd (let e : Some s.spec ≡ None = sym (ap (option_map (λ (t : Started). t.spec)) is) ∙ sym kept.spec_is ∙ none in cc)

-- a new table is hidden whatever comes behind it
pub still_hidden : (is_new is_source has_lock : Bool) (refusal : Reply) → unless_new is_new None ≡ Some refusal → closed_in Draining is_new is_source has_lock ≡ Some refusal
still_hidden true is_source has_lock refusal e = e
still_hidden false is_source has_lock refusal e = absurd (cc)

pub not_hidden : (is_new is_source has_lock : Bool) → unless_new is_new None ≡ None → closed_in Draining is_new is_source has_lock ≡ if_drained is_source has_lock
not_hidden true is_source has_lock e = absurd (cc)
not_hidden false is_source has_lock e = refl

-- ** a lock on a table, by the manager and by the journal **

same_truth : (a b : Bool) → (a ≡ true → b ≡ true) → (b ≡ true → a ≡ true) → a ≡ b
same_truth true true f g = refl
same_truth false false f g = refl
same_truth true false f g = sym (f refl)
same_truth false true f g = g refl

mode_of : (held : Option Mode) → IsSome held → (mode : Mode) × (held ≡ Some mode)
mode_of None some = absurd (cc)
mode_of (Some mode) some = (mode, refl)

own_name : (table : List ℕ) → has_name (table ∷ []) table ≡ true
own_name table = rw (same_name-refl table) refl

pub locks-shown : (o : Opening) (past : List Entry) (f : Fields) (actor txn : ℕ) (table : List ℕ) (any : Bool) → IsKept o past f → txn_of past actor ≡ Some txn → (IsTrue any ↔ HoldsOn f.managed.locks txn table) → any ≡ has_lock_on (table ∷ []) actor past
locks-shown o past f actor txn table any kept inside means =
    same_truth any (has_lock_on (table ∷ []) actor past)
    (λ holds.
    let on = means.0 holds in
    let m = mode_of (mode_held f.managed.locks txn table on.0) on.1 in
    lock_shows o past (table ∷ []) actor txn table on.0 m.0 kept.legal inside (own_name table) (sym (kept.manager_meets.locks txn table on.0) ∙ m.1))
    (λ shows.
    let l = lock_there o past actor txn table kept.legal inside shows in
    means.1 (l.key, subst IsSome (sym (kept.manager_meets.locks txn table l.key ∙ l.is)) refl))
