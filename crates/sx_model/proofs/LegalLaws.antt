-- Legal journals: how far a transformation has come.
use Rattle.std.proofs.Common.{◌≡◌, ◌≤◌, ◌+◌, ◌⊎◌, ◌↔◌, ◌++◌, ℕ, suc, min, unwrap_or, Bool, true, false, List, [], ◌∷◌, length, Option, Some, None, refl, sym, ap, subst, inl, inr, arith, if◌then◌else◌}
use Rattle.std.proofs.Math.Nat.{min-le_right, le-min}
use Rattle.std.specs.Option.{option_to_list}
use Rattle.sx_log.specs.declared.record.Rec.{Rec}
use Rattle.sx_values.specs.declared.catalog.Declared.{Declared}
use Rattle.sx_ops.specs.Checks.{IsShaped, spec_fault}
use Rattle.sx_sync.specs.declared.Strategy.TheVariants.{Blocking}
use Rattle.sx_sync.specs.declared.Phase.{Phase}
use Rattle.sx_sync.specs.declared.Phase.TheVariants.{Idle, Scanning, Chasing, Draining, Late, Done}
use Rattle.sx_journal.specs.declared.entry.Entry.{Entry}
use Rattle.sx_model.specs.Effects.{Effect, Nothing, Reads, Begins, Writes, Undoes, Commits, Aborts, Starts, Sees, Fetches, Checks, Conflicts, Violates, Switches, Cancels, effect}
use Rattle.sx_model.specs.Openings.{Opening}
use Rattle.sx_model.specs.Leaves.{begun, Started, started, started_as, started_by, drains, txn_of, phase, phase_after}
use Rattle.sx_model.specs.Logs.{log_of, next_lsn, effect_record}
use Rattle.sx_model.specs.Switches.{position, position_after}
use Rattle.sx_model.specs.Legal.{Legal}
use Rattle.sx_model.proofs.Outcomes.{Starting, Outcome, rests, begins, reads, writes, commits, undoes, aborts, starts, sees, fetches, conflicts, switches, outcome}
use Rattle.sx_model.specs.Known.{known}
use Rattle.sx_model.specs.NewRows.{row_in}
use Rattle.sx_model.proofs.EntryLaws.{log_after, option_longer}

-- the phase is never Late
late_after : (s : Option Started) (f : Effect) (at : Phase) → (at ≡ Late → ⊥) → phase_after s f at ≡ Late → ⊥
late_after s Nothing at never e = never e
late_after s Reads at never e = never e
late_after s (Begins txn) at never e = never e
late_after s Writes at never e = never e
late_after s Undoes at never e = never e
late_after s Commits at never e = never e
late_after s Aborts at never e = never e
late_after s (Starts mark) at never e = cc
late_after s (Sees lsns true) at never e = cc
late_after s (Sees lsns false) at never e = never e
late_after s (Fetches place) at never e = never e
late_after s Checks at never e = never e
late_after s Conflicts at never e = drained (drains s) at never e
  where
    drained : (drain : Bool) (at : Phase) → (at ≡ Late → ⊥) → (if drain then Draining else at) ≡ Late → ⊥
    drained true at never e = cc
    drained false at never e = never e
late_after s Violates at never e = cc
late_after s Switches at never e = cc
late_after s Cancels at never e = cc

pub never_late : (past : List Entry) → phase past ≡ Late → ⊥
never_late [] e = cc
never_late (x ∷ past) e = late_after (started past) (effect x.reply) (phase past) (never_late past) e

-- a transformation that was started, at a phase, with a position in a log of some length
pub record UnderWay (catalog : List Declared) (at : Phase) (is : Option Started) (position end : ℕ) : Type 0 where
  pub s : Started
  pub this : is ≡ Some s
  pub running : at ≡ Idle → ⊥
  pub shaped : IsShaped s.spec
  pub fits : spec_fault catalog s.spec ≡ None
  pub blocking : s.strategy ≡ Blocking
  pub from_one : 1 ≤ s.mark
  pub within : s.mark ≤ end
  -- the propagator has read the log up to the Mark or further, while it scans no further
  pub behind : s.mark ≤ position
  pub read : position ≤ end
  pub scans : at ≡ Scanning → position ≡ s.mark

-- nothing was started, exactly while the phase is Idle
pub data Progress (catalog : List Declared) (at : Phase) (is : Option Started) (position end : ℕ) : Type 0 where
  before : at ≡ Idle → is ≡ None → Progress catalog at is position end
  under_way : UnderWay catalog at is position end → Progress catalog at is position end

-- how far a journal's transformation has come
abbrev pub HowFar : Opening → List Entry → Type 0
HowFar o past = Progress o.catalog (phase past) (started past) (position o past) (length (log_of o past))

-- the same behind an entry with this effect
abbrev HowFarAfter : Opening → List Entry → Entry → Effect → Type 0
HowFarAfter o past e f =
    Progress o.catalog (phase_after (started past) f (phase past)) (started_by e.event f (started past)) (position_after (length (log_after o past e f)) f (position o past)) (length (log_after o past e f))

far_by : (o : Opening) (past : List Entry) (e : Entry) (f : Effect) → effect e.reply ≡ f → HowFarAfter o past e f → HowFar o (e ∷ past)
far_by o past e f told after = subst (HowFarAfter o past e) (sym told) after

none_before : (catalog : List Declared) (at : Phase) (is : Option Started) (position end : ℕ) → Progress catalog at is position end → at ≡ Idle → is ≡ None
none_before catalog at is position end (before idle none) e = none
none_before catalog at is position end (under_way u) e = absurd (u.running e)

-- a record more
longer_far : (catalog : List Declared) (at : Phase) (is : Option Started) (position end longer : ℕ) → end ≤ longer → Progress catalog at is position end → Progress catalog at is position longer
longer_far catalog at is position end longer more (before idle none) = before idle none
longer_far catalog at is position end longer more (under_way u) = under_way (record {
  s = u.s;
  this = u.this;
  running = u.running;
  shaped = u.shaped;
  fits = u.fits;
  blocking = u.blocking;
  from_one = u.from_one;
  within = (let h = u.within in omega arith);
  behind = u.behind;
  read = (let h = u.read in omega arith);
  scans = u.scans;
})

recorded : (o : Opening) (past : List Entry) (item : Option Rec) → HowFar o past → Progress o.catalog (phase past) (started past) (position o past) (length (option_to_list item ++ log_of o past))
recorded o past item far = longer_far o.catalog (phase past) (started past) (position o past) (length (log_of o past)) (length (option_to_list item ++ log_of o past)) (option_longer item (log_of o past)) far

scanned_busy : (at : Phase) → (at ≡ Chasing) ⊎ (at ≡ Draining) → at ≡ Idle → ⊥
scanned_busy at (inl e) idle = cc
scanned_busy at (inr e) idle = cc

-- a fetch
fetched_far : (catalog : List Declared) (at : Phase) (is : Option Started) (position end n place : ℕ) → place ≡ min (position + n) end → (at ≡ Chasing) ⊎ (at ≡ Draining) → Progress catalog at is position end → Progress catalog at is place end
fetched_far catalog at is position end n place up_to scanned (before idle none) = absurd (scanned_busy at scanned idle)
fetched_far catalog at is position end n place up_to scanned (under_way u) = under_way (record {
  s = u.s;
  this = u.this;
  running = u.running;
  shaped = u.shaped;
  fits = u.fits;
  blocking = u.blocking;
  from_one = u.from_one;
  within = u.within;
  behind = (let h = u.behind in let w = u.within in let l = le-min {k = u.s.mark} {a = position + n} {b = end} (omega arith) w in omega arith);
  read = (let l = min-le_right (position + n) end in omega arith);
  scans = λ scanning. absurd (not_scanning at scanned scanning);
})
  where
    not_scanning : (at : Phase) → (at ≡ Chasing) ⊎ (at ≡ Draining) → at ≡ Scanning → ⊥
    not_scanning at (inl e) scanning = cc
    not_scanning at (inr e) scanning = cc

now_under_way : (o : Opening) (past : List Entry) (e : Entry) → Starting o past e → HowFarAfter o past e (Starts (next_lsn o past))
now_under_way o past e s = under_way (record {
  s = record { spec = s.spec; strategy = Blocking; mark = next_lsn o past };
  this = ap (λ asked. started_as asked (next_lsn o past) (started past)) s.asked;
  running = λ same. cc;
  shaped = s.shaped;
  fits = s.fits;
  blocking = refl;
  from_one = omega arith;
  within = omega arith;
  behind = omega arith;
  read = omega arith;
  scans = λ scanning. refl;
})

-- where the phase alone moves, and not to Idle or Done
moved_on : (catalog : List Declared) (at next : Phase) (is : Option Started) (position end : ℕ) → (at ≡ Idle → ⊥) → (next ≡ Idle → ⊥) → (next ≡ Scanning → ⊥) → Progress catalog at is position end → Progress catalog next is position end
moved_on catalog at next is position end busy more scanned (before idle none) = absurd (busy idle)
moved_on catalog at next is position end busy more scanned (under_way u) = under_way (record {
  s = u.s;
  this = u.this;
  running = more;
  shaped = u.shaped;
  fits = u.fits;
  blocking = u.blocking;
  from_one = u.from_one;
  within = u.within;
  behind = u.behind;
  read = u.read;
  scans = λ scanning. absurd (scanned scanning);
})

seen_far : (o : Opening) (past : List Entry) (last : Bool) → phase past ≡ Scanning → HowFar o past → Progress o.catalog (if last then Chasing else phase past) (started past) (position o past) (length (log_of o past))
seen_far o past true scanning far = moved_on o.catalog (phase past) Chasing (started past) (position o past) (length (log_of o past)) (λ idle. cc) (λ idle. cc) (λ scanning. cc) far
seen_far o past false scanning far = far

drain_far : (o : Opening) (past : List Entry) (drain : Bool) → (phase past ≡ Idle → ⊥) → HowFar o past → Progress o.catalog (if drain then Draining else phase past) (started past) (position o past) (length (log_of o past))
drain_far o past true busy far = moved_on o.catalog (phase past) Draining (started past) (position o past) (length (log_of o past)) busy (λ idle. cc) (λ scanning. cc) far
drain_far o past false busy far = far

switched_far : (catalog : List Declared) (at : Phase) (is : Option Started) (position end : ℕ) → (at ≡ Idle → ⊥) → Progress catalog at is position end → Progress catalog Done is position (suc end)
switched_far catalog at is position end busy (before idle none) = absurd (busy idle)
switched_far catalog at is position end busy (under_way u) = under_way (record {
  s = u.s;
  this = u.this;
  running = λ idle. cc;
  shaped = u.shaped;
  fits = u.fits;
  blocking = u.blocking;
  from_one = u.from_one;
  within = (let h = u.within in omega arith);
  behind = u.behind;
  read = (let h = u.read in omega arith);
  scans = λ scanning. cc;
})

far_after : (o : Opening) (past : List Entry) (e : Entry) → HowFar o past → Outcome o past e → HowFar o (e ∷ past)
far_after o past e far (rests told) = far_by o past e Nothing told far
far_after o past e far (begins b) = far_by o past e (Begins (begun past + 1)) b.told far
far_after o past e far (writes w) = far_by o past e Writes w.told (recorded o past (effect_record (known o past) (row_in o past (log_of o past)) (log_of o past) (unwrap_or (txn_of past e.actor) 0) e.event Writes) far)
far_after o past e far (reads r) = far_by o past e Reads r.told far
far_after o past e far (undoes u) = far_by o past e Undoes u.told (recorded o past (effect_record (known o past) (row_in o past (log_of o past)) (log_of o past) (unwrap_or (txn_of past e.actor) 0) e.event Undoes) far)
far_after o past e far (aborts a) = far_by o past e Aborts a.told (recorded o past (effect_record (known o past) (row_in o past (log_of o past)) (log_of o past) (unwrap_or (txn_of past e.actor) 0) e.event Aborts) far)
far_after o past e far (commits c) = far_by o past e Commits c.told (recorded o past (effect_record (known o past) (row_in o past (log_of o past)) (log_of o past) (unwrap_or (txn_of past e.actor) 0) e.event Commits) far)
far_after o past e far (starts s) = far_by o past e (Starts (next_lsn o past)) s.told (now_under_way o past e s)
far_after o past e far (sees s) = far_by o past e (Sees s.lsns s.last) s.told (seen_far o past s.last s.turn.scanning far)
far_after o past e far (fetches f) = far_by o past e (Fetches f.place) f.told (fetched_far o.catalog (phase past) (started past) (position o past) (length (log_of o past)) f.size f.place f.up_to f.scanned far)
far_after o past e far (conflicts a told) = far_by o past e Conflicts told (drain_far o past (drains (started past)) (scanned_busy (phase past) a.scanned) far)
far_after o past e far (switches w) = far_by o past e Switches w.told (switched_far o.catalog (phase past) (started past) (position o past) (length (log_of o past)) (scanned_busy (phase past) w.attempt.scanned) far)

-- in a legal journal nothing was started exactly while the phase is Idle, and what was started is as it must be
pub legal_progress : (o : Opening) (past : List Entry) → Legal o past → HowFar o past
legal_progress o [] l = before refl refl
legal_progress o (e ∷ past) l = far_after o past e (legal_progress o past l.0) (outcome o past e l)

idle_of : (catalog : List Declared) (at : Phase) (is : Option Started) (position end : ℕ) → Progress catalog at is position end → is ≡ None → at ≡ Idle
idle_of catalog at is position end (before idle none) e = idle
idle_of catalog at is position end (under_way u) e = (let this = u.this in absurd (cc))

pub idle_unstarted : (o : Opening) (past : List Entry) → Legal o past → (phase past ≡ Idle) ↔ (started past ≡ None)
idle_unstarted o past l =
    let far = legal_progress o past l in
    (none_before o.catalog (phase past) (started past) (position o past) (length (log_of o past)) far, idle_of o.catalog (phase past) (started past) (position o past) (length (log_of o past)) far)
