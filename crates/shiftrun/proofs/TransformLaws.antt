-- The propagator's turns at the end of a run, behind the rollbacks, to the switch.
use Rattle.std.proofs.Common.{◌≡◌, ◌<◌, ◌-◌, Bool, true, false, List, ◌∷◌, length, Option, Some, None, is_some, IsSome, option_map, Ok, Err, refl, sym, ap, ◌∙◌, subst, arith}
use Rattle.sx_image.specs.declared.image.Kind.{Kind}
use Rattle.sx_ops.specs.declared.spec.Spec.{Spec}
use Rattle.sx_sync.specs.declared.Strategy.{Strategy}
use Rattle.sx_sync.specs.declared.Phase.{Phase}
use Rattle.sx_sync.specs.declared.Phase.TheVariants.{Idle, Scanning, Chasing, Draining, Late, Done}
use Rattle.sx_journal.specs.declared.entry.Entry.{Entry}
use Rattle.sx_journal.specs.declared.entry.Event.{Event}
use Rattle.sx_journal.specs.declared.entry.PropLine.{PropLine}
use Rattle.sx_journal.specs.declared.entry.PropLine.TheVariants as prop
use Rattle.sx_model.specs.Openings.{Opening}
use Rattle.sx_model.specs.Leaves.{living, living_after, phase}
use Rattle.sx_model.specs.Schedules.{Plan, makes_event, holds_image, pace_event, propagator_event, propagator_turn, is_behind as behind_in, open_line, paces_left, next_turn}
use Rattle.sx_model.proofs.Outcomes.{Outcome, rests, begins, reads, writes, commits, undoes, aborts, starts, sees, fetches, conflicts, switches, outcome}
use Rattle.sx_model.proofs.ScriptLaws.{complete_at_end}
use Rattle.sx_model.proofs.TurnLaws.{stay_over, paces_stay_over}
use Rattle.sx_model.proofs.FinishLaws.{turn_in, transform_next}
use Rattle.sx_lines.specs.Forms.{IsPace}
use Rattle.sx_core.specs.Machines.{Machine}
use Rattle.sx_core.specs.declared.machine.CoreFault.{CoreFault}
use Rattle.shiftrun.specs.Holding.{Held, TakesOn, IsTurnedIf, IsPaceTurned, is_behind, last_line}
use Rattle.shiftrun.specs.Runs.{HasRolledBack, HasRun, ComesTo}
use Rattle.shiftrun.proofs.HoldLaws.{turned_legal, held_tells}
use Rattle.shiftrun.proofs.LineLaws.{turned}
use Rattle.shiftrun.proofs.StandLaws.{shorter_rest}
use Rattle.shiftrun.proofs.LeadLaws.{turn_stops}
use Rattle.shiftrun.proofs.PaceLaws.{event_of}

-- ** what is left to do **

-- where there is a line left to do, it makes an event
one_makes : (spec : Spec) (at : Phase) (behind : Bool) (what : PropLine) → last_line at behind ≡ Some what → makes_event (Some spec) (holds_image at) what ≡ true
one_makes spec Idle behind what is = (let same : prop.Start ≡ what = cc in ap (makes_event (Some spec) false) (sym same))
one_makes spec Scanning behind what is = (let same : prop.Scan 64 ≡ what = cc in ap (makes_event (Some spec) true) (sym same))
one_makes spec Chasing true what is = (let same : prop.Fetch 256 ≡ what = cc in ap (makes_event (Some spec) true) (sym same))
one_makes spec Chasing false what is = (let same : prop.Switch ≡ what = cc in ap (makes_event (Some spec) true) (sym same))
one_makes spec Draining true what is = (let same : prop.Fetch 256 ≡ what = cc in ap (makes_event (Some spec) true) (sym same))
one_makes spec Draining false what is = (let same : prop.Switch ≡ what = cc in ap (makes_event (Some spec) true) (sym same))
one_makes spec Late behind what is = absurd (cc)
one_makes spec Done behind what is = absurd (cc)

some_of : (change : Option Spec) → IsSome change → (spec : Spec) × (change ≡ Some spec)
some_of None some = absurd (cc)
some_of (Some spec) some = (spec, refl)

pub last_makes : (plan : Plan) (m : Machine) (image : Option Kind) (what : PropLine) → IsSome plan.change → Held m image → last_line (phase m.past) (is_behind m) ≡ Some what → makes_event plan.change (is_some image) what ≡ true
last_makes plan m image what some held is =
    let spec = some_of plan.change some in
    ap (λ change. makes_event change (is_some image) what) spec.1
    ∙ (ap (λ holds. makes_event (Some spec.0) holds what) (held_tells m image held) ∙ one_makes spec.0 (phase m.past) (is_behind m) what is)

-- it asks for few rows or records
pub last_few : (at : Phase) (behind : Bool) (what : PropLine) → last_line at behind ≡ Some what → IsPace what
last_few Idle behind what is = (let same : prop.Start ≡ what = cc in subst IsPace same tt)
last_few Scanning behind what is = (let same : prop.Scan 64 ≡ what = cc in subst IsPace same (record { from_one = omega arith; to_most = omega arith }))
last_few Chasing true what is = (let same : prop.Fetch 256 ≡ what = cc in subst IsPace same (record { from_one = omega arith; to_most = omega arith }))
last_few Chasing false what is = (let same : prop.Switch ≡ what = cc in subst IsPace same tt)
last_few Draining true what is = (let same : prop.Fetch 256 ≡ what = cc in subst IsPace same (record { from_one = omega arith; to_most = omega arith }))
last_few Draining false what is = (let same : prop.Switch ≡ what = cc in subst IsPace same tt)
last_few Late behind what is = absurd (cc)
last_few Done behind what is = absurd (cc)

-- and is what the script asks of the propagator
one_event : (spec : Spec) (strategy : Strategy) (at : Phase) (behind : Bool) (what : PropLine) → last_line at behind ≡ Some what → propagator_event (Some spec) strategy at behind ≡ pace_event (Some spec) strategy what
one_event spec strategy Idle behind what is = (let same : prop.Start ≡ what = cc in ap (pace_event (Some spec) strategy) same)
one_event spec strategy Scanning behind what is = (let same : prop.Scan 64 ≡ what = cc in ap (pace_event (Some spec) strategy) same)
one_event spec strategy Chasing true what is = (let same : prop.Fetch 256 ≡ what = cc in ap (pace_event (Some spec) strategy) same)
one_event spec strategy Chasing false what is = (let same : prop.Switch ≡ what = cc in ap (pace_event (Some spec) strategy) same)
one_event spec strategy Draining true what is = (let same : prop.Fetch 256 ≡ what = cc in ap (pace_event (Some spec) strategy) same)
one_event spec strategy Draining false what is = (let same : prop.Switch ≡ what = cc in ap (pace_event (Some spec) strategy) same)
one_event spec strategy Late behind what is = absurd (cc)
one_event spec strategy Done behind what is = absurd (cc)

no_event : (spec : Spec) (strategy : Strategy) (at : Phase) (behind : Bool) → last_line at behind ≡ None → propagator_event (Some spec) strategy at behind ≡ None
no_event spec strategy Idle behind is = absurd (cc)
no_event spec strategy Scanning behind is = absurd (cc)
no_event spec strategy Chasing behind is = absurd (cc)
no_event spec strategy Draining behind is = absurd (cc)
no_event spec strategy Late behind is = refl
no_event spec strategy Done behind is = refl

-- ** its turn **

-- the next turn behind the rollbacks
ends_next : (plan : Plan) (m : Machine) (spec : Spec) → plan.change ≡ Some spec → HasRolledBack plan m → next_turn plan m.past ≡ turn_in plan spec (phase m.past) (is_behind m)
ends_next plan m spec change has =
    transform_next plan m.past spec (phase m.past) has.lines.worked has.lines.passed has.rest change refl
    ∙ ap (turn_in plan spec (phase m.past)) same
  where
    same : behind_in plan m.past ≡ is_behind m
    same = ap (λ (o : Opening). is_behind (record { opening = o; past = m.past })) (sym has.lines.runs.opening)

record Due (plan : Plan) (m : Machine) (what : PropLine) : Type 0 where
  event : Event
  is : pace_event plan.change plan.strategy what ≡ Some event
  next : next_turn plan m.past ≡ Some (propagator_turn event)

last_due : (plan : Plan) (m : Machine) (image : Option Kind) (what : PropLine) → IsSome plan.change → HasRolledBack plan m → Held m image → last_line (phase m.past) (is_behind m) ≡ Some what → Due plan m what
last_due plan m image what some has held is =
    let spec = some_of plan.change some in
    let one = event_of plan.change plan.strategy (is_some image) what (last_makes plan m image what some held is) in
    record {
      event = one.0;
      is = one.1;
      next =
          ends_next plan m spec.0 spec.1 has
          ∙ ap (option_map propagator_turn) (one_event spec.0 plan.strategy (phase m.past) (is_behind m) what is ∙ (ap (λ change. pace_event change plan.strategy what) (sym spec.1) ∙ one.1));
    }

-- an entry of the propagator lets live who lives
lives_after : (o : Opening) (past : List Entry) (e : Entry) → e.actor ≡ 0 → Outcome o past e → living (e ∷ past) ≡ living past
lives_after o past e own (rests told) = ap (λ f. living_after e.actor f (living past)) told
lives_after o past e own (begins b) = absurd (let one = b.client.from_one in omega arith)
lives_after o past e own (reads r) = absurd (let one = r.client.from_one in omega arith)
lives_after o past e own (writes w) = absurd (let one = w.client.from_one in omega arith)
lives_after o past e own (commits c) = absurd (let one = c.client.from_one in omega arith)
lives_after o past e own (undoes u) = absurd (let one = u.client.from_one in omega arith)
lives_after o past e own (aborts a) = absurd (let one = a.client.from_one in omega arith)
lives_after o past e own (starts s) = ap (λ f. living_after e.actor f (living past)) s.told
lives_after o past e own (sees s) = ap (λ f. living_after e.actor f (living past)) s.told
lives_after o past e own (fetches f) = ap (λ g. living_after e.actor g (living past)) f.told
lives_after o past e own (conflicts a told) = ap (λ f. living_after e.actor f (living past)) told
lives_after o past e own (switches w) = ap (λ f. living_after e.actor f (living past)) w.told

-- the turn goes on with the run
pub last_on : (plan : Plan) (old new : Machine) (image behind : Option Kind) (what : PropLine) (done : Unit) → IsSome plan.change → HasRolledBack plan old → Held old image → last_line (phase old.past) (is_behind old) ≡ Some what → IsPaceTurned plan what old new behind (Ok done) → HasRolledBack plan new × Held new behind
last_on plan old new image behind what done some has held is turned_so = by (last_due plan old image what some has held is)
  where
    by : Due plan old what → HasRolledBack plan new × Held new behind
    by due =
        let taken : TakesOn old new behind 0 due.event = subst (λ event. IsTurnedIf old new behind event (Ok done)) due.is turned_so in
        let e : Entry = record { actor = 0; event = due.event; reply = taken.reply } in (
          record {
            lines = record {
              runs = turned plan old new 0 due.event taken.reply has.lines.runs due.next taken.turn;
              worked = ap (open_line plan) taken.turn.entry ∙ stay_over plan e old.past has.lines.worked;
              passed = ap (paces_left plan) taken.turn.entry ∙ paces_stay_over plan e old.past has.lines.passed;
            };
            rest = ap living taken.turn.entry ∙ (lives_after old.opening old.past e refl (outcome old.opening old.past e (turned_legal old new 0 due.event taken.reply taken.turn)) ∙ has.rest);
          },
          taken.held,
        )

-- it makes the journal longer
pub last_longer : (plan : Plan) (old new : Machine) (image behind : Option Kind) (what : PropLine) (done : Unit) → IsSome plan.change → HasRolledBack plan old → Held old image → last_line (phase old.past) (is_behind old) ≡ Some what → IsPaceTurned plan what old new behind (Ok done) → 60000 - length new.past < 60000 - length old.past
last_longer plan old new image behind what done some has held is turned_so =
    let due = last_due plan old image what some has held is in
    let taken : TakesOn old new behind 0 due.event = subst (λ event. IsTurnedIf old new behind event (Ok done)) due.is turned_so in
    shorter_rest old new 0 due.event taken.reply held.legal taken.turn

-- one that failed
pub last_fails : {A : Type 0} (Reached : A → Type 0) (plan : Plan) (old new : Machine) (image behind : Option Kind) (what : PropLine) (fault : CoreFault) → IsSome plan.change → HasRolledBack plan old → Held old image → last_line (phase old.past) (is_behind old) ≡ Some what → IsPaceTurned plan what old new behind (Err fault) → ComesTo Reached plan new (Err fault)
last_fails Reached plan old new image behind what fault some has held is turned_so =
    let due = last_due plan old image what some has held is in
    turn_stops Reached plan old new behind due.event fault has.lines.runs due.next (subst (λ event. IsTurnedIf old new behind event (Err fault)) due.is turned_so)

-- behind the switch the run has ended
pub last_end : (plan : Plan) (m : Machine) → IsSome plan.change → HasRolledBack plan m → last_line (phase m.past) (is_behind m) ≡ None → HasRun plan m
last_end plan m some has is =
    let spec = some_of plan.change some in
    record {
      runs = has.lines.runs;
      rest = has.rest;
      complete = complete_at_end plan m.past has.lines.runs.stepped (ends_next plan m spec.0 spec.1 has ∙ ap (option_map propagator_turn) (no_event spec.0 plan.strategy (phase m.past) (is_behind m) is));
    }
