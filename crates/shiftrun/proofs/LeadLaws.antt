-- The propagator's lines before a client's: each goes on with the run, its image and no client.
use Rattle.std.proofs.Common.{◌≡◌, ◌≤◌, ◌<◌, ◌-◌, ◌==◌, ℕ, suc, true, false, List, ◌∷◌, length, Option, Some, None, is_some, option_map, Ok, Err, refl, sym, ap, ◌∙◌, subst, arith}
use Rattle.std.specs.Prelude.{slice_get, take, drop}
use Rattle.std.specs.List.{AllByRecursion}
use Rattle.std.proofs.lemmas.Bool.Decides.{nat_tests}
use Rattle.sx_image.specs.declared.image.Kind.{Kind}
use Rattle.sx_journal.specs.declared.entry.Entry.{Entry}
use Rattle.sx_journal.specs.declared.entry.Event.{Event}
use Rattle.sx_journal.specs.declared.entry.PropLine.{PropLine}
use Rattle.sx_journal.specs.Courses.{Progress, index_of, place_of, line_at as place_at}
use Rattle.sx_model.specs.Leaves.{phase}
use Rattle.sx_model.specs.Schedules.{Plan, Line, Pace, holds_image, from_event, paces_left, makes_event, pace_event, propagator_turn, commands_of, standing_of, open_line, next_turn}
use Rattle.sx_model.proofs.ScriptLaws.{count_of}
use Rattle.sx_model.proofs.TurnLaws.{standing_other}
use Rattle.sx_lines.specs.Forms.{IsPace}
use Rattle.sx_script.specs.Sound.{IsClients, ArePaces}
use Rattle.sx_core.specs.Machines.{Machine}
use Rattle.sx_core.specs.declared.machine.CoreFault.{CoreFault}
use Rattle.sx_core.specs.declared.machine.CoreFault.TheVariants.{Memory, Full}
use Rattle.shiftrun.specs.declared.lines.OwnLine.{OwnLine}
use Rattle.shiftrun.specs.declared.lines.Pacing.{Pacing}
use Rattle.shiftrun.specs.Holding.{Held, TakesOn, IsTurned, IsTurnedIf, IsPaceTurned}
use Rattle.shiftrun.specs.Runs.{Runs, HasRunLines, HasStopped, ComesTo}
use Rattle.shiftrun.specs.Lines.{IsPaced, WaitsFor, TakesNext, open_place, IsDue, IsAhead, GoesOn, IsPassed, IsLed, IsWorked, PropagatorRests}
use Rattle.shiftrun.proofs.HoldLaws.{held_tells}
use Rattle.shiftrun.proofs.PaceLaws.{next_stays, next_makes, next_among, pace_next, event_of, paced_next, paced_still, none_waits, same_open, own_command}
use Rattle.shiftrun.proofs.PlaceLaws.{line_at, times_count}
use Rattle.shiftrun.proofs.LineLaws.{turned, stops, due_open, goes_by, goes_nowhere, goes_further, still_passed}
use Rattle.shiftrun.proofs.StandLaws.{shorter_rest}

-- at first nothing is led
pub led_first : (plan : Plan) (machine : Machine) (image : Option Kind) (pacing : Pacing) → Runs plan machine → Held machine image → IsPaced plan machine.past pacing → IsLed plan machine.past machine image pacing
led_first plan machine image pacing runs held paced = record { runs = runs; held = held; paced = paced; goes_on = goes_nowhere plan 0 machine.past; same_line = refl }

-- the lines that are left, by the pacing and the image
left_is : (plan : Plan) (machine : Machine) (image : Option Kind) (pacing : Pacing) → Held machine image → IsPaced plan machine.past pacing → from_event plan.change (is_some image) (drop pacing.next pacing.paces) ≡ paces_left plan machine.past
left_is plan machine image pacing held paced =
    ap (λ paces. from_event plan.change (is_some image) (drop pacing.next paces)) paced.paces
    ∙ (ap (λ holds. from_event plan.change holds (drop pacing.next plan.paces)) (held_tells machine image held) ∙ sym paced.left)

pub takes_left : (plan : Plan) (machine : Machine) (image : Option Kind) (pacing : Pacing) (until : Option ℕ) (after : List Pace) (taken : Option PropLine) → Held machine image → IsPaced plan machine.past pacing
    → TakesNext until (from_event plan.change (is_some image) (drop pacing.next pacing.paces)) after taken → TakesNext until (paces_left plan machine.past) after taken
takes_left plan machine image pacing until after taken held paced takes = subst (λ left. TakesNext until left after taken) (left_is plan machine image pacing held paced) takes

-- the line that is taken makes an event, and asks for few
pub taken_makes : (plan : Plan) (image : Option Kind) (pacing : Pacing) (until : Option ℕ) (after : List Pace) (what : PropLine) → TakesNext until (from_event plan.change (is_some image) (drop pacing.next pacing.paces)) after (Some what) → makes_event plan.change (is_some image) what ≡ true
taken_makes plan image pacing until after what takes = next_makes plan.change (is_some image) (drop pacing.next pacing.paces) (record { line = takes.0; what = what }) after takes.1

pub taken_few : (plan : Plan) (machine : Machine) (image : Option Kind) (pacing : Pacing) (until : Option ℕ) (after : List Pace) (what : PropLine) → ArePaces plan.change plan.paces → IsPaced plan machine.past pacing
    → TakesNext until (from_event plan.change (is_some image) (drop pacing.next pacing.paces)) after (Some what) → IsPace what
taken_few plan machine image pacing until after what are paced takes =
    next_among (λ (p : Pace). IsPace p.what) plan.change (is_some image) plan.paces pacing.next (record { line = takes.0; what = what }) after are.few
    (ap (λ paces. from_event plan.change (is_some image) (drop pacing.next paces)) (sym paced.paces) ∙ takes.1)

-- its event is the next turn
record Due (plan : Plan) (machine : Machine) (what : PropLine) : Type 0 where
  event : Event
  is : pace_event plan.change plan.strategy what ≡ Some event
  next : next_turn plan machine.past ≡ Some (propagator_turn event)

taken_due : (plan : Plan) (machine : Machine) (image : Option Kind) (pacing : Pacing) (until : Option ℕ) (after : List Pace) (what : PropLine) → Held machine image → IsPaced plan machine.past pacing → until ≡ open_place plan machine.past
    → TakesNext until (from_event plan.change (is_some image) (drop pacing.next pacing.paces)) after (Some what) → Due plan machine what
taken_due plan machine image pacing until after what held paced at takes =
    let one = event_of plan.change plan.strategy (is_some image) what (taken_makes plan image pacing until after what takes) in
    let left = takes_left plan machine image pacing until after (Some what) held paced takes in
    record {
      event = one.0;
      is = one.1;
      next = pace_next plan machine.past until (record { line = left.0; what = what }) after at left.1 left.2 ∙ ap (option_map propagator_turn) one.1;
    }

-- a turn of a line of the propagator goes on with the run
pub led_on : (plan : Plan) (before : List Entry) (old new : Machine) (image behind : Option Kind) (pacing next : Pacing) (until : Option ℕ) (what : PropLine) (done : Unit) → AllByRecursion IsClients plan.lines → until ≡ open_place plan old.past
    → IsLed plan before old image pacing → TakesNext until (from_event plan.change (is_some image) (drop pacing.next pacing.paces)) (drop next.next next.paces) (Some what) → next.paces ≡ pacing.paces → next.is_asked ≡ pacing.is_asked → IsPaceTurned plan what old new behind (Ok done)
    → IsLed plan before new behind next
led_on plan before old new image behind pacing next until what done clients at led takes kept same turned_so = by (taken_due plan old image pacing until (drop next.next next.paces) what led.held led.paced at takes)
  where
    by : Due plan old what → IsLed plan before new behind next
    by due =
        let taken : TakesOn old new behind 0 due.event = subst (λ event. IsTurnedIf old new behind event (Ok done)) due.is turned_so in
        let e : Entry = record { actor = 0; event = due.event; reply = taken.reply } in
        let left = takes_left plan old image pacing until (drop next.next next.paces) (Some what) led.held led.paced takes in
        record {
          runs = turned plan old new 0 due.event taken.reply led.runs due.next taken.turn;
          held = taken.held;
          paced = paced_next plan old new due.event taken.reply (record { line = left.0; what = what }) (drop next.next next.paces) next left.1 taken.turn (kept ∙ led.paced.paces) (same ∙ led.paced.asked) refl;
          goes_on = goes_further plan 0 before old.past new.past led.goes_on (subst (GoesOn plan 0 old.past) (sym taken.turn.entry) (goes_by plan e old.past));
          same_line =
              ap (open_line plan) taken.turn.entry
              ∙ (same_open plan.lines (λ client. index_of (standing_of plan client (e ∷ old.past))) (λ client. index_of (standing_of plan client old.past)) clients
              (λ client one. ap index_of (standing_other plan client e old.past (let other : (0 == client) ≡ false = grind (arith, nat_tests) in other)))
              ∙ led.same_line);
        }

-- a line that waits leaves the run
pub led_waits : (plan : Plan) (before : List Entry) (machine : Machine) (image : Option Kind) (pacing next : Pacing) (until : Option ℕ) → IsLed plan before machine image pacing → TakesNext until (from_event plan.change (is_some image) (drop pacing.next pacing.paces)) (drop next.next next.paces) None
    → next.paces ≡ pacing.paces → next.is_asked ≡ pacing.is_asked → IsLed plan before machine image next × WaitsFor until (paces_left plan machine.past)
led_waits plan before machine image pacing next until led takes kept same = (
  record {
    runs = led.runs;
    held = led.held;
    paced = record {
      paces = kept ∙ led.paced.paces;
      asked = same ∙ led.paced.asked;
      left =
          led.paced.left
          ∙ (sym (next_stays plan.change (holds_image (phase machine.past)) (drop pacing.next plan.paces))
          ∙ ap (from_event plan.change (holds_image (phase machine.past))) (sym led.paced.left ∙ (sym (left_is plan machine image pacing led.held led.paced) ∙ (sym takes.0 ∙ ap (drop next.next) (kept ∙ led.paced.paces)))));
    };
    goes_on = led.goes_on;
    same_line = led.same_line;
  },
  subst (WaitsFor until) (left_is plan machine image pacing led.held led.paced) takes.1,
)

-- it makes the journal longer
pub led_longer : (plan : Plan) (old new : Machine) (image behind : Option Kind) (pacing : Pacing) (until : Option ℕ) (after : List Pace) (what : PropLine) (done : Unit) → Held old image → IsPaced plan old.past pacing → until ≡ open_place plan old.past
    → TakesNext until (from_event plan.change (is_some image) (drop pacing.next pacing.paces)) after (Some what) → IsPaceTurned plan what old new behind (Ok done) → 60000 - length new.past < 60000 - length old.past
led_longer plan old new image behind pacing until after what done held paced at takes turned_so =
    let due = taken_due plan old image pacing until after what held paced at takes in
    let taken : TakesOn old new behind 0 due.event = subst (λ event. IsTurnedIf old new behind event (Ok done)) due.is turned_so in
    shorter_rest old new 0 due.event taken.reply held.legal taken.turn

-- one that failed
pub turn_stops : {A : Type 0} (Reached : A → Type 0) (plan : Plan) (old new : Machine) (image : Option Kind) (event : Event) (fault : CoreFault) → Runs plan old → next_turn plan old.past ≡ Some (propagator_turn event) → IsTurned old new image 0 event (Err fault) → ComesTo Reached plan new (Err fault)
turn_stops Reached plan old new image event Memory runs next fails = tt
turn_stops Reached plan old new image event Full runs next fails = subst (HasStopped plan) (sym fails.0) (stops plan old 0 event runs next fails.1)

pub led_fails : {A : Type 0} (Reached : A → Type 0) (plan : Plan) (before : List Entry) (old new : Machine) (image behind : Option Kind) (pacing : Pacing) (until : Option ℕ) (after : List Pace) (what : PropLine) (fault : CoreFault) → until ≡ open_place plan old.past
    → IsLed plan before old image pacing → TakesNext until (from_event plan.change (is_some image) (drop pacing.next pacing.paces)) after (Some what) → IsPaceTurned plan what old new behind (Err fault) → ComesTo Reached plan new (Err fault)
led_fails Reached plan before old new image behind pacing until after what fault at led takes turned_so =
    let due = taken_due plan old image pacing until after what led.held led.paced at takes in
    turn_stops Reached plan old new behind due.event fault led.runs due.next (subst (λ event. IsTurnedIf old new behind event (Err fault)) due.is turned_so)

-- ** a client's line behind them **

-- the number of a line that is due is that of its course
course_place : (plan : Plan) (machine : Machine) (course : Progress) (line : OwnLine) (due : IsDue plan machine course line) (l : Line) → slice_get plan.lines due.done ≡ Some l → l.client ≡ line.client → index_of course.standing ≤ line.index → place_at course.commands course.standing ≡ l.command.line
course_place plan machine course line due l here client few =
    let stands : index_of course.standing ≡ index_of (standing_of plan line.client machine.past) = ap (λ (p : Progress). index_of p.standing) due.is_course in
    let passed = due.passed line.client in
    let index = due.index in
    let at : index_of course.standing ≡ count_of line.client (take due.done plan.lines) = (let e : index_of course.standing ≡ line.index = omega arith in e ∙ due.index ∙ times_count line.client due.done plan.lines) in
    ap place_of (ap (λ (p : Progress). slice_get p.commands (index_of course.standing)) due.is_course ∙ (ap (slice_get (commands_of plan line.client)) at ∙ own_command plan.lines due.done line.client l here client))

-- so the first open line is at the place of the course
pub due_place : (plan : Plan) (machine : Machine) (course : Progress) (line : OwnLine) → IsDue plan machine course line → index_of course.standing ≤ line.index → Some (place_at course.commands course.standing) ≡ open_place plan machine.past
due_place plan machine course line due few =
    let at = line_at plan.lines due.done line.client due.here in
    let place : index_of (standing_of plan line.client machine.past) ≤ line.index = subst (λ (p : Progress). index_of p.standing ≤ line.index) due.is_course few in
    ap Some (course_place plan machine course line due at.line at.here at.of_client few) ∙ sym (ap (option_map (λ (l : Line). l.command.line)) (due_open plan machine course line due at place))

-- and the line is due, and waited for, behind the propagator's lines before it
pub led_ahead : (plan : Plan) (old new : Machine) (image : Option Kind) (pacing : Pacing) (course : Progress) (line : OwnLine) → 1 ≤ line.client → IsDue plan old course line → index_of course.standing ≤ line.index → IsLed plan old.past new image pacing → WaitsFor (Some (place_at course.commands course.standing)) (paces_left plan new.past)
    → IsAhead plan new course line
led_ahead plan old new image pacing course line one due few led waits = record {
  due = record {
    runs = led.runs;
    is_course = due.is_course ∙ ap (λ s. record { commands = commands_of plan line.client; retries = plan.retries; standing = s }) (sym (led.goes_on.others line.client one (let other : (line.client == 0) ≡ false = grind (arith, nat_tests) in other)));
    done = due.done;
    here = due.here;
    index = due.index;
    passed = still_passed plan 0 due.done old.past new.past led.goes_on due.passed;
  };
  waits = λ l here.
      let at = line_at plan.lines due.done line.client due.here in
      let same : l ≡ at.line = (let e : Some l ≡ Some at.line = sym here ∙ at.here in cc) in
      subst (λ place. WaitsFor (Some place) (paces_left plan new.past)) (course_place plan old course line due l here (ap (λ (o : Line). o.client) same ∙ at.of_client) few) waits;
}

-- a line that is passed behind them
led_passes : (plan : Plan) (before between after : List Entry) (client : ℕ) → GoesOn plan 0 before between → GoesOn plan client between after → GoesOn plan client before after
led_passes plan before between after client one two = record {
  forward = λ other. (let h = one.forward other in let more = two.forward other in omega arith);
  others = λ other from differs. two.others other from differs ∙ one.others other from (let differing : (other == 0) ≡ false = grind (arith, nat_tests) in differing);
}

pub led_worked : (plan : Plan) (old between new : Machine) (image : Option Kind) (pacing : Pacing) (course : Progress) (line : OwnLine) → IsLed plan old.past between image pacing → IsPassed plan between.past new course line → PropagatorRests plan between.past new.past → Held new image
    → IsWorked plan old.past new image pacing course line
led_worked plan old between new image pacing course line led passed rests held = record {
  passed = record {
    runs = passed.runs;
    is_course = passed.is_course;
    passed = passed.passed;
    goes_on = led_passes plan old.past between.past new.past line.client led.goes_on passed.goes_on;
  };
  held = held;
  paced = paced_still plan between.past new.past pacing rests led.paced;
}

-- or one that was passed before
pub passed_already : (plan : Plan) (machine : Machine) (image : Option Kind) (pacing : Pacing) (course : Progress) (line : OwnLine) → IsDue plan machine course line → suc line.index ≤ index_of course.standing → Held machine image → IsPaced plan machine.past pacing → IsWorked plan machine.past machine image pacing course line
passed_already plan machine image pacing course line due beyond held paced = record {
  passed = record { runs = due.runs; is_course = due.is_course; passed = beyond; goes_on = goes_nowhere plan line.client machine.past };
  held = held;
  paced = paced;
}

-- behind all lines none is left
pub led_last : (plan : Plan) (before : List Entry) (machine : Machine) (image : Option Kind) (pacing : Pacing) → open_line plan before ≡ None → IsLed plan before machine image pacing → WaitsFor None (paces_left plan machine.past) → HasRunLines plan machine
led_last plan before machine image pacing over led waits = record { runs = led.runs; worked = led.same_line ∙ over; passed = none_waits (paces_left plan machine.past) waits }
