use Rattle.std.proofs.Common.{◌≡◌, ◌∙◌, [], length, get_or, option_map, sym, ap, subst, arith}
use Rattle.sx_model.specs.Schedules.{Line}
use Rattle.sx_script.specs.Plans.{plan_of}
use Rattle.sx_core.specs.Machines.{Machine}
use Rattle.shiftrun.specs.declared.lines.OwnLine.{OwnLine}
use Rattle.shiftrun.specs.Lines.{clients_of, own_lines, IsPaced}
use Rattle.shiftrun.proofs.HoldLaws.{held_first}
use Rattle.shiftrun.proofs.StandLaws.{line_here, line_client, line_now, has_course, stands_first, stands_next, stands_last}
use Rattle.shiftrun.proofs.LeadLaws.{led_last}
use Rattle.shiftrun.proofs.lines.step_all.Goals as goal

pub overflow_sub-line : goal.overflow_sub-line
overflow_sub-line c =
    let plan = plan_of c.args.script.now in
    let items = c.as_slice-line-items.result.now in
    let k = c.loop-line.line-index in
    let line : OwnLine = get_or items k (record { client = 0; index = 0 }) in
    let here = line_here plan items k (record { client = 0; index = 0 }) (c.as_slice-line-items.ensures.value ∙ c.in_ok-lines.ensures) c.loop-line-test.true in
    let one = line_client plan k line c.lines-lines.ensures.runs.clients here in
    one.0

pub index_mut-course-requires : goal.index_mut-course-requires
index_mut-course-requires c =
    let plan = plan_of c.args.script.now in
    let items = c.as_slice-line-items.result.now in
    let k = c.loop-line.line-index in
    let line : OwnLine = get_or items k (record { client = 0; index = 0 }) in
    let here = line_here plan items k (record { client = 0; index = 0 }) (c.as_slice-line-items.ensures.value ∙ c.in_ok-lines.ensures) c.loop-line-test.true in
    let one = line_client plan k line c.lines-lines.ensures.runs.clients here in
    omega (arith, has_course plan k line.client c.loop-line.core c.loop-line.courses.items c.loop-line.invariant.stands one.0 one.1, c.loop-line.courses.ok.0)

pub go_past-requires-clause-from_one : goal.go_past-requires-clause-from_one
go_past-requires-clause-from_one c =
    let plan = plan_of c.args.script.now in
    let items = c.as_slice-line-items.result.now in
    let now = line_now plan c.loop-line.line-index c.loop-line.core c.loop-line.courses.items items (record { client = 0; index = 0 }) c.index_mut-course.result.now c.loop-line.invariant.stands c.lines-lines.ensures.runs.clients (c.as_slice-line-items.ensures.value ∙ c.in_ok-lines.ensures) c.loop-line-test.true c.index_mut-course.ensures.value in
    now.from_one

pub go_past-requires-clause-to_eight : goal.go_past-requires-clause-to_eight
go_past-requires-clause-to_eight c =
    let plan = plan_of c.args.script.now in
    let items = c.as_slice-line-items.result.now in
    let now = line_now plan c.loop-line.line-index c.loop-line.core c.loop-line.courses.items items (record { client = 0; index = 0 }) c.index_mut-course.result.now c.loop-line.invariant.stands c.lines-lines.ensures.runs.clients (c.as_slice-line-items.ensures.value ∙ c.in_ok-lines.ensures) c.loop-line-test.true c.index_mut-course.ensures.value in
    now.to_eight

pub go_past-requires-clause-within : goal.go_past-requires-clause-within
go_past-requires-clause-within c =
    let plan = plan_of c.args.script.now in
    let items = c.as_slice-line-items.result.now in
    let now = line_now plan c.loop-line.line-index c.loop-line.core c.loop-line.courses.items items (record { client = 0; index = 0 }) c.index_mut-course.result.now c.loop-line.invariant.stands c.lines-lines.ensures.runs.clients (c.as_slice-line-items.ensures.value ∙ c.in_ok-lines.ensures) c.loop-line-test.true c.index_mut-course.ensures.value in
    now.within

pub go_past-requires-clause-due : goal.go_past-requires-clause-due
go_past-requires-clause-due c =
    let plan = plan_of c.args.script.now in
    let items = c.as_slice-line-items.result.now in
    let now = line_now plan c.loop-line.line-index c.loop-line.core c.loop-line.courses.items items (record { client = 0; index = 0 }) c.index_mut-course.result.now c.loop-line.invariant.stands c.lines-lines.ensures.runs.clients (c.as_slice-line-items.ensures.value ∙ c.in_ok-lines.ensures) c.loop-line-test.true c.index_mut-course.ensures.value in
    now.due

pub loop-line-preserved : goal.loop-line-preserved
loop-line-preserved c =
    let plan = plan_of c.args.script.now in
    let items = c.as_slice-line-items.result.now in
    let now = line_now plan c.loop-line.line-index c.loop-line.core c.loop-line.courses.items items (record { client = 0; index = 0 }) c.index_mut-course.result.now c.loop-line.invariant.stands c.lines-lines.ensures.runs.clients (c.as_slice-line-items.ensures.value ∙ c.in_ok-lines.ensures) c.loop-line-test.true c.index_mut-course.ensures.value in
    let worked = c.in_ok-go_past.ensures in
    record {
      stands = stands_next plan c.loop-line.line-index c.loop-line.core c.go_past.new.core c.loop-line.courses.items (get_or items c.loop-line.line-index (record { client = 0; index = 0 })) c.go_past.new.course c.loop-line.invariant.stands now.here now.from_one now.to_eight worked.passed;
      held = worked.held;
      paced = worked.paced;
    }

pub loop-line-init : goal.loop-line-init
loop-line-init c =
    let plan = plan_of c.args.script.now in
    record {
      stands = stands_first plan c.args.core.now c.in_ok-courses.courses.items c.requires c.in_ok-courses.ensures;
      held = held_first plan c.args.core.now c.lines-lines.ensures.runs c.requires;
      paced = subst (λ past. IsPaced plan past c.in_ok-pacing.pacing) (sym (ap (λ (m : Machine). m.past) c.requires)) c.in_ok-pacing.ensures;
    }

pub follow_until-requires-clause-until : goal.follow_until-requires-clause-until
follow_until-requires-clause-until c =
    let plan = plan_of c.args.script.now in
    let items = c.as_slice-line-items.result.now in
    let long : length items ≡ length (own_lines [] (clients_of plan)) = ap length (c.as_slice-line-items.ensures.value ∙ c.in_ok-lines.ensures) in
    sym (ap (option_map (λ (l : Line). l.command.line)) (stands_last plan c.loop-line.line-index c.loop-line.core c.loop-line.courses.items c.loop-line.invariant.stands (omega (arith, long, c.loop-line-test.false))))

pub returns : goal.returns
returns c =
    let plan = plan_of c.args.script.now in
    let items = c.as_slice-line-items.result.now in
    let long : length items ≡ length (own_lines [] (clients_of plan)) = ap length (c.as_slice-line-items.ensures.value ∙ c.in_ok-lines.ensures) in
    let over = stands_last plan c.loop-line.line-index c.loop-line.core c.loop-line.courses.items c.loop-line.invariant.stands (omega (arith, long, c.loop-line-test.false)) in
    let led = c.in_ok-follow_until.ensures.0 in
    (led_last plan c.loop-line.core.past c.follow_until.new.core c.follow_until.new.image c.follow_until.new.self over led c.in_ok-follow_until.ensures.1, led.held)
