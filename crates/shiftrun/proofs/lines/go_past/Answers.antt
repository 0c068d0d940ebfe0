use Rattle.std.proofs.Common.{◌≤◌, ◌∙◌, Some, ap, subst, arith}
use Rattle.sx_model.specs.Schedules.{paces_left}
use Rattle.sx_journal.specs.Courses.{index_of}
use Rattle.sx_script.specs.Plans.{plan_of}
use Rattle.shiftrun.specs.Lines.{WaitsFor, IsPassed, IsWorked}
use Rattle.shiftrun.proofs.LineLaws.{part_stops, hands_on}
use Rattle.shiftrun.proofs.LeadLaws.{due_place, led_ahead, led_worked}
use Rattle.shiftrun.proofs.lines.go_past.Goals as goal

pub follow_until-requires-clause-until : goal.follow_until-requires-clause-until
follow_until-requires-clause-until c =
    let few : index_of c.args.course.now.standing ≤ c.args.line.now.index = omega (arith, c.index.ensures, c.if-index-line.true) in
    ap Some c.line.ensures ∙ due_place (plan_of c.args.script.now) c.args.core.now c.args.course.now c.args.line.now c.requires.due few

pub returns-in_err-work_through : goal.returns-in_err-work_through
returns-in_err-work_through c =
    let plan = plan_of c.args.script.now in
    let few : index_of c.args.course.now.standing ≤ c.args.line.now.index = omega (arith, c.index.ensures, c.if-index-line.true) in
    let led = c.in_ok-follow_until.ensures.0 in
    let waits = subst (λ place. WaitsFor (Some place) (paces_left plan c.follow_until.new.core.past)) c.line.ensures c.in_ok-follow_until.ensures.1 in
    let ahead = led_ahead plan c.args.core.now c.follow_until.new.core c.follow_until.new.image c.follow_until.new.self c.args.course.now c.args.line.now c.requires.from_one c.requires.due few led waits in
    let new = c.work_through.new.core in
    let fault = c.in_err-work_through.field-0.0 in
    hands_on _ plan new c.from_residual-in_err-work_through.result fault c.from_residual-in_err-work_through.ensures.1
    (part_stops {A = Unit {0}} {B = Unit {0}} (λ _. IsPassed plan c.follow_until.new.core.past new c.work_through.new.course c.args.line.now) (λ _. IsWorked plan c.args.core.now.past new c.follow_until.new.image c.follow_until.new.self c.work_through.new.course c.args.line.now) plan new fault (c.in_err-work_through.ensures.passed plan ahead))

pub returns-in_ok-work_through : goal.returns-in_ok-work_through
returns-in_ok-work_through c =
    let plan = plan_of c.args.script.now in
    let few : index_of c.args.course.now.standing ≤ c.args.line.now.index = omega (arith, c.index.ensures, c.if-index-line.true) in
    let led = c.in_ok-follow_until.ensures.0 in
    let waits = subst (λ place. WaitsFor (Some place) (paces_left plan c.follow_until.new.core.past)) c.line.ensures c.in_ok-follow_until.ensures.1 in
    let ahead = led_ahead plan c.args.core.now c.follow_until.new.core c.follow_until.new.image c.follow_until.new.self c.args.course.now c.args.line.now c.requires.from_one c.requires.due few led waits in
    let worked = c.in_ok-work_through.ensures in
    led_worked plan c.args.core.now c.follow_until.new.core c.work_through.new.core c.follow_until.new.image c.follow_until.new.self c.work_through.new.course c.args.line.now led (worked.passed plan ahead) (worked.rests plan) (worked.image c.follow_until.new.image led.held)
