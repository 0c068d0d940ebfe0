use Rattle.std.proofs.Common.{◌∙◌, drop, sym, ap, subst, is_some, option_map}
use Rattle.sx_model.specs.Schedules.{Line, from_event, paces_left}
use Rattle.sx_script.specs.Plans.{plan_of}
use Rattle.shiftrun.specs.Lines.{WaitsFor, TakesNext, IsLed}
use Rattle.shiftrun.proofs.PaceLaws.{no_line}
use Rattle.shiftrun.proofs.LineLaws.{hands_on}
use Rattle.shiftrun.proofs.LeadLaws.{taken_makes, taken_few, led_on, led_waits, led_longer, led_fails}
use Rattle.shiftrun.proofs.lines.Pacing.follow_until.Goals as goal

pub follow-requires-clause-makes : goal.follow-requires-clause-makes
follow-requires-clause-makes c =
    let plan = plan_of c.args.script.now in
    let led = c.loop-what.invariant in
    taken_makes plan c.loop-what.image c.loop-what.self c.args.until _ c.in-Some.what (c.in-Some.ensures.taken plan.change (sym led.paced.asked))

pub follow-requires-clause-few : goal.follow-requires-clause-few
follow-requires-clause-few c =
    let plan = plan_of c.args.script.now in
    let led = c.loop-what.invariant in
    taken_few plan c.loop-what.core c.loop-what.image c.loop-what.self c.args.until _ c.in-Some.what c.lines-lines.ensures.runs.paces led.paced (c.in-Some.ensures.taken plan.change (sym led.paced.asked))

pub loop-what-smaller : goal.loop-what-smaller
loop-what-smaller c =
    let plan = plan_of c.args.script.now in
    let led = c.loop-what.invariant in
    let at = c.requires.until ∙ sym (ap (option_map (λ (l : Line). l.command.line)) led.same_line) in
    led_longer plan c.loop-what.core c.follow.new.core c.loop-what.image c.follow.new.image c.loop-what.self c.args.until _ c.in-Some.what tt led.held led.paced at (c.in-Some.ensures.taken plan.change (sym led.paced.asked)) c.in_ok-follow.ensures

pub loop-what-preserved : goal.loop-what-preserved
loop-what-preserved c =
    let plan = plan_of c.args.script.now in
    let led = c.loop-what.invariant in
    let at = c.requires.until ∙ sym (ap (option_map (λ (l : Line). l.command.line)) led.same_line) in
    led_on plan c.args.core.now.past c.loop-what.core c.follow.new.core c.loop-what.image c.follow.new.image c.loop-what.self c.take_before.new.self c.args.until c.in-Some.what tt c.lines-lines.ensures.runs.clients at led
    (c.in-Some.ensures.taken plan.change (sym led.paced.asked)) c.in-Some.ensures.paces c.in-Some.ensures.asked c.in_ok-follow.ensures

pub returns-in_err-follow : goal.returns-in_err-follow
returns-in_err-follow c =
    let plan = plan_of c.args.script.now in
    let led = c.loop-what.invariant in
    let at = c.requires.until ∙ sym (ap (option_map (λ (l : Line). l.command.line)) led.same_line) in
    let new = c.follow.new.core in
    let fault = c.in_err-follow.field-0.0 in
    hands_on (λ _. IsLed plan c.args.core.now.past new c.follow.new.image c.take_before.new.self × WaitsFor c.args.until (paces_left plan new.past)) plan new c.from_residual.result fault c.from_residual.ensures.1
    (led_fails {A = Unit {0}} (λ _. IsLed plan c.args.core.now.past new c.follow.new.image c.take_before.new.self × WaitsFor c.args.until (paces_left plan new.past)) plan c.args.core.now.past c.loop-what.core new c.loop-what.image c.follow.new.image c.loop-what.self c.args.until _ c.in-Some.what fault at led
    (c.in-Some.ensures.taken plan.change (sym led.paced.asked)) c.in_err-follow.ensures)

pub returns : goal.returns
returns c =
    let plan = plan_of c.args.script.now in
    let led = c.loop-what.invariant in
    let takes = c.take_before.ensures.taken plan.change (sym led.paced.asked) in
    let none = no_line c.take_before.result c.in_default.not-Some in
    led_waits plan c.args.core.now.past c.loop-what.core c.loop-what.image c.loop-what.self c.take_before.new.self c.args.until led
    (subst (TakesNext c.args.until (from_event plan.change (is_some c.loop-what.image) (drop c.loop-what.self.next c.loop-what.self.paces)) (drop c.take_before.new.self.next c.take_before.new.self.paces)) none takes) c.take_before.ensures.paces c.take_before.ensures.asked
