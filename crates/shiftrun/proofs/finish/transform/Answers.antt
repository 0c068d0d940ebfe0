use Rattle.std.proofs.Common.{◌∙◌, sym}
use Rattle.sx_script.specs.Plans.{plan_of}
use Rattle.shiftrun.specs.Runs.{HasRun}
use Rattle.shiftrun.proofs.PaceLaws.{no_line}
use Rattle.shiftrun.proofs.LineLaws.{hands_on}
use Rattle.shiftrun.proofs.TransformLaws.{last_on, last_longer, last_fails, last_end}
use Rattle.shiftrun.proofs.finish.transform.Goals as goal

pub loop-what-smaller : goal.loop-what-smaller
loop-what-smaller c =
    let plan = plan_of c.args.script.now in
    let at = c.loop-what.invariant in
    last_longer plan c.loop-what.core c.follow.new.core c.loop-what.image c.follow.new.image c.in-Some.what tt c.requires.change at.rolled at.held (sym c.last_line.ensures ∙ c.in-Some.is) c.in_ok-follow.ensures

pub loop-what-preserved : goal.loop-what-preserved
loop-what-preserved c =
    let plan = plan_of c.args.script.now in
    let at = c.loop-what.invariant in
    let on = last_on plan c.loop-what.core c.follow.new.core c.loop-what.image c.follow.new.image c.in-Some.what tt c.requires.change at.rolled at.held (sym c.last_line.ensures ∙ c.in-Some.is) c.in_ok-follow.ensures in
    record { rolled = on.0; held = on.1 }

pub returns-in_err-follow : goal.returns-in_err-follow
returns-in_err-follow c =
    let plan = plan_of c.args.script.now in
    let at = c.loop-what.invariant in
    let new = c.follow.new.core in
    let fault = c.in_err-follow.field-0.0 in
    hands_on (λ _. HasRun plan new) plan new c.from_residual.result fault c.from_residual.ensures.1
    (last_fails {A = Unit {0}} (λ _. HasRun plan new) plan c.loop-what.core new c.loop-what.image c.follow.new.image c.in-Some.what fault c.requires.change at.rolled at.held (sym c.last_line.ensures ∙ c.in-Some.is) c.in_err-follow.ensures)

pub returns : goal.returns
returns c =
    let plan = plan_of c.args.script.now in
    let at = c.loop-what.invariant in
    last_end plan c.loop-what.core c.requires.change at.rolled (sym c.last_line.ensures ∙ no_line c.last_line.result c.in_default.not-Some)
