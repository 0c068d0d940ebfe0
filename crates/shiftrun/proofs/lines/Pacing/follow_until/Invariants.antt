use Rattle.std.proofs.Common.{◌-◌, length}
use Rattle.sx_script.specs.Plans.{plan_of}
use Rattle.shiftrun.specs.Lines.{IsLed}
use Rattle.shiftrun.proofs.lines.Pacing.follow_until.Given as goal

abbrev pub invariant-loop-what : goal.invariant-loop-what
invariant-loop-what l = IsLed (plan_of l.script) l.fn.core.past l.core l.image l.self

abbrev pub decreases-loop-what : goal.decreases-loop-what
decreases-loop-what l = 60000 - length l.core.past
