use Rattle.std.proofs.Common.{◌-◌, length}
use Rattle.sx_script.specs.Plans.{plan_of}
use Rattle.shiftrun.specs.Holding.{Held}
use Rattle.shiftrun.specs.Runs.{HasRolledBack}
use Rattle.shiftrun.proofs.finish.transform.Given as goal

abbrev pub invariant-loop-what : goal.invariant-loop-what
invariant-loop-what l = record {
  rolled : HasRolledBack (plan_of l.script) l.core;
  held : Held l.core l.image;
}

abbrev pub decreases-loop-what : goal.decreases-loop-what
decreases-loop-what l = 60000 - length l.core.past
