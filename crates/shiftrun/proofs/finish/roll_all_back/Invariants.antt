use Rattle.std.proofs.Common.{◌-◌, length}
use Rattle.sx_script.specs.Plans.{plan_of}
use Rattle.shiftrun.specs.Holding.{KeepsImage}
use Rattle.shiftrun.proofs.RollLaws.{HasRolled}
use Rattle.shiftrun.proofs.finish.roll_all_back.Given as goal

abbrev pub invariant-loop-client : goal.invariant-loop-client
invariant-loop-client l = record {
  rolled : HasRolled (plan_of l.script) l.client l.core;
  keeps : KeepsImage l.fn.core l.core;
}

abbrev pub invariant-loop-core : goal.invariant-loop-core
invariant-loop-core l = record {
  rolled : HasRolled (plan_of l.script) l.client l.core;
  keeps : KeepsImage l.fn.core l.core;
}

abbrev pub decreases-loop-core : goal.decreases-loop-core
decreases-loop-core l = 60000 - length l.core.past
