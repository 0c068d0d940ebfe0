use Rattle.std.proofs.Common.{◌≡◌, ◌-◌, length}
use Rattle.sx_model.specs.Schedules.{Plan}
use Rattle.shiftrun.specs.Holding.{KeepsImage}
use Rattle.shiftrun.specs.Lines.{IsAhead, GoesOn, PropagatorRests}
use Rattle.shiftrun.proofs.lines.work_through.Given as goal

abbrev pub invariant-loop-alloc : goal.invariant-loop-alloc
invariant-loop-alloc l = record {
  commands : l.course.commands ≡ l.fn.course.commands;
  ahead : (plan : Plan) → IsAhead plan l.fn.core l.fn.course l.line → IsAhead plan l.core l.course l.line;
  goes_on : (plan : Plan) → IsAhead plan l.fn.core l.fn.course l.line → GoesOn plan l.line.client l.fn.core.past l.core.past;
  rests : (plan : Plan) → PropagatorRests plan l.fn.core.past l.core.past;
  keeps : KeepsImage l.fn.core l.core;
}

abbrev pub decreases-loop-alloc : goal.decreases-loop-alloc
decreases-loop-alloc l = 60000 - length l.core.past
