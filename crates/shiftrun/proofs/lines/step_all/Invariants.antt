use Rattle.sx_script.specs.Plans.{plan_of}
use Rattle.shiftrun.specs.Holding.{Held}
use Rattle.shiftrun.specs.Lines.{StandsAt, IsPaced}
use Rattle.shiftrun.proofs.lines.step_all.Given as goal

abbrev pub invariant-loop-line : goal.invariant-loop-line
invariant-loop-line l = record {
  stands : StandsAt (plan_of l.script) l.line-index l.core l.courses.items;
  held : Held l.core l.image;
  paced : IsPaced (plan_of l.script) l.core.past l.pacing;
}
