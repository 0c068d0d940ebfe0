use Rattle.std.proofs.Common.{◌≡◌, ◌+◌, length, []}
use Rattle.sx_script.specs.Plans.{plan_of}
use Rattle.shiftrun.specs.Lines.{progress_of}
use Rattle.shiftrun.proofs.StandLaws.{HaveCourses}
use Rattle.shiftrun.proofs.lines.courses_of.Given as goal

abbrev pub invariant-loop-client : goal.invariant-loop-client
invariant-loop-client l = record {
  count : length l.courses.items + 1 ≡ l.client;
  each : HaveCourses (λ n. progress_of (plan_of l.script) n []) l.client l.courses.items;
}
