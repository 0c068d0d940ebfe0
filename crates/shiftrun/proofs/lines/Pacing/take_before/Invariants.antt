use Rattle.std.proofs.Common.{◌≡◌, ◌-◌, length, drop, Option, is_some}
use Rattle.sx_ops.specs.declared.spec.Spec.{Spec}
use Rattle.sx_model.specs.Schedules.{from_event}
use Rattle.shiftrun.proofs.lines.Pacing.take_before.Given as goal

abbrev pub invariant-loop-pace : goal.invariant-loop-pace
invariant-loop-pace l = record {
  paces : l.self.paces ≡ l.fn.self.paces;
  asked : l.self.is_asked ≡ l.fn.self.is_asked;
  left : (change : Option Spec) → is_some change ≡ l.fn.self.is_asked → from_event change (is_some l.image) (drop l.self.next l.self.paces) ≡ from_event change (is_some l.image) (drop l.fn.self.next l.fn.self.paces);
}

abbrev pub decreases-loop-pace : goal.decreases-loop-pace
decreases-loop-pace l = length l.self.paces - l.self.next
