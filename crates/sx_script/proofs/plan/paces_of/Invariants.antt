use Rattle.std.proofs.Common.{◌≡◌, ◌++◌, ◌+◌, drop}
use Rattle.sx_script.specs.Plans.{pace_at, from_place}
use Rattle.sx_script.proofs.plan.paces_of.Given as goal

abbrev pub invariant-loop-index : goal.invariant-loop-index
invariant-loop-index l = l.paces.items ++ from_place pace_at (l.index + 1) (drop l.index l.lines) ≡ from_place pace_at 1 l.lines
