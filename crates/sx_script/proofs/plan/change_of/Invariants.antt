use Rattle.std.proofs.Common.{◌≡◌, drop}
use Rattle.std.specs.List.{filter_map}
use Rattle.sx_script.specs.Plans.{change_of, first}
use Rattle.sx_script.proofs.plan.change_of.Given as goal

abbrev pub invariant-loop-line : goal.invariant-loop-line
invariant-loop-line l = first (filter_map change_of (drop l.line-index l.lines)) ≡ first (filter_map change_of l.lines)
