use Rattle.std.proofs.Common.{◌≡◌, drop}
use Rattle.std.specs.List.{filter_map}
use Rattle.sx_script.specs.Plans.{strategy_of, first}
use Rattle.sx_script.proofs.plan.strategy_of.Given as goal

abbrev pub invariant-loop-line : goal.invariant-loop-line
invariant-loop-line l = first (filter_map strategy_of (drop l.line-index l.lines)) ≡ first (filter_map strategy_of l.lines)
