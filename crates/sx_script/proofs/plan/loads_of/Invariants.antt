use Rattle.std.proofs.Common.{◌≡◌, take}
use Rattle.std.specs.List.{filter_map}
use Rattle.sx_script.specs.Plans.{load_of}
use Rattle.sx_script.proofs.plan.loads_of.Given as goal

abbrev pub invariant-loop-line : goal.invariant-loop-line
invariant-loop-line l = l.loads.items ≡ filter_map load_of (take l.line-index l.lines)
