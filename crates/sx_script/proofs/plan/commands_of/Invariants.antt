use Rattle.std.proofs.Common.{◌≡◌, ◌++◌, ◌+◌, drop}
use Rattle.sx_script.proofs.PlanLaws.{commands_from}
use Rattle.sx_script.proofs.plan.commands_of.Given as goal

abbrev pub invariant-loop-index : goal.invariant-loop-index
invariant-loop-index l = l.commands.items ++ commands_from l.n (l.index + 1) (drop l.index l.lines) ≡ commands_from l.n 1 l.lines
