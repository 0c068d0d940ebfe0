use Rattle.std.proofs.Common.{◌≡◌, ◌+◌}
use Rattle.sx_steps.proofs.tests.three.Given as goal

abbrev pub invariant-loop-turn : goal.invariant-loop-turn
invariant-loop-turn g l = l.steps ≡ l.fn.steps + l._turn
