use Rattle.std.proofs.Common.{◌≡◌, ◌++◌, drop}
use Rattle.sx_report.proofs.words.push_copies.Given as goal

abbrev pub invariant-loop-value : goal.invariant-loop-value
invariant-loop-value l = l.values ++ drop l.value-index l.more ≡ l.fn.values ++ l.more
