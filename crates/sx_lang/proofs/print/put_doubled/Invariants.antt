use Rattle.std.proofs.Common.{◌≡◌, ◌++◌, drop}
use Rattle.sx_lang.specs.Spelling.{doubled}
use Rattle.sx_lang.proofs.print.put_doubled.Given as goal

abbrev pub invariant-loop-b : goal.invariant-loop-b
invariant-loop-b l = l.out.items ++ doubled (drop l.b-index l.bytes) ≡ l.fn.out.items ++ doubled l.bytes
