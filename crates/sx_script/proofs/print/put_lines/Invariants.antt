use Rattle.std.proofs.Common.{◌≡◌, ◌++◌, take}
use Rattle.sx_script.specs.Printing.{script_text}
use Rattle.sx_script.proofs.print.put_lines.Given as goal

abbrev pub invariant-loop-line : goal.invariant-loop-line
invariant-loop-line l = l.out.items ≡ l.initial.out.items ++ script_text (take l.line-index l.lines)
