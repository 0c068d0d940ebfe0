use Rattle.std.proofs.Common.{◌≡◌, ◌++◌, drop}
use Rattle.sx_lines.specs.Printing.{columns_text}
use Rattle.sx_lines.proofs.print.put_columns.Given as goal

abbrev pub invariant-loop-place : goal.invariant-loop-place
invariant-loop-place l = l.out.items ++ columns_text l.place l.key (drop l.place l.columns) ≡ l.initial.out.items ++ columns_text 0 l.key l.columns
