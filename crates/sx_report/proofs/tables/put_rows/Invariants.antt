use Rattle.std.proofs.Common.{◌≡◌, ◌++◌, drop, map}
use Rattle.sx_report.specs.TableLines.{row_lines}
use Rattle.sx_report.proofs.tables.put_rows.Given as goal

abbrev pub invariant-loop-row : goal.invariant-loop-row
invariant-loop-row l =
    l.out.items ++ row_lines l.name (map (λ row. row.now) (drop l.row-index l.rows)) ≡ l.fn.out.items ++ row_lines l.name (map (λ row. row.now) l.rows)
