use Rattle.std.proofs.Common.{◌≡◌, length}
use Rattle.sx_lines.specs.Lines.{words}
use Rattle.sx_lines.specs.Columns.{layout_over, no_columns}
use Rattle.sx_lines.proofs.columns.draft_in.Given as goal

abbrev pub invariant-loop-word : goal.invariant-loop-word
invariant-loop-word l = layout_over l.draft (words l.rest) ≡ layout_over no_columns (words l.text)

abbrev pub decreases-loop-word : goal.decreases-loop-word
decreases-loop-word l = length l.rest
