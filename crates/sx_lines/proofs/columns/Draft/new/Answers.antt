use Rattle.sx_lines.proofs.DraftLaws.{no_columns_are}
use Rattle.sx_lines.proofs.columns.Draft.new.Goals as goal

pub invariant_of-result : goal.invariant_of-result
invariant_of-result c = rw (c.new.ensures, c.new-2.ensures) no_columns_are
