use Rattle.std.proofs.Common.{sym, ◌∙◌}
use Rattle.sx_part.proofs.PartLemmas.{left_out}
use Rattle.sx_part.proofs.parts.take_out.Goals as goal

pub returns-else-there : goal.returns-else-there
returns-else-there c = left_out c.args.table.now c.args.key.now (sym c.requires ∙ c.if-there.false)
