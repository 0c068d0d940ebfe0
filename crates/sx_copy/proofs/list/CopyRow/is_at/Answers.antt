use Rattle.std.proofs.Common.{◌∙◌}
use Rattle.sx_copy.proofs.CopyLemmas.{row_is}
use Rattle.sx_copy.proofs.list.CopyRow.is_at.Goals as goal

pub returns-then-self-side : goal.returns-then-self-side
returns-then-self-side c = c.eq.ensures ∙ row_is c.args.self.now.side c.args.side c.args.self.now.key c.args.key.now c.if-self-side.true
