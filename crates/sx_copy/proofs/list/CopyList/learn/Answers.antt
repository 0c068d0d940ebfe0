use Rattle.std.proofs.Common.{sym}
use Rattle.sx_copy.proofs.CopyLemmas.{kept_reading}
use Rattle.sx_copy.proofs.list.CopyList.learn.Goals as goal

pub returns-else-takes-clause-ok : goal.returns-else-takes-clause-ok
returns-else-takes-clause-ok c = kept_reading c.args.self.now c.args.side c.args.seen.now (sym c.if-takes.ensures)
