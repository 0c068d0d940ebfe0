use Rattle.sx_copy.proofs.CopyLemmas.{kept_so}
use Rattle.sx_copy.proofs.list.take.Goals as goal

pub returns-in-Keep-clause-sets : goal.returns-in-Keep-clause-sets
returns-in-Keep-clause-sets c = rw c.in-Keep.is (kept_so c.args.rows.now.items c.args.side c.args.key.now)
