use Rattle.sx_txn.proofs.PatchLemmas.{on_err}
use Rattle.sx_txn.proofs.EventLemmas.{tables_stay}
use Rattle.sx_txn.proofs.patch.put_locked.Goals as goal

pub returns-in_err-by-clause-same_rows : goal.returns-in_err-by-clause-same_rows
returns-in_err-by-clause-same_rows c = on_err c.from_residual.result _ (tables_stay c.args.tables.now.all)

pub returns-in-Held-clause-rows : goal.returns-in-Held-clause-rows
returns-in-Held-clause-rows c = tables_stay c.args.tables.now.all
