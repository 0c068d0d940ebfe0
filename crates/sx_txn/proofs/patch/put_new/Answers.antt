use Rattle.sx_txn.proofs.PatchLemmas.{on_err, patched-there, taken_back}
use Rattle.sx_txn.proofs.EventLemmas.{tables_stay}
use Rattle.sx_txn.proofs.patch.put_new.Goals as goal

pub returns-in_err-put_image-clause-same_rows : goal.returns-in_err-put_image-clause-same_rows
returns-in_err-put_image-clause-same_rows c = on_err c.from_residual.result _ (rw c.in_err-put_image.ensures.err (tables_stay c.args.tables.now.all))

pub remove-requires : goal.remove-requires
remove-requires c = patched-there c.args.tables.now.all c.put_image.new.tables.all c.args.patch.now c.args.lsn c.in_ok-put_image.ensures.ok c.requires.some

pub remove-requires-in-Err : goal.remove-requires-in-Err
remove-requires-in-Err c = patched-there c.args.tables.now.all c.put_image.new.tables.all c.args.patch.now c.args.lsn c.in_ok-put_image.ensures.ok c.requires.some

pub returns-in_ok-remove-in-Ok-Held-clause-rows : goal.returns-in_ok-remove-in-Ok-Held-clause-rows
returns-in_ok-remove-in-Ok-Held-clause-rows c =
    taken_back c.args.tables.now.all c.put_image.new.tables.all c.remove.new.self.all c.args.patch.now c.args.lsn c.requires.none c.requires.takes c.in_ok-put_image.ensures.ok c.in_ok-remove-in-Ok-Held.ensures.ok

pub returns-in_ok-remove-in-Err-clause-same_rows : goal.returns-in_ok-remove-in-Err-clause-same_rows
returns-in_ok-remove-in-Err-clause-same_rows c =
    taken_back c.args.tables.now.all c.put_image.new.tables.all c.remove-in-Err.new.self.all c.args.patch.now c.args.lsn c.requires.none c.requires.takes c.in_ok-put_image.ensures.ok c.in_ok-remove-in-Err.ensures.ok
