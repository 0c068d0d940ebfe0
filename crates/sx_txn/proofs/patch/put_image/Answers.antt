use Rattle.std.proofs.Common.{◌∙◌, sym}
use Rattle.sx_txn.proofs.PatchLemmas.{none_of, patched-none}
use Rattle.sx_txn.proofs.patch.put_image.Goals as goal

pub returns-in-false-None-clause-ok : goal.returns-in-false-None-clause-ok
returns-in-false-None-clause-ok c = patched-none c.args.tables.now.all c.args.patch.now c.args.lsn (none_of c.args.patch.now.before (sym c.in-false-None.ensures)) (sym c.requires.image ∙ c.in-false-None.is-1) c.requires.takes
