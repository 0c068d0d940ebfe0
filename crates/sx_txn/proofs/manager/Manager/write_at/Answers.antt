use Rattle.std.proofs.Common.{sym, subst}
use Rattle.sx_txn.specs.declared.patch.Patch.{Patch}
use Rattle.sx_txn.specs.Patches.{CanPatch}
use Rattle.sx_txn.proofs.PutLemmas.{can_patch}
use Rattle.sx_txn.proofs.manager.Manager.write_at.Goals as goal

pub put-requires-clause-can : goal.put-requires-clause-can
put-requires-clause-can g c =
    subst (λ (p : Patch). CanPatch c.args.self.now p)
    (λ j. record { table = sym c.in_ok-table-in-None.ensures j; key = c.args.key; before = c.in_ok-before.before; after = sym c.image_of-after.ensures j })
    (can_patch c.args.self.now c.args.table.now c.args.key c.args.change c.in_ok-before.before c.requires.change c.requires.key c.in_ok-before.ensures.row)
