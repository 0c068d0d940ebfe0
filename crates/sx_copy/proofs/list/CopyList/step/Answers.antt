use Rattle.std.proofs.Common.{sym}
use Rattle.sx_copy.specs.CopyLists.{copy_at}
use Rattle.sx_copy.proofs.CopyLemmas.{taken}
use Rattle.sx_copy.proofs.list.CopyList.step.Goals as goal

pub returns-clause-stepped : goal.returns-clause-stepped
returns-clause-stepped c =
    rw c.in-Some.is (taken c.args.change.now c.in-Some.table.now (copy_at c.args.self.now c.args.side c.args.change.now.key.now) _ (sym c.if-not-is_changed.ensures) c.in_ok-row_behind.ensures.brought)
