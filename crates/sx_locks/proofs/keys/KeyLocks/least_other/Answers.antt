use Rattle.std.proofs.Common.{ap, subst, None, unwrap_or, []}
use Rattle.sx_locks.specs.Modes.{mode_of, IsLeastOf}
use Rattle.sx_locks.proofs.HolderLemmas.{least_of_none}
use Rattle.sx_locks.proofs.keys.KeyLocks.least_other.Goals as goal

pub returns-in-Some : goal.returns-in-Some
returns-in-Some c =
    rw (← c.self.view_is) (subst (λ holders. IsLeastOf (mode_of holders) c.args.txn c.args.mode c.least_other.result) (ap (λ o. unwrap_or o []) c.in-Some.ensures.value) c.least_other.ensures)

pub returns-in-None : goal.returns-in-None
returns-in-None c =
    rw (← c.self.view_is) (subst (λ holders. IsLeastOf (mode_of holders) c.args.txn c.args.mode None) (ap (λ o. unwrap_or o []) c.in-None.ensures.value) (least_of_none c.args.txn c.args.mode))
