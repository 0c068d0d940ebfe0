use Rattle.std.proofs.Common.{◌∙◌, ap, unwrap_or, []}
use Rattle.sx_locks.specs.Modes.{mode_of}
use Rattle.sx_locks.proofs.keys.KeyLocks.mode_at.Goals as goal

pub returns-in-Some : goal.returns-in-Some
returns-in-Some c =
    c.mode_of.ensures ∙ rw (← c.self.view_is) (ap (λ o. mode_of (unwrap_or o []) c.args.txn) c.in-Some.ensures.value)

pub returns-in-None : goal.returns-in-None
returns-in-None c =
    rw (← c.self.view_is) (ap (λ o. mode_of (unwrap_or o []) c.args.txn) c.in-None.ensures.value)
