use Rattle.std.proofs.Common.{◌∙◌, ap, List}
use Rattle.sx_txn.specs.declared.lives.Live.{Live}
use Rattle.sx_txn.specs.Writes.{first_of}
use Rattle.sx_txn.specs.Lives.{kept_all, writes_of}
use Rattle.sx_txn.proofs.PutLemmas.{last_is}
use Rattle.sx_txn.proofs.EventLemmas.{own_meets}
use Rattle.sx_txn.proofs.manager.Manager.last_left.Goals as goal

pub returns-clause-last : goal.returns-clause-last
returns-clause-last c =
    let i = c.self.inside in
    c.last_write.ensures ∙ ap (λ (l : List Live). first_of (writes_of (kept_all l) c.args.txn)) c.deref.ensures.value
    ∙ last_is i.tables i.log i.locks (kept_all i.living.items) i.begun c.args.txn c.args.self.now c.self.view_is c.self.invariant c.requires

pub returns-clause-meets : goal.returns-clause-meets
returns-clause-meets c = let i = c.self.inside in own_meets i.tables i.log i.locks (kept_all i.living.items) i.begun c.args.self.now c.self.view_is c.self.invariant
