use Rattle.sx_txn.proofs.HomeLemmas.{homed_alone}
use Rattle.sx_txn.proofs.homes.Homes.take_fresh.Goals as goal

pub invariant_of-self : goal.invariant_of-self
invariant_of-self c = rw (c.replace.ensures.after, c.new.ensures) (homed_alone c.self.inside.own c.self.inside.fresh c.self.invariant)
