use Rattle.std.proofs.Common.{None}
use Rattle.sx_locks.proofs.PlaceLemmas.{places_of-update}
use Rattle.sx_locks.proofs.places.Places.take.Goals as goal

pub returns-clause-others : goal.returns-clause-others
returns-clause-others c =
    rw (← c.self.view_is) (places_of-update c.self.inside.places.entries c.remove.new.self.entries c.args.txn None c.remove.ensures.updates.0)
