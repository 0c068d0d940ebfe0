use Rattle.sx_heap.proofs.NameLemmas.{AreNamedApart-push}
use Rattle.sx_heap.proofs.tables.Tables.push.Goals as goal

pub invariant_of-self-2 : goal.invariant_of-self-2
invariant_of-self-2 c =
    rw c.in_ok-push.ensures.items (AreNamedApart-push c.self.inside.tables.items (record { name = c.args.name; table = c.args.table }) c.self.invariant (rw c.self.view_is c.requires))
