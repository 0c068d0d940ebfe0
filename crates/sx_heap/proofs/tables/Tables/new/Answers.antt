use Rattle.sx_heap.proofs.NameLemmas.{AreNamedApart-none}
use Rattle.sx_heap.proofs.tables.Tables.new.Goals as goal

pub invariant_of-result : goal.invariant_of-result
invariant_of-result c = rw c.new.ensures.items AreNamedApart-none
