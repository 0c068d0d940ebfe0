use Rattle.sx_values.proofs.CatalogLaws.{no_tables}
use Rattle.sx_values.proofs.catalog.Catalog.new.Goals as goal

pub invariant_of-result : goal.invariant_of-result
invariant_of-result c = rw c.new.ensures.items no_tables
