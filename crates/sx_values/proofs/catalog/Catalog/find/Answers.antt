use Rattle.sx_values.proofs.CatalogLaws.{named_shown}
use Rattle.sx_values.proofs.catalog.Catalog.find.Goals as goal

pub returns-clause-named : goal.returns-clause-named
returns-clause-named c = named_shown c.deref.result.now c.args.name.now c.table_of.result c.table_of.ensures
