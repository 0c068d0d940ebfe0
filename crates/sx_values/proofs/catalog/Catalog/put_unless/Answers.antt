use Rattle.std.proofs.Common.{◌≡◌, None, sym, subst}
use Rattle.sx_values.specs.Layouts.{IsLayout}
use Rattle.sx_values.specs.Catalogs.{declared_as}
use Rattle.sx_values.proofs.CatalogLaws.{catalog_push, new_table}
use Rattle.sx_values.proofs.catalog.Catalog.put_unless.Goals as goal

pub invariant_of-self-2 : goal.invariant_of-self-2
invariant_of-self-2 c =
    let table = new_table c.args.name c.args.schema c.new-indexes.result c.args.source c.new-indexes.ensures (subst IsLayout c.schema.view_is c.schema.invariant) c.requires.declarable c.requires.short_names in
    let free = subst (λ tables. declared_as tables c.args.name ≡ None) (sym c.self.view_is) (c.requires.new_name c.in_default.is) in
    rw c.in-Ok.ensures.items (catalog_push c.self.inside.tables.items _ c.self.invariant table free)
