use Rattle.std.proofs.Common.{◌≡◌, sym, ap, ◌∙◌, position, set, Some, None}
use Rattle.sx_values.specs.declared.catalog.Declared.{Declared}
use Rattle.sx_values.specs.Names.{same_name}
use Rattle.sx_values.proofs.CatalogLaws.{Indexes, index_step, no_table}
use Rattle.sx_values.proofs.catalog.Catalog.index.Goals as goal

-- the step of the table at its place, as the step of the catalog
step : (c : goal.After-self-1) → Indexes c.self.inside.tables.items (set c.self.inside.tables.items c.in-Some.place c.add_index.new.table) c.args.name.now c.args.columns c.add_index.result
step c =
    let tables = c.self.inside.tables.items in
    let test = (λ (t : Declared). same_name t.name c.args.name.now) in
    let placed : position test tables ≡ Some c.in-Some.place = ap (position test) (sym c.deref.ensures.value) ∙ sym c.in-Some.ensures in
    index_step tables c.args.name.now c.args.columns c.in-Some.place c.index_mut.result.now c.add_index.new.table c.add_index.result c.self.invariant (record {
      placed = placed;
      old_is = c.index_mut.ensures.value;
      fault = c.add_index.ensures.fault;
      ok = c.add_index.ensures.ok;
      err = c.add_index.ensures.err;
    })

pub returns-in_default-clause-fault : goal.returns-in_default-clause-fault
returns-in_default-clause-fault c =
    let test = (λ (t : Declared). same_name t.name c.args.name.now) in
    let none : position test c.self.inside.tables.items ≡ None = ap (position test) (sym c.deref.ensures.value) ∙ sym c.place_of.ensures ∙ c.in_default.is in
    rw (← c.self.view_is) (no_table c.self.inside.tables.items c.args.name.now c.args.columns none)

pub invariant_of-self : goal.invariant_of-self
invariant_of-self c = (step c).catalog

pub returns-clause-fault : goal.returns-clause-fault
returns-clause-fault c = rw (← c.self.view_is) (step c).fault

pub returns-clause-ok : goal.returns-clause-ok
returns-clause-ok c = rw (← c.self.view_is) (step c).ok
