use Rattle.std.proofs.Common.{sym, ◌∙◌, ap}
use Rattle.sx_heap.specs.NamedTables.{index_named}
use Rattle.sx_heap.proofs.NameLemmas.{table_named-absent, table_named-first, is_first_named}
use Rattle.sx_heap.proofs.tables.Tables.find.Goals as goal

pub returns-in_err-index-clause-found : goal.returns-in_err-index-clause-found
returns-in_err-index-clause-found c =
    let items = c.self.inside.tables.items in
    let name = c.args.name.now in
    let missed = ap (λ l. index_named l name) (sym c.deref.ensures.value) ∙ sym c.in_err-index.ensures.index in
    rw (← c.self.view_is, c.from_residual.ensures) (sym (table_named-absent items name missed))

pub returns-clause-found : goal.returns-clause-found
returns-clause-found c =
    let items = c.self.inside.tables.items in
    let name = c.args.name.now in
    let place = ap (λ l. index_named l name) (sym c.deref.ensures.value) ∙ sym c.in_ok-index.ensures.index in
    let first = is_first_named items name c.in_ok-index.index c.index.result.now place c.index.ensures in
    rw (← c.self.view_is) (sym (table_named-first items name c.in_ok-index.index c.index.result.now first))
