use Rattle.std.proofs.Common.{◌∙◌, ap, map, take}
use Rattle.sx_heap.specs.NamedTables.{table_named}
use Rattle.sx_core.specs.Loading.{empty_table}
use Rattle.sx_core.proofs.MakeLemmas.{empty_free}
use Rattle.sx_core.proofs.make.empty_tables.Goals as goal

pub push-requires : goal.push-requires
push-requires c =
    let declared = c.args.declared.now in
    let free = empty_free declared c.loop-table.table-index c.table-item.result c.requires c.loop-table-test.true c.table-item.is in
    ap (λ tables. table_named tables c.in_ok-copy.field-0) c.loop-table.invariant
    ∙ ap (table_named (map empty_table (take c.loop-table.table-index declared))) c.in_ok-copy.ensures ∙ free
