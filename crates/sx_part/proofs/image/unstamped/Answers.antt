use Rattle.std.proofs.Common.{◌≡◌, ◌∙◌, ap, map}
use Rattle.sx_copy.specs.FreshTables.{bare_rows}
use Rattle.sx_part.proofs.SplitLemmas.{admitted_in, sorted_in}
use Rattle.sx_part.proofs.image.unstamped.Goals as goal

pub of_rows-requires-clause-admitted : goal.of_rows-requires-clause-admitted
of_rows-requires-clause-admitted c =
    let rows : c.in_ok-rows-2.rows ≡ bare_rows c.args.table.now.rows = c.in_ok-rows-2.ensures ∙ ap (map (λ row. row.now)) c.as_slice.ensures.value ∙ c.in_ok-rows.ensures.rows in
    rw (c.in_ok-schema.ensures ∙ c.schema.ensures.schema, rows) (admitted_in c.args.table.now c.schema.ensures.relation)

pub of_rows-requires-clause-in_order : goal.of_rows-requires-clause-in_order
of_rows-requires-clause-in_order c =
    let rows : c.in_ok-rows-2.rows ≡ bare_rows c.args.table.now.rows = c.in_ok-rows-2.ensures ∙ ap (map (λ row. row.now)) c.as_slice.ensures.value ∙ c.in_ok-rows.ensures.rows in
    rw (c.in_ok-schema.ensures ∙ c.schema.ensures.schema, rows) (sorted_in c.args.table.now c.schema.ensures.relation)
