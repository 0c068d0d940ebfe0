use Rattle.sx_txn.specs.Patches.{HasRow}
use Rattle.std.proofs.Common.{Some, List, sym, ap, ◌∙◌}
use Rattle.sx_values.specs.declared.value.Value.{Value}
use Rattle.sx_txn.proofs.PatchLemmas.{has_row, of_found}
use Rattle.sx_txn.proofs.patch.row_there.Goals as goal

pub returns-in_ok-copy-in-Some-get-clause-row : goal.returns-in_ok-copy-in-Some-get-clause-row
returns-in_ok-copy-in-Some-get-clause-row g c =
    of_found (HasRow c.args.key.now (Some c.in_ok-copy-in-Some-get.field-0)) _ c.in-Some.table.now c.in-Some.ensures.found
    (has_row c.in-Some.table.now c.args.key.now c.in_ok-copy-in-Some-get.field-0 c.in-Some-get.field-0-1 c.get.ensures.relation (sym c.in-Some-get.ensures.found ∙ ap (λ (row : List Value). Some (row, c.in-Some-get.field-0-1)) (sym c.in_ok-copy-in-Some-get.ensures)))
