use Rattle.std.proofs.Common.{◌≡◌, true, sym, ap, ◌∙◌, option_map}
use Rattle.std.specs.Ordering.{is_lt}
use Rattle.sx_values.specs.Values.{values_cmp}
use Rattle.sx_heap.proofs.EntryLemmas.{image_of, none_behind, row_at-rows_of}
use Rattle.sx_heap.proofs.WalkLemmas.{is_lt_Less}
use Rattle.sx_heap.proofs.table.is_behind_all.Goals as goal

pub returns-in-Some : goal.returns-in-Some
returns-in-Some c =
    λ below.
    let is : is_lt (values_cmp c.in-Some.last.now c.args.key.now) ≡ true = ap is_lt (sym c.cmp.ensures) ∙ sym c.is_lt.ensures ∙ below in
    let less = is_lt_Less (values_cmp c.in-Some.last.now c.args.key.now) is in
    row_at-rows_of c.args.rows.now.entries c.args.key.now ∙ ap (option_map image_of) (none_behind c.args.rows.now.entries c.in-Some.last.now c.args.key.now less c.in-Some.ensures.all_up_to)
