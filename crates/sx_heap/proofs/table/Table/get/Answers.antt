use Rattle.std.proofs.Common.{◌≡◌, Some, ap, sym, ◌∙◌, option_map}
use Rattle.sx_heap.specs.Relations.{row_at, Relation}
use Rattle.sx_heap.proofs.EntryLemmas.{row_at-rows_of, image_of}
use Rattle.sx_heap.proofs.table.Table.get.Goals as goal

pub returns-in-Some-clause-found : goal.returns-in-Some-clause-found
returns-in-Some-clause-found g c =
    let shown : Some (c.handed_out.result.0.now, c.handed_out.result.1) ≡ Some (image_of c.in-Some.stamped.now) = λ i. Some (c.handed_out.ensures.row i, c.handed_out.ensures.lsn i) in
    shown ∙ ap (option_map image_of) c.in-Some.ensures.value ∙ sym (row_at-rows_of c.self.inside.rows.entries c.args.key.now) ∙ ap (λ (r : Relation). row_at r.rows c.args.key.now) c.self.view_is

pub returns-in-None-clause-found : goal.returns-in-None-clause-found
returns-in-None-clause-found g c =
    ap (option_map image_of) c.in-None.ensures.value ∙ sym (row_at-rows_of c.self.inside.rows.entries c.args.key.now) ∙ ap (λ (r : Relation). row_at r.rows c.args.key.now) c.self.view_is
