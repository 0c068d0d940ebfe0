use Rattle.std.proofs.Common.{◌≡◌, ◌∙◌, refl, sym, ap, not, is_some, Some, Bool, true, false}
use Rattle.sx_heap.specs.declared.table.Stamped.{Stamped}
use Rattle.sx_heap.specs.Relations.{Relation, IsRowOf, row_at}
use Rattle.sx_heap.proofs.EntryLemmas.{row_at-update, sorted-rows_of, All-rows_of-insert_entry, there_alike}
use Rattle.sx_heap.proofs.table.Table.put.Goals as goal

pub invariant_of-self-2 : goal.invariant_of-self-2
invariant_of-self-2 c =
    let stamped : Stamped = record { row = c.args.row; lsn = c.args.lsn } in
    let layout = c.self.inside.schema in
    let same = ap (λ (r : Relation). r.schema) (sym c.self.view_is) in
    let put : IsRowOf layout (record { key = c.args.key; row = c.args.row; lsn = c.args.lsn }) =
    rw (← same) (record { admitted = c.requires.admitted; keyed = c.requires.keyed }) in
    record {
      laid_out = c.self.invariant.laid_out;
      sorted = sorted-rows_of c.insert.new.self.entries c.insert.ensures.ordered;
      each = rw c.in_ok-was.ensures.entries (All-rows_of-insert_entry (IsRowOf layout) c.args.key stamped c.self.inside.rows.entries put c.self.invariant.each);
    }

turned : (b c d : Bool) → c ≡ not b → c ≡ d → b ≡ not d
turned true c d e f = rw (← f, e) refl
turned false c d e f = rw (← f, e) refl

pub returns-clause-absent : goal.returns-clause-absent
returns-clause-absent c =
    let there = there_alike c.self.inside.rows.entries c.args.key c.in_ok-was.was' c.in_ok-was.ensures.old ∙ ap (λ (r : Relation). is_some (row_at r.rows c.args.key)) c.self.view_is in
    turned c.is_none.result _ _ c.is_none.ensures there

pub returns-clause-ok : goal.returns-clause-ok
returns-clause-ok c =
    let stamped : Stamped = record { row = c.args.row; lsn = c.args.lsn } in
    rw (← c.self.view_is) (record {
      same_schema = refl;
      at_keys = row_at-update c.self.inside.rows.entries c.insert.new.self.entries c.args.key (Some stamped) c.in_ok-was.ensures.updates.0;
    })
