use Rattle.std.proofs.Common.{refl, sym, ap, subst, Some, IsSome}
use Rattle.std.proofs.lemmas.Bool.{false≢true}
use Rattle.sx_heap.specs.declared.table.Stamped.{Stamped}
use Rattle.sx_heap.specs.Relations.{Relation, IsRowOf, row_at}
use Rattle.sx_heap.proofs.EntryLemmas.{row_at-update, sorted-rows_of, All-rows_of-set_value, has_entry}
use Rattle.sx_heap.proofs.table.Table.rewrite.Goals as goal

pub unreachable-requires : goal.unreachable-requires
unreachable-requires c =
    let there = subst (λ (r : Relation). IsSome (row_at r.rows c.args.key.now)) (sym c.self.view_is) c.requires.there in
    false≢true (subst IsSome (sym c.in-None.ensures.value) (has_entry c.self.inside.rows.entries c.args.key.now there))

pub invariant_of-self : goal.invariant_of-self
invariant_of-self c =
    let stamped : Stamped = record { row = c.args.row; lsn = c.args.lsn } in
    let written = c.get_mut.follows.holds stamped in
    let layout = c.self.inside.schema in
    let same = ap (λ (r : Relation). r.schema) (sym c.self.view_is) in
    let put : IsRowOf layout (record { key = c.args.key.now; row = c.args.row; lsn = c.args.lsn }) =
    rw (← same) (record { admitted = c.requires.admitted; keyed = c.requires.keyed }) in
    record {
      laid_out = c.self.invariant.laid_out;
      sorted = sorted-rows_of (c.get_mut.follows.lender stamped).entries written.4;
      each = rw written.0 (All-rows_of-set_value (IsRowOf layout) c.args.key.now stamped c.self.inside.rows.entries put c.self.invariant.each);
    }

pub returns : goal.returns
returns c =
    let stamped : Stamped = record { row = c.args.row; lsn = c.args.lsn } in
    let there = subst (λ (r : Relation). IsSome (row_at r.rows c.args.key.now)) (sym c.self.view_is) c.requires.there in
    let entry = has_entry c.self.inside.rows.entries c.args.key.now there in
    rw (← c.self.view_is) (record {
      same_schema = refl;
      at_keys = row_at-update c.self.inside.rows.entries (c.get_mut.follows.lender stamped).entries c.args.key.now (Some stamped) ((c.get_mut.follows.holds stamped).3 entry).0;
    })
