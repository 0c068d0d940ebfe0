use Rattle.std.proofs.Common.{refl, None}
use Rattle.std.specs.BTreeMap.{is_at}
use Rattle.std.proofs.lemmas.Map.Views.{All-map-remove_entry}
use Rattle.sx_values.specs.Values.{values_cmp}
use Rattle.sx_heap.specs.Relations.{IsRowOf}
use Rattle.sx_heap.specs.Entries.{seen_of}
use Rattle.sx_heap.proofs.EntryLemmas.{row_at-update, sorted-rows_of}
use Rattle.sx_heap.proofs.table.Table.remove.Goals as goal

pub invariant_of-self : goal.invariant_of-self
invariant_of-self c =
    record {
      laid_out = c.self.invariant.laid_out;
      sorted = sorted-rows_of c.remove.new.self.entries c.remove.ensures.ordered;
      each = rw c.remove.ensures.entries (All-map-remove_entry (is_at (values_cmp c.args.key.now)) seen_of (IsRowOf c.self.inside.schema) c.self.inside.rows.entries c.self.invariant.each);
    }

pub returns-clause-ok : goal.returns-clause-ok
returns-clause-ok c =
    rw (← c.self.view_is) (record {
      same_schema = refl;
      at_keys = row_at-update c.self.inside.rows.entries c.remove.new.self.entries c.args.key.now None c.remove.ensures.updates.0;
    })
