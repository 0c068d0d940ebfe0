use Rattle.std.proofs.Common.{◌≡◌, ◌∙◌, List, None, map, length, sym, ap, rules}
use Rattle.std.specs.Map.{update_all}
use Rattle.std.specs.Ordering.{eq_by_cmp}
use Rattle.std.specs.Vec.{vec_len}
use Rattle.std.specs.Vec.Iter.{into_iter_items, into_iter_len, into_iter_steps}
use Rattle.std.specs.Iterator.{DrainsIf}
use Rattle.std.proofs.lemmas.Iterator.{items_from_drains}
use Rattle.std.proofs.lemmas.Iterator.Adapters.{YieldsList-from_vec}
use Rattle.std.proofs.lemmas.List.{map-id}
use Rattle.sx_values.specs.Values.{values_cmp}
use Rattle.sx_heap.specs.Relations.{seen_under}
use Rattle.sx_heap.specs.Entries.{rows_of, entry_under}
use Rattle.sx_heap.proofs.EntryLemmas.{sorted-rows_of}
use Rattle.sx_heap.proofs.MadeLemmas.{made_in_order, each_under}
use Rattle.sx_heap.proofs.table.Table.of_rows.Goals as goal

-- the items of a vector that was drained are all of its items
drained : {A Z : Type 0} (it : _) (xs all : List A) → into_iter_items {X = A} {Z = Z} it ≡ all → into_iter_len it ≡ length all → DrainsIf (into_iter_steps {X = A} {Z = Z}) (Unit {0}) it xs → xs ≡ all
drained it xs all items len drains = sym (map-id xs) ∙ items_from_drains xs drains (YieldsList-from_vec all items len)

-- the map has the rows in their order
made : (c : goal.In_ok-rows) → rows_of c.in_ok-rows.rows.entries ≡ map (seen_under c.args.schema c.args.lsn) c.args.rows
made c =
    let ran = c.in_ok-rows.ensures.ran in
    let all = c.in_ok-entries.entries.items in
    let len : vec_len c.in_ok-entries.entries ≡ length all = search rules in
    let xs : ran.1 ≡ map (entry_under c.args.schema c.args.lsn) c.args.rows = drained ran.0 ran.1 all ran.2.0 (ran.2.1 ∙ len) ran.3 ∙ c.in_ok-entries.ensures in
    made_in_order c.args.schema c.args.lsn c.args.rows c.in_ok-rows.rows.entries c.requires.in_order ran.4.1 (λ q. ran.4.0 q ∙ ap (λ l. update_all (eq_by_cmp values_cmp) (λ _. None) l q) xs)

pub invariant_of-result : goal.invariant_of-result
invariant_of-result c =
    record {
      laid_out = search rules;
      sorted = sorted-rows_of c.in_ok-rows.rows.entries c.in_ok-rows.ensures.ran.4.1;
      each = rw (made c) (each_under c.args.schema c.args.lsn c.args.rows c.requires.admitted);
    }

pub returns : goal.returns
returns c = ap (λ rows. record { schema = c.args.schema; rows = rows }) (made c)
