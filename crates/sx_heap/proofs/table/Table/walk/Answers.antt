use Rattle.std.proofs.Common.{ap, ◌∙◌, take, drop}
use Rattle.std.specs.Map.Iter.{deref_pair}
use Rattle.std.specs.BTreeMap.Range.{entries_between}
use Rattle.std.specs.declared.ops.Bound.TheVariants.{Unbounded}
use Rattle.sx_values.specs.Values.{values_cmp}
use Rattle.sx_heap.specs.Entries.{rows_of}
use Rattle.sx_heap.specs.Walks.{last_key}
use Rattle.sx_heap.proofs.EntryLemmas.{rows_of-between, rows_of-take, rows_of-drop, rows_of-none}
use Rattle.sx_heap.proofs.TurnLemmas.{none_left}
use Rattle.sx_heap.proofs.WalkLemmas.{walks_on}
use Rattle.sx_heap.proofs.table.Table.walk.Goals as goal

pub returns-clause-walked : goal.returns-clause-walked
returns-clause-walked g c =
    let entries = c.self.inside.rows.entries in
    let n = c.args.n in
    let behind =
    ap rows_of (c.range-ahead.ensures.between tt ∙ ap (λ from. entries_between values_cmp from Unbounded entries) c.bound.ensures)
    ∙ rows_of-between c.args.cursor entries in
    let seen = c.in_ok-seen.ensures.seen ∙ rows_of-take n c.range-ahead.result ∙ ap (take n) behind in
    let next = c.in_ok-next.ensures ∙ ap (last_key c.args.cursor) c.as_slice.ensures in
    let left = ap rows_of c.in_ok-seen.ensures.left ∙ rows_of-drop n c.range-ahead.result ∙ ap (drop n) behind in
    let over = rows_of-none c.next_rows.new.ahead c.is_none-over.result (none_left deref_pair c.next_rows.new.ahead c.next.new.self c.next.result c.is_none-over.result c.next.ensures.steps c.is_none-over.ensures) in
    rw (← c.self.view_is) (walks_on (rows_of entries) c.args.cursor n (record { seen = c.in_ok-seen.seen; next = c.in_ok-next.next; over = c.is_none-over.result }) (rows_of c.next_rows.new.ahead) c.self.invariant.sorted seen next left over)
