use Rattle.std.proofs.Common.{◌≡◌, ◌∷◌, ◌++◌, ◌+◌, ◌≤◌, List, sym, ◌∙◌, map, ap, length, length-append, arith}
use Rattle.std.proofs.lemmas.List.{length-map}
use Rattle.sx_heap.specs.Relations.{Relation}
use Rattle.sx_heap.specs.declared.table.Stamped.{Stamped}
use Rattle.sx_heap.proofs.EntryLemmas.{bare_rows_of}
use Rattle.sx_heap.proofs.table.Table.rows.Goals as goal

-- where a further entry is left, fewer rows were handed out than there are
fewer : {A B C D : Type 0} (f : A → D) (g : B → D) (h : C → D) (rows : List A) (left : List B) (next : B) (rest : List B) (all : List C) → left ≡ next ∷ rest → map f rows ++ map g left ≡ map h all → length rows + 1 ≤ length all
fewer f g h rows left next rest all first split =
    let whole = sym (length-append (map f rows) (map g left)) ∙ ap length split ∙ length-map all h in
    let taken = length-map rows f in
    let behind = length-map left g ∙ ap length first in
    omega arith

pub loop-stamped-init : goal.loop-stamped-init
loop-stamped-init g c =
    rw c.new-rows.ensures.items (record {
      split =
          ap (map (λ (s : Stamped). s.row)) (c.into_iter-stamped-iterator.ensures.into_iter_gives ∙ c.values-stamped-items.ensures.rest)
          ∙ bare_rows_of c.self.inside.rows.entries
          ∙ ap (λ (r : Relation). map (λ seen. seen.row) r.rows) c.self.view_is;
      counted = omega arith;
    })

pub returns-in_err-push-clause-bounded : goal.returns-in_err-push-clause-bounded
returns-in_err-push-clause-bounded g c =
    let more = fewer (λ row. row.now) (λ (s : Stamped). s.row) (λ seen. seen.row) c.loop-stamped.rows.items c.loop-stamped.stamped-iterator c.in-Some.stamped.now c.next.new.self c.args.self.now.rows c.in-Some.ensures.steps c.loop-stamped.invariant.split in
    omega (arith, c.handed_out.ensures.counted, c.loop-stamped.invariant.counted)
