-- What a turn of a walk hands out is what the keys have that it passes.
use Rattle.std.proofs.Common.{◌≡◌, ◌∷◌, ◌++◌, [], ℕ, List, Bool, true, false, Option, Some, None, All, refl, sym, ap, ◌∙◌, cond, true≢false}
use Rattle.std.specs.List.Sorted.{IsStrictlySortedBy}
use Rattle.std.proofs.lemmas.List.Elements.{All-take, All-filter}
use Rattle.sx_values.specs.declared.value.Value.{Value}
use Rattle.sx_values.specs.Values.{values_cmp}
use Rattle.sx_heap.specs.declared.seen.Seen.{Seen}
use Rattle.sx_heap.specs.declared.walk.Walked.{Walked}
use Rattle.sx_heap.specs.Relations.{row_at, row_keys, same_key}
use Rattle.sx_heap.specs.Walks.{is_after, rows_after, WalksOn}
use Rattle.sx_heap.proofs.RowLemmas.{found, row_at-listed, same_key_tells}
use Rattle.sx_heap.proofs.WalkLemmas.{rows_after-walked}

-- one more row, which is kept where it stands behind the cursor, for a key that does
kept_head : (near here : Bool) (s : Seen) (key : List Value) (xs rows : List Seen) → (same_key key s.key ≡ here) → (here ≡ true → near ≡ true) → row_at xs key ≡ row_at rows key → row_at (cond near (s ∷ xs) xs) key ≡ cond here (Some (found s)) (row_at rows key)
kept_head true true s key xs rows e h same = rw e refl
kept_head true false s key xs rows e h same = rw e same
kept_head false true s key xs rows e h same = absurd (true≢false (sym (h refl)))
kept_head false false s key xs rows e h same = same

-- a key behind the cursor has among the rows there what it has among all
pub row_at-rows_after : (cursor : Option (List Value)) (rows : List Seen) (key : List Value) → is_after cursor key ≡ true → row_at (rows_after cursor rows) key ≡ row_at rows key
row_at-rows_after cursor [] key after = refl
row_at-rows_after cursor (s ∷ rows) key after =
    kept_head (is_after cursor s.key) (same_key key s.key) s key (rows_after cursor rows) rows refl (λ here. ap (is_after cursor) (sym (same_key_tells key s.key here)) ∙ after) (row_at-rows_after cursor rows key after)

-- one more row, which is kept where it stands behind the cursor, for a key that doesn't
dropped_head : (near here : Bool) (s : Seen) (key : List Value) (xs : List Seen) → (same_key key s.key ≡ here) → (here ≡ true → near ≡ false) → row_at xs key ≡ None → row_at (cond near (s ∷ xs) xs) key ≡ None
dropped_head true true s key xs e h none = absurd (true≢false (h refl))
dropped_head true false s key xs e h none = rw e none
dropped_head false here s key xs e h none = none

-- a key that isn't behind the cursor isn't among the rows there
pub row_at-behind : (cursor : Option (List Value)) (rows : List Seen) (key : List Value) → is_after cursor key ≡ false → row_at (rows_after cursor rows) key ≡ None
row_at-behind cursor [] key before = refl
row_at-behind cursor (s ∷ rows) key before =
    dropped_head (is_after cursor s.key) (same_key key s.key) s key (rows_after cursor rows) refl (λ here. ap (is_after cursor) (sym (same_key_tells key s.key here)) ∙ before) (row_at-behind cursor rows key before)

-- in front of rows that lack a key the key has what it has in front
pub row_at-append : (xs ys : List Seen) (key : List Value) → row_at ys key ≡ None → row_at (xs ++ ys) key ≡ row_at xs key
row_at-append [] ys key none = none
row_at-append (s ∷ xs) ys key none = ap (cond (same_key key s.key) (Some (found s))) (row_at-append xs ys key none)

-- each key between a turn's cursor and its end has among what the turn hands out what it has in the table
pub row_at-walked : (rows : List Seen) (cursor : Option (List Value)) (n : ℕ) (walked : Walked) → IsStrictlySortedBy values_cmp (row_keys rows) → WalksOn rows cursor n walked → (key : List Value) → is_after cursor key ≡ true → is_after walked.next key ≡ false → row_at walked.seen key ≡ row_at rows key
row_at-walked rows cursor n walked sorted walks key after before =
    sym (row_at-append walked.seen (rows_after walked.next rows) key (row_at-behind walked.next rows key before))
    ∙ ap (λ xs. row_at xs key) (rows_after-walked rows cursor n walked sorted walks)
    ∙ row_at-rows_after cursor rows key after

-- each row that a turn hands out is the one that its key has in the table
pub row_at-seen : (rows : List Seen) (cursor : Option (List Value)) (n : ℕ) (walked : Walked) → IsStrictlySortedBy values_cmp (row_keys rows) → WalksOn rows cursor n walked → All (λ (s : Seen). row_at rows s.key ≡ Some (found s)) walked.seen
row_at-seen rows cursor n walked sorted walks =
    let P : Seen → Type 0 = λ s. row_at rows s.key ≡ Some (found s) in
    rw walks.hands_out (All-take P n (rows_after cursor rows) (All-filter (λ (s : Seen). is_after cursor s.key) P rows (row_at-listed rows sorted)))
