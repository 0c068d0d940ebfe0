-- A turn of a walk leaves ahead what it did not hand out.
use Rattle.std.proofs.Common.{◌≡◌, ◌++◌, ◌↔◌, IsTrue, ◌∷◌, [], ◌-◌, ℕ, zero, suc, List, Bool, true, false, Option, Some, None, length, refl, sym, ap, ◌∙◌, cond, take, drop, true≢false, arith, option_map}
use Rattle.std.proofs.lemmas.List.{take-append-drop}
use Rattle.std.specs.Ordering.{is_lt, ordering_reverse}
use Rattle.std.specs.declared.cmp.Ordering.{Ordering}
use Rattle.std.specs.declared.cmp.Ordering.TheVariants.{Less, Equal, Greater}
use Rattle.std.specs.List.{AllByRecursion, slice_get}
use Rattle.std.specs.List.Sorted.{IsStrictlySortedBy}
use Rattle.std.specs.Cmp.{IsTotalOrder}
use Rattle.std.specs.Cmp.Lexicographic.{lists_total}
use Rattle.sx_values.specs.declared.value.Value.{Value}
use Rattle.sx_values.specs.Values.{values_cmp}
use Rattle.sx_values.specs.ValueLaws.{value_cmp_total}
use Rattle.sx_values.proofs.KeyLaws.{values_cmp-refl}
use Rattle.sx_heap.specs.declared.seen.Seen.{Seen}
use Rattle.sx_heap.specs.Relations.{row_keys}
use Rattle.sx_heap.specs.Walks.{is_after, rows_after, last_key, WalksOn}
use Rattle.sx_heap.specs.declared.walk.Walked.{Walked}

pub values_total : IsTotalOrder values_cmp
values_total = lists_total value_cmp_total

-- each of these keys stands behind the cursor
abbrev pub AllAfter : Option (List Value) → List (List Value) → Type 0
AllAfter cursor keys = AllByRecursion (λ key. is_after cursor key ≡ true) keys

-- a key stands below each of these
abbrev pub AllAbove : List Value → List (List Value) → Type 0
AllAbove key keys = AllByRecursion (λ other. values_cmp key other ≡ Less) keys

pub is_lt_Less : (r : Ordering) → is_lt r ≡ true → r ≡ Less
is_lt_Less Less e = refl
is_lt_Less Equal e = absurd (true≢false (sym e))
is_lt_Less Greater e = absurd (true≢false (sym e))

-- a key above another isn't below it
not_below : (key other : List Value) → values_cmp key other ≡ Less → is_lt (values_cmp other key) ≡ false
not_below key other e = ap is_lt (values_total.antisymm other key ∙ ap ordering_reverse e)

-- what is behind a key behind the cursor is behind the cursor
after_trans : (cursor : Option (List Value)) (key other : List Value) → is_after cursor key ≡ true → is_after (Some key) other ≡ true → is_after cursor other ≡ true
after_trans None key other h k = refl
after_trans (Some last) key other h k = ap is_lt (values_total.trans last key other (is_lt_Less (values_cmp last key) h) (is_lt_Less (values_cmp key other) k))

pub AllAfter-above : (key : List Value) (keys : List (List Value)) → AllAbove key keys → AllAfter (Some key) keys
AllAfter-above key [] h = tt
AllAfter-above key (k ∷ keys) h = (ap is_lt h.0, AllAfter-above key keys h.1)

-- the last key that is handed out isn't below an earlier one
not_behind : (key from : List Value) (n : ℕ) (rows : List Seen) → is_lt (values_cmp from key) ≡ false → AllAbove key (row_keys rows) → is_after (last_key (Some from) (take n rows)) key ≡ false
not_behind key from zero rows h above = h
not_behind key from (suc n) [] h above = h
not_behind key from (suc n) (s ∷ rows) h above = not_behind key s.key n rows (not_below key s.key above.0) above.1

-- where all rows stand behind the cursor, none is left out
rows_after-all : (cursor : Option (List Value)) (rows : List Seen) → AllAfter cursor (row_keys rows) → rows_after cursor rows ≡ rows
rows_after-all cursor [] h = refl
rows_after-all cursor (s ∷ rows) h = rw h.0 (ap (λ xs. s ∷ xs) (rows_after-all cursor rows h.1))

-- behind the last of the first n rows stand the others
rows_after-last : (cursor : Option (List Value)) (n : ℕ) (rows : List Seen) → IsStrictlySortedBy values_cmp (row_keys rows) → AllAfter cursor (row_keys rows) → rows_after (last_key cursor (take n rows)) rows ≡ drop n rows
unfolding IsStrictlySortedBy
rows_after-last cursor zero rows sorted after = rows_after-all cursor rows after
rows_after-last cursor (suc n) [] sorted after = refl
rows_after-last cursor (suc n) (s ∷ rows) sorted after =
    rw (not_behind s.key s.key n rows (ap is_lt (values_cmp-refl s.key)) sorted.0) (rows_after-last (Some s.key) n rows sorted.1 (AllAfter-above s.key (row_keys rows) sorted.0))

-- what stands behind the last of rows behind the cursor stands behind the cursor
onward : (cursor from : Option (List Value)) (n : ℕ) (rows : List Seen) → ((other : List Value) → is_after from other ≡ true → is_after cursor other ≡ true) → AllAfter cursor (row_keys rows) → (other : List Value) → is_after (last_key from (take n rows)) other ≡ true → is_after cursor other ≡ true
onward cursor from zero rows h after other e = h other e
onward cursor from (suc n) [] h after other e = h other e
onward cursor from (suc n) (s ∷ rows) h after other e = onward cursor (Some s.key) n rows (λ q k. after_trans cursor s.key q after.0 k) after.1 other e

-- one more row in a filter of a filter
filter_head : (far : Option (List Value)) (s : Seen) (xs ys : List Seen) (near : Bool) → (is_after far s.key ≡ true → near ≡ true) → rows_after far xs ≡ ys → rows_after far (cond near (s ∷ xs) xs) ≡ cond (is_after far s.key) (s ∷ ys) ys
filter_head far s xs ys true h e = rw e refl
filter_head far s xs ys false h e = by (is_after far s.key) refl
  where
    by : (b : Bool) → is_after far s.key ≡ b → rows_after far xs ≡ cond b (s ∷ ys) ys
    by true k = absurd (true≢false (sym (h k)))
    by false k = e

-- behind a later cursor the rows behind an earlier one are all there are
rows_after-rows_after : (near far : Option (List Value)) → ((other : List Value) → is_after far other ≡ true → is_after near other ≡ true) → (rows : List Seen) → rows_after far (rows_after near rows) ≡ rows_after far rows
rows_after-rows_after near far h [] = refl
rows_after-rows_after near far h (s ∷ rows) = filter_head far s (rows_after near rows) (rows_after far rows) (is_after near s.key) (h s.key) (rows_after-rows_after near far h rows)

pub AllAfter-rows_after : (cursor : Option (List Value)) (rows : List Seen) → AllAfter cursor (row_keys (rows_after cursor rows))
AllAfter-rows_after cursor [] = tt
AllAfter-rows_after cursor (s ∷ rows) = by (is_after cursor s.key) refl (rows_after cursor rows) (AllAfter-rows_after cursor rows)
  where
    by : (b : Bool) → is_after cursor s.key ≡ b → (xs : List Seen) → AllAfter cursor (row_keys xs) → AllAfter cursor (row_keys (cond b (s ∷ xs) xs))
    by true e xs h = (e, h)
    by false e xs h = h

AllAbove-rows_after : (key : List Value) (cursor : Option (List Value)) (rows : List Seen) → AllAbove key (row_keys rows) → AllAbove key (row_keys (rows_after cursor rows))
AllAbove-rows_after key cursor [] h = tt
AllAbove-rows_after key cursor (s ∷ rows) h = by (is_after cursor s.key) (rows_after cursor rows) (AllAbove-rows_after key cursor rows h.1)
  where
    by : (b : Bool) (xs : List Seen) → AllAbove key (row_keys xs) → AllAbove key (row_keys (cond b (s ∷ xs) xs))
    by true xs k = (h.0, k)
    by false xs k = k

-- one more row in order
sorted_head : (b : Bool) (s : Seen) (xs : List Seen) → AllAbove s.key (row_keys xs) → IsStrictlySortedBy values_cmp (row_keys xs) → IsStrictlySortedBy values_cmp (row_keys (cond b (s ∷ xs) xs))
unfolding IsStrictlySortedBy
sorted_head true s xs above sorted = (above, sorted)
sorted_head false s xs above sorted = sorted

-- the rows behind a cursor keep their order
pub sorted-rows_after : (cursor : Option (List Value)) (rows : List Seen) → IsStrictlySortedBy values_cmp (row_keys rows) → IsStrictlySortedBy values_cmp (row_keys (rows_after cursor rows))
unfolding IsStrictlySortedBy
sorted-rows_after cursor [] h = tt
sorted-rows_after cursor (s ∷ rows) h = sorted_head (is_after cursor s.key) s (rows_after cursor rows) (AllAbove-rows_after s.key cursor rows h.0) (sorted-rows_after cursor rows h.1)

-- behind the place where a turn of n rows ends stand the rows that it did not hand out
pub rows_after-turn : (cursor : Option (List Value)) (n : ℕ) (rows : List Seen) → IsStrictlySortedBy values_cmp (row_keys rows) → rows_after (last_key cursor (take n (rows_after cursor rows))) rows ≡ drop n (rows_after cursor rows)
rows_after-turn cursor n rows sorted =
    let ahead = rows_after cursor rows in
    let after = AllAfter-rows_after cursor rows in
    sym (rows_after-rows_after cursor (last_key cursor (take n ahead)) (onward cursor cursor n ahead (λ other e. e) after) rows)
    ∙ rows_after-last cursor n ahead (sorted-rows_after cursor rows sorted) after

-- the key of the last row, by its place
last_key-at : (cursor : Option (List Value)) (rows : List Seen) (k : ℕ) (s : Seen) → length rows ≡ suc k → slice_get rows k ≡ Some s → last_key cursor rows ≡ Some s.key
last_key-at cursor [] k s l e = cc
last_key-at cursor (r ∷ []) zero s l e = ap (option_map (λ (x : Seen). x.key)) e
last_key-at cursor (r ∷ (t ∷ rows)) zero s l e = absurd (omega arith)
last_key-at cursor (r ∷ []) (suc k) s l e = cc
last_key-at cursor (r ∷ (t ∷ rows)) (suc k) s l e = last_key-at (Some r.key) (t ∷ rows) k s (omega arith) e

pub last_key-last : (cursor : Option (List Value)) (rows : List Seen) (s : Seen) → slice_get rows (length rows - 1) ≡ Some s → last_key cursor rows ≡ Some s.key
last_key-last cursor [] s e = cc
last_key-last cursor (r ∷ rows) s e =
    let before : length (r ∷ rows) - 1 ≡ length rows = omega arith in
    last_key-at cursor (r ∷ rows) (length rows) s refl (ap (slice_get (r ∷ rows)) (sym before) ∙ e)

-- a turn that hands out the first n rows behind its cursor, and says whether more stand there
pub walks_on : (rows : List Seen) (cursor : Option (List Value)) (n : ℕ) (walked : Walked) (left : List Seen) → IsStrictlySortedBy values_cmp (row_keys rows) → walked.seen ≡ take n (rows_after cursor rows) → walked.next ≡ last_key cursor walked.seen → left ≡ drop n (rows_after cursor rows) → (IsTrue walked.over ↔ (left ≡ [])) → WalksOn rows cursor n walked
walks_on rows cursor n walked left sorted seen next ahead over =
    let place = next ∙ ap (last_key cursor) seen in
    let behind = ap (λ k. rows_after k rows) place ∙ rows_after-turn cursor n rows sorted ∙ sym ahead in
    record {
      hands_out = seen;
      ends_at = next;
      is_over = (λ t. behind ∙ over.0 t, λ none. over.1 (sym behind ∙ none));
    }

-- behind the place where a turn ends stand the rows behind its cursor but for those that it handed out
pub rows_after-next : (rows : List Seen) (cursor : Option (List Value)) (n : ℕ) (walked : Walked) → IsStrictlySortedBy values_cmp (row_keys rows) → WalksOn rows cursor n walked → rows_after walked.next rows ≡ drop n (rows_after cursor rows)
rows_after-next rows cursor n walked sorted walks =
    ap (λ k. rows_after k rows) (walks.ends_at ∙ ap (last_key cursor) walks.hands_out) ∙ rows_after-turn cursor n rows sorted

-- what a turn hands out, and then the rows behind its end, are the rows behind its cursor
pub rows_after-walked : (rows : List Seen) (cursor : Option (List Value)) (n : ℕ) (walked : Walked) → IsStrictlySortedBy values_cmp (row_keys rows) → WalksOn rows cursor n walked → walked.seen ++ rows_after walked.next rows ≡ rows_after cursor rows
rows_after-walked rows cursor n walked sorted walks =
    rw (walks.hands_out, rows_after-next rows cursor n walked sorted walks) (take-append-drop n (rows_after cursor rows))
