-- The rows of a map's entries: at a key, in order, and between bounds.
use Rattle.std.proofs.Common.{◌≡◌, ◌↔◌, IsTrue, ◌∷◌, ◌++◌, [], ◌+◌, ◌&&◌, IsSome, ℕ, zero, suc, List, Bool, true, false, Option, Some, None, option_map, is_some, refl, sym, ap, ◌∙◌, subst, cond, map, take, drop, All, true≢false}
use Rattle.std.specs.Map.{lookup, keys_of, values_of, set_value}
use Rattle.std.specs.BTreeMap.{is_at, insert_entry}
use Rattle.std.specs.BTreeMap.Range.{entries_between}
use Rattle.std.specs.Ordering.{is_eq, is_lt, match_ordering}
use Rattle.std.specs.declared.cmp.Ordering.{Ordering}
use Rattle.std.specs.declared.cmp.Ordering.TheVariants.{Less, Equal, Greater}
use Rattle.std.specs.declared.ops.Bound.TheVariants.{Unbounded}
use Rattle.std.specs.List.Sorted.{IsStrictlySortedBy}
use Rattle.std.proofs.lemmas.List.Elements.{All-nil, All-cons, All-head, All-tail}
use Rattle.sx_values.specs.declared.value.Value.{Value}
use Rattle.sx_values.specs.Values.{values_cmp}
use Rattle.sx_values.proofs.KeyLaws.{values_tie}
use Rattle.sx_heap.specs.declared.seen.Seen.{Seen}
use Rattle.sx_heap.specs.declared.table.Stamped.{Stamped}
use Rattle.sx_heap.specs.Relations.{row_at, row_keys, same_key}
use Rattle.sx_heap.specs.Entries.{seen_of, rows_of}
use Rattle.sx_heap.specs.Walks.{is_after, rows_after, bound_of}
use Rattle.sx_heap.proofs.TurnLemmas.{take_next}

-- a row with its LSN
abbrev pub image_of : Stamped → List Value × ℕ
image_of stamped = (stamped.row, stamped.lsn)

-- a first row that a key may have
head_at : (b : Bool) (v : Stamped) (r : Option (List Value × ℕ)) (s : Option Stamped) → r ≡ option_map image_of s → cond b (Some (image_of v)) r ≡ option_map image_of (cond b (Some v) s)
head_at true v r s e = refl
head_at false v r s e = e

-- what a key has among the rows is what it has among the entries
pub row_at-rows_of : (es : List (List Value × Stamped)) (key : List Value) → row_at (rows_of es) key ≡ option_map image_of (lookup (is_at (values_cmp key)) es)
row_at-rows_of [] key = refl
row_at-rows_of (e ∷ es) key = head_at (same_key key e.0) e.1 (row_at (rows_of es) key) (lookup (is_at (values_cmp key)) es) (row_at-rows_of es key)

option_map-cond : (b : Bool) (v w : Option Stamped) → option_map image_of (cond b v w) ≡ cond b (option_map image_of v) (option_map image_of w)
option_map-cond true v w = refl
option_map-cond false v w = refl

-- a map that has something else at one key has other rows at that key alone
pub row_at-update : (old new : List (List Value × Stamped)) (key : List Value) (v : Option Stamped) → ((q : List Value) → lookup (is_at (values_cmp q)) new ≡ cond (is_at (values_cmp key) q) v (lookup (is_at (values_cmp q)) old)) → (q : List Value) → row_at (rows_of new) q ≡ cond (same_key key q) (option_map image_of v) (row_at (rows_of old) q)
row_at-update old new key v h q =
    row_at-rows_of new q ∙ ap (option_map image_of) (h q) ∙ option_map-cond (same_key key q) v (lookup (is_at (values_cmp q)) old)
    ∙ ap (cond (same_key key q) (option_map image_of v)) (sym (row_at-rows_of old q))

-- the rows have the keys of the entries
pub row_keys-rows_of : (es : List (List Value × Stamped)) → row_keys (rows_of es) ≡ keys_of es
row_keys-rows_of [] = refl
row_keys-rows_of (e ∷ es) = ap (λ ks. e.0 ∷ ks) (row_keys-rows_of es)

pub sorted-rows_of : (es : List (List Value × Stamped)) → IsStrictlySortedBy values_cmp (keys_of es) → IsStrictlySortedBy values_cmp (row_keys (rows_of es))
sorted-rows_of es h = subst (IsStrictlySortedBy values_cmp) (sym (row_keys-rows_of es)) h

-- what holds of each row, and of one that is put in at its key, holds of each row then
pub All-rows_of-insert_entry : (P : Seen → Type 0) (key : List Value) (v : Stamped) (es : List (List Value × Stamped)) → P (seen_of (key, v)) → All P (rows_of es) → All P (rows_of (insert_entry values_cmp es key v))
All-rows_of-insert_entry P key v [] h a = All-cons P (seen_of (key, v)) [] h (All-nil P)
All-rows_of-insert_entry P key v (e ∷ es) h a = by (values_cmp key e.0) refl (insert_entry values_cmp es key v) (All-rows_of-insert_entry P key v es h (All-tail P (seen_of e) (rows_of es) a))
  where
    by : (r : Ordering) → values_cmp key e.0 ≡ r → (put : List (List Value × Stamped)) → All P (rows_of put) → All P (rows_of (match_ordering r ((key, v) ∷ e ∷ es) ((e.0, v) ∷ es) (e ∷ put)))
    by Less k put b = All-cons P (seen_of (key, v)) (rows_of (e ∷ es)) h a
    by Equal k put b = All-cons P (seen_of (e.0, v)) (rows_of es) (subst (λ q. P (seen_of (q, v))) (values_tie key e.0 k) h) (All-tail P (seen_of e) (rows_of es) a)
    by Greater k put b = All-cons P (seen_of e) (rows_of put) (All-head P (seen_of e) (rows_of es) a) b

-- what holds of each row, and of one that is written at its key, holds of each row then
pub All-rows_of-set_value : (P : Seen → Type 0) (key : List Value) (v : Stamped) (es : List (List Value × Stamped)) → P (seen_of (key, v)) → All P (rows_of es) → All P (rows_of (set_value (is_at (values_cmp key)) es v))
All-rows_of-set_value P key v [] h a = All-nil P
All-rows_of-set_value P key v (e ∷ es) h a = by (values_cmp key e.0) refl (set_value (is_at (values_cmp key)) es v) (All-rows_of-set_value P key v es h (All-tail P (seen_of e) (rows_of es) a))
  where
    by : (r : Ordering) → values_cmp key e.0 ≡ r → (put : List (List Value × Stamped)) → All P (rows_of put) → All P (rows_of (cond (is_eq r) ((e.0, v) ∷ es) (e ∷ put)))
    by Less k put b = All-cons P (seen_of e) (rows_of put) (All-head P (seen_of e) (rows_of es) a) b
    by Equal k put b = All-cons P (seen_of (e.0, v)) (rows_of es) (subst (λ q. P (seen_of (q, v))) (values_tie key e.0 k) h) (All-tail P (seen_of e) (rows_of es) a)
    by Greater k put b = All-cons P (seen_of e) (rows_of put) (All-head P (seen_of e) (rows_of es) a) b

some_mapped : (found : Option Stamped) → is_some found ≡ is_some (option_map image_of found)
some_mapped None = refl
some_mapped (Some v) = refl

-- a key has an entry exactly where it has a row
pub there_alike : (es : List (List Value × Stamped)) (key : List Value) (was : Option Stamped) → was ≡ lookup (is_at (values_cmp key)) es → is_some was ≡ is_some (row_at (rows_of es) key)
there_alike es key was e = ap is_some e ∙ some_mapped (lookup (is_at (values_cmp key)) es) ∙ ap is_some (sym (row_at-rows_of es key))

-- a key that has a row has an entry
pub has_entry : (es : List (List Value × Stamped)) (key : List Value) → IsSome (row_at (rows_of es) key) → IsSome (lookup (is_at (values_cmp key)) es)
has_entry es key there = by (lookup (is_at (values_cmp key)) es) (subst IsSome (row_at-rows_of es key) there)
  where
    by : (found : Option Stamped) → IsSome (option_map image_of found) → IsSome found
    by None h = h
    by (Some v) h = h

-- one more entry, where it stands in the range
between_head : (b : Bool) (e : List Value × Stamped) (xs : List (List Value × Stamped)) (ys : List Seen) → rows_of xs ≡ ys → rows_of (cond (b && true) (e ∷ xs) xs) ≡ cond b (seen_of e ∷ ys) ys
between_head true e xs ys h = ap (λ rows. seen_of e ∷ rows) h
between_head false e xs ys h = h

-- the entries of the range behind a cursor are the rows behind it
pub rows_of-between : (cursor : Option (List Value)) (es : List (List Value × Stamped)) → rows_of (entries_between values_cmp (bound_of cursor) Unbounded es) ≡ rows_after cursor (rows_of es)
rows_of-between None [] = refl
rows_of-between None (e ∷ es) = ap (λ rows. seen_of e ∷ rows) (rows_of-between None es)
rows_of-between (Some last) [] = refl
rows_of-between (Some last) (e ∷ es) = between_head (is_after (Some last) e.0) e (entries_between values_cmp (bound_of (Some last)) Unbounded es) (rows_after (Some last) (rows_of es)) (rows_of-between (Some last) es)

pub rows_of-take : (n : ℕ) (es : List (List Value × Stamped)) → rows_of (take n es) ≡ take n (rows_of es)
rows_of-take zero es = refl
rows_of-take (suc n) [] = refl
rows_of-take (suc n) (e ∷ es) = ap (λ rows. seen_of e ∷ rows) (rows_of-take n es)

pub rows_of-drop : (n : ℕ) (es : List (List Value × Stamped)) → rows_of (drop n es) ≡ drop n (rows_of es)
rows_of-drop zero es = refl
rows_of-drop (suc n) [] = refl
rows_of-drop (suc n) (e ∷ es) = rows_of-drop n es

rows_of-append : (es fs : List (List Value × Stamped)) → rows_of (es ++ fs) ≡ rows_of es ++ rows_of fs
rows_of-append [] fs = refl
rows_of-append (e ∷ es) fs = ap (λ rows. seen_of e ∷ rows) (rows_of-append es fs)

-- with the row of the first entry left, one row more is handed out
pub rows_of-take_next : (i : ℕ) (all : List (List Value × Stamped)) (e : List Value × Stamped) (rest : List (List Value × Stamped)) (sofar now : List Seen) (s : Seen) → drop i all ≡ e ∷ rest → sofar ≡ rows_of (take i all) → s ≡ seen_of e → now ≡ sofar ++ s ∷ [] → now ≡ rows_of (take (i + 1) all)
rows_of-take_next i all e rest sofar now s left handed same push =
    push ∙ rw (handed, same) (sym (rows_of-append (take i all) (e ∷ []))) ∙ ap rows_of (sym (take_next i all e rest left))

-- no row comes from no entry, and from no other list
pub rows_of-none : (es : List (List Value × Stamped)) (over : Bool) → (IsTrue over ↔ (es ≡ [])) → IsTrue over ↔ (rows_of es ≡ [])
rows_of-none [] over h = (λ t. refl, λ e. h.1 refl)
rows_of-none (e ∷ es) over h = (λ t. absurd (filled (h.0 t)), λ none. absurd (listed none))
  where
    filled : (e ∷ es) ≡ [] → ⊥
    filled k = cc

    listed : (seen_of e ∷ rows_of es) ≡ [] → ⊥
    listed k = cc

-- the rows of the values of entries are those of the entries
pub bare_rows_of : (es : List (List Value × Stamped)) → map (λ (s : Stamped). s.row) (values_of es) ≡ map (λ (s : Seen). s.row) (rows_of es)
bare_rows_of [] = refl
bare_rows_of (e ∷ es) = ap (λ rows. e.1.row ∷ rows) (bare_rows_of es)

apart_from : (last key other : List Value) → values_cmp last key ≡ Less → is_lt (values_cmp last other) ≡ false → is_at (values_cmp key) other ≡ false
apart_from last key other below not = by (values_cmp key other) refl
  where
    by : (r : Ordering) → values_cmp key other ≡ r → is_eq r ≡ false
    by Less e = refl
    by Greater e = refl
    by Equal e = absurd (true≢false (sym (ap is_lt (ap (values_cmp last) (sym (values_tie key other e)) ∙ below)) ∙ not))

-- a key above one that no key is above isn't there
pub none_behind : (es : List (List Value × Stamped)) (last key : List Value) → values_cmp last key ≡ Less → All (λ q. is_lt (values_cmp last q) ≡ false) (keys_of es) → lookup (is_at (values_cmp key)) es ≡ None
none_behind [] last key below all = refl
none_behind (e ∷ es) last key below all =
    rw (apart_from last key e.0 below (All-head (λ q. is_lt (values_cmp last q) ≡ false) e.0 (keys_of es) all)) (none_behind es last key below (All-tail (λ q. is_lt (values_cmp last q) ≡ false) e.0 (keys_of es) all))
