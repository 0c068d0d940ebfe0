-- Rows in strict key order, and what each key has among them.
use Rattle.std.proofs.Common.{◌≡◌, ◌∷◌, [], ℕ, List, Bool, true, false, Some, None, refl, sym, ap, ◌∙◌, subst, cond, All, option_map, true≢false}
use Rattle.std.specs.Ordering.{is_eq, ordering_reverse}
use Rattle.std.specs.declared.cmp.Ordering.{Ordering}
use Rattle.std.specs.declared.cmp.Ordering.TheVariants.{Less, Equal, Greater}
use Rattle.std.specs.List.{AllByRecursion, Contains}
use Rattle.std.specs.List.Sorted.{IsStrictlySortedBy}
use Rattle.std.proofs.lemmas.List.Elements.{All-from_recursion, Contains-append_left, Contains-append_right, Contains-push}
use Rattle.sx_values.specs.declared.value.Value.{Value}
use Rattle.sx_values.specs.Values.{values_cmp}
use Rattle.sx_values.proofs.KeyLaws.{values_tie, values_cmp-refl}
use Rattle.sx_heap.specs.declared.seen.Seen.{Seen}
use Rattle.sx_heap.specs.Relations.{Relation, IsRelation, row_at, row_keys, same_key}
use Rattle.sx_heap.specs.Walks.{rows_after}
use Rattle.sx_heap.proofs.WalkLemmas.{AllAbove, values_total}

-- a row with its LSN, as a key has it
abbrev pub found : Seen → List Value × ℕ
found seen = (seen.row, seen.lsn)

pub same_key-refl : (key : List Value) → same_key key key ≡ true
same_key-refl key = ap is_eq (values_cmp-refl key)

pub same_key_tells : (key other : List Value) → same_key key other ≡ true → key ≡ other
same_key_tells key other e = values_tie key other (by (values_cmp key other) e)
  where
    by : (r : Ordering) → is_eq r ≡ true → r ≡ Equal
    by Less k = absurd (true≢false (sym k))
    by Equal k = refl
    by Greater k = absurd (true≢false (sym k))

-- a key above another isn't that one
apart_from_less : (key other : List Value) → values_cmp key other ≡ Less → same_key other key ≡ false
apart_from_less key other e = ap is_eq (values_total.antisymm other key ∙ ap ordering_reverse e)

-- a key below all keys isn't there
pub row_at-below : (key : List Value) (rows : List Seen) → AllAbove key (row_keys rows) → row_at rows key ≡ None
row_at-below key [] h = refl
row_at-below key (s ∷ rows) h = rw h.0 (row_at-below key rows h.1)

-- a key below another is below all that the other is below
AllAbove-lower : (key other : List Value) (keys : List (List Value)) → values_cmp key other ≡ Less → AllAbove other keys → AllAbove key keys
AllAbove-lower key other [] e h = tt
AllAbove-lower key other (k ∷ keys) e h = (values_total.trans key other k e h.0, AllAbove-lower key other keys e h.1)

-- in front of lower rows a first row changes nothing for the keys above it
carried : (s : Seen) (rows some : List Seen) → AllAbove s.key (row_keys some) → AllByRecursion (λ (t : Seen). row_at rows t.key ≡ Some (found t)) some → AllByRecursion (λ (t : Seen). row_at (s ∷ rows) t.key ≡ Some (found t)) some
carried s rows [] h each = tt
carried s rows (t ∷ some) h each = (rw (apart_from_less s.key t.key h.0) each.0, carried s rows some h.1 each.1)

listed_by_recursion : (rows : List Seen) → IsStrictlySortedBy values_cmp (row_keys rows) → AllByRecursion (λ (t : Seen). row_at rows t.key ≡ Some (found t)) rows
unfolding IsStrictlySortedBy
listed_by_recursion [] sorted = tt
listed_by_recursion (s ∷ rows) sorted = (rw (same_key-refl s.key) refl, carried s rows rows sorted.0 (listed_by_recursion rows sorted.1))

-- the key of each row has that row
pub row_at-listed : (rows : List Seen) → IsStrictlySortedBy values_cmp (row_keys rows) → All (λ (t : Seen). row_at rows t.key ≡ Some (found t)) rows
row_at-listed rows sorted = All-from_recursion (λ (t : Seen). row_at rows t.key ≡ Some (found t)) rows (listed_by_recursion rows sorted)

inside : {X : Type 0} (x y : X) → Some x ≡ Some y → x ≡ y
inside x y e = cc

-- what a key has is among the rows
pub Contains-row_at : (rows : List Seen) (key row : List Value) (lsn : ℕ) → row_at rows key ≡ Some (row, lsn) → Contains rows (record { key = key; row = row; lsn = lsn })
Contains-row_at [] key row lsn e = cc
Contains-row_at (s ∷ rows) key row lsn e = by (same_key key s.key) refl (λ h. Contains-row_at rows key row lsn h) e
  where
    by : (b : Bool) → same_key key s.key ≡ b → (row_at rows key ≡ Some (row, lsn) → Contains rows (record { key = key; row = row; lsn = lsn })) → cond b (Some (found s)) (row_at rows key) ≡ Some (row, lsn) → Contains (s ∷ rows) (record { key = key; row = row; lsn = lsn })
    by true k rest h =
        let same = same_key_tells key s.key k in
        let row_is : Some s.row ≡ Some row = ap (option_map (λ p. p.0)) h in
        let lsn_is : Some s.lsn ≡ Some lsn = ap (option_map (λ p. p.1)) h in
        subst (Contains (s ∷ rows)) (λ i. record { key = sym same i; row = inside s.row row row_is i; lsn = inside s.lsn lsn lsn_is i }) (Contains-append_left (s ∷ []) rows s (Contains-push [] s))
    by false k rest h = Contains-append_right (s ∷ []) rows (record { key = key; row = row; lsn = lsn }) (rest h)

nothing_found : (s : Seen) → None ≡ Some (found s) → ⊥
nothing_found s e = cc

here : (s : Seen) (rows : List Seen) → row_at (s ∷ rows) s.key ≡ Some (found s)
here s rows = rw (same_key-refl s.key) refl

-- a first key below all others isn't among them
not_here : (x y : Seen) (xs ys : List Seen) → values_cmp x.key y.key ≡ Less → AllAbove y.key (row_keys ys) → row_at (x ∷ xs) x.key ≡ row_at (y ∷ ys) x.key → ⊥
not_here x y xs ys e above h =
    nothing_found x (sym (row_at-below x.key (y ∷ ys) (e, AllAbove-lower x.key y.key (row_keys ys) e above)) ∙ sym h ∙ here x xs)

-- behind one first key the rows have the same for each key
tails_agree : (x y : Seen) (xs ys : List Seen) → x.key ≡ y.key → AllAbove x.key (row_keys xs) → AllAbove y.key (row_keys ys) → ((key : List Value) → row_at (x ∷ xs) key ≡ row_at (y ∷ ys) key) → (key : List Value) → row_at xs key ≡ row_at ys key
tails_agree x y xs ys same above above' h key = by (same_key key x.key) refl
  where
    by : (b : Bool) → same_key key x.key ≡ b → row_at xs key ≡ row_at ys key
    by true k =
        let at_x = same_key_tells key x.key k in
        ap (row_at xs) at_x ∙ row_at-below x.key xs above ∙ sym (row_at-below y.key ys above') ∙ ap (row_at ys) (sym (at_x ∙ same))
    by false k =
        let left : row_at (x ∷ xs) key ≡ row_at xs key = rw k refl in
        let apart : same_key key y.key ≡ false = ap (same_key key) (sym same) ∙ k in
        let right : row_at (y ∷ ys) key ≡ row_at ys key = rw apart refl in
        sym left ∙ h key ∙ right

-- two first rows that both lists have, and equal tails
joined : (x y : Seen) (xs ys : List Seen) → AllAbove x.key (row_keys xs) → AllAbove y.key (row_keys ys) → ((key : List Value) → row_at (x ∷ xs) key ≡ row_at (y ∷ ys) key) → (((key : List Value) → row_at xs key ≡ row_at ys key) → xs ≡ ys) → (x ∷ xs) ≡ (y ∷ ys)
joined x y xs ys above above' h rest = by (values_cmp x.key y.key) refl
  where
    by : (r : Ordering) → values_cmp x.key y.key ≡ r → (x ∷ xs) ≡ (y ∷ ys)
    by Less e = absurd (not_here x y xs ys e above' (h x.key))
    by Greater e = absurd (not_here y x ys xs (values_total.antisymm y.key x.key ∙ ap ordering_reverse e) above (sym (h y.key)))
    by Equal e =
        let same = values_tie x.key y.key e in
        let two = sym (here x xs) ∙ h x.key ∙ ap (row_at (y ∷ ys)) same ∙ here y ys in
        let row_is : Some x.row ≡ Some y.row = ap (option_map (λ p. p.0)) two in
        let lsn_is : Some x.lsn ≡ Some y.lsn = ap (option_map (λ p. p.1)) two in
        let tail = rest (tails_agree x y xs ys same above above' h) in
        λ i. record { key = same i; row = inside x.row y.row row_is i; lsn = inside x.lsn y.lsn lsn_is i } ∷ tail i

-- rows in order are known by what each key has
pub rows_unique : (xs ys : List Seen) → IsStrictlySortedBy values_cmp (row_keys xs) → IsStrictlySortedBy values_cmp (row_keys ys) → ((key : List Value) → row_at xs key ≡ row_at ys key) → xs ≡ ys
unfolding IsStrictlySortedBy
rows_unique [] [] s t h = refl
rows_unique [] (y ∷ ys) s t h = absurd (nothing_found y (h y.key ∙ here y ys))
rows_unique (x ∷ xs) [] s t h = absurd (nothing_found x (sym (h x.key) ∙ here x xs))
rows_unique (x ∷ xs) (y ∷ ys) s t h = joined x y xs ys s.0 t.0 h (λ k. rows_unique xs ys s.1 t.1 k)

-- tables are known by their schema and by what each key has
pub relation_unique : (one other : Relation) → IsRelation one → IsRelation other → one.schema ≡ other.schema → ((key : List Value) → row_at one.rows key ≡ row_at other.rows key) → one ≡ other
relation_unique one other a b e h =
    let same = rows_unique one.rows other.rows a.sorted b.sorted h in
    λ i. record { schema = e i; rows = same i }

-- before the first row stands no row
pub rows_after-start : (rows : List Seen) → rows_after None rows ≡ rows
rows_after-start [] = refl
rows_after-start (s ∷ rows) = ap (λ xs. s ∷ xs) (rows_after-start rows)
