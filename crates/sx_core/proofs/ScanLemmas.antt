-- A turn of the scan is allowed, whatever its rows did since the start, and what it leaves is kept.
use Rattle.std.proofs.Common.{◌≡◌, ◌≤◌, ◌-◌, ◌∷◌, ◌++◌, ◌||◌, [], ℕ, suc, List, length, map, take, drop, Bool, true, false, cond, not, IsTrue, Option, Some, None, refl, sym, ◌∙◌, ap, subst, arith, inl, inr, eqb-true, true≢false}
use Rattle.std.specs.Prelude.{nat_eq}
use Rattle.std.specs.List.{AllByRecursion, IsDistinct, list_any}
use Rattle.std.specs.List.Sorted.{IsStrictlySortedBy}
use Rattle.std.specs.Ordering.{is_eq, is_lt, ordering_reverse}
use Rattle.std.specs.declared.cmp.Ordering.TheVariants.{Less}
use Rattle.std.proofs.lemmas.Bool.{false≢true}
use Rattle.std.proofs.lemmas.Bool.Decides.{nat_tests}
use Rattle.std.proofs.lemmas.List.Elements.{recursion_from_All}
use Rattle.std.proofs.lemmas.List.{length-map, length-take, length-take-le, length-drop}
use Rattle.sx_values.specs.declared.value.Value.{Value}
use Rattle.sx_values.specs.Values.{values_cmp}
use Rattle.sx_values.proofs.KeyLaws.{values_cmp-refl}
use Rattle.sx_log.specs.declared.record.Rec.{Rec}
use Rattle.sx_log.specs.State.{Stored, state_at}
use Rattle.sx_heap.specs.declared.seen.Seen.{Seen}
use Rattle.sx_heap.specs.declared.walk.Walked.{Walked}
use Rattle.sx_heap.specs.Relations.{row_at, row_keys, same_key}
use Rattle.sx_heap.specs.Walks.{WalksOn, is_after, rows_after, last_key}
use Rattle.sx_heap.proofs.RowLemmas.{found, row_at-listed, same_key_tells}
use Rattle.sx_heap.proofs.WalkLemmas.{AllAbove, AllAfter, AllAfter-rows_after, values_total, is_lt_Less, sorted-rows_after, rows_after-next, rows_after-walked}
use Rattle.sx_model.specs.Cursors.{IsWalked}
use Rattle.sx_model.specs.Scans.{has_lsn, Covers, IsRowNow, EndsSide}
use Rattle.sx_model.proofs.LsnLaws.{one_key}
use Rattle.sx_model.proofs.CursorLaws.{IsTurn, walked_turn, unseen_ahead}
use Rattle.sx_model.proofs.TestLaws.{by_cases}
use Rattle.sx_core.specs.Kept.{is_behind}

-- the LSNs of rows, in order
abbrev pub lsns_of : List Seen → List ℕ
lsns_of rows = map (λ (s : Seen). s.lsn) rows

-- what holds of each item of joined lists holds of the first part's
every_front : {X : Type 0} (P : X → Type 0) (xs ys : List X) → AllByRecursion P (xs ++ ys) → AllByRecursion P xs
every_front P [] ys all = tt
every_front P (x ∷ xs) ys all = (all.0, every_front P xs ys all.1)

-- each row is what its key has in the state
abbrev pub AreStored : List Rec → List ℕ → List Seen → Type 0
AreStored log name rows = AllByRecursion (λ (s : Seen). state_at log name s.key ≡ Some (s.row, s.lsn)) rows

stored_from_listed : (log : List Rec) (name : List ℕ) (rows some : List Seen) → ((key : List Value) → row_at rows key ≡ state_at log name key)
    → AllByRecursion (λ (s : Seen). row_at rows s.key ≡ Some (found s)) some → AreStored log name some
stored_from_listed log name rows [] meets listed = tt
stored_from_listed log name rows (s ∷ some) meets listed = (sym (meets s.key) ∙ listed.0, stored_from_listed log name rows some meets listed.1)

rows_now : (log : List Rec) (name : List ℕ) (rows : List Seen) → AreStored log name rows → AllByRecursion (IsRowNow log name) (lsns_of rows)
rows_now log name [] all = tt
rows_now log name (s ∷ rows) all = (record { key = s.key; row = s.row; now = all.0 }, rows_now log name rows all.1)

-- a row below others has none of their LSNs
lsn_differs : (log : List Rec) (name : List ℕ) (s : Seen) (rows : List Seen) → state_at log name s.key ≡ Some (s.row, s.lsn) → AllAbove s.key (row_keys rows) → AreStored log name rows
    → AllByRecursion (λ lsn. nat_eq s.lsn lsn ≡ false) (lsns_of rows)
lsn_differs log name s [] here above all = tt
lsn_differs log name s (t ∷ rows) here above all = (by_cases (nat_eq s.lsn t.lsn) (λ same. absurd (one same)) (λ other. other), lsn_differs log name s rows here above.1 all.1)
  where
    one : nat_eq s.lsn t.lsn ≡ true → ⊥
    one same =
        let lsn : s.lsn ≡ t.lsn = eqb-true s.lsn t.lsn same in
        let key = one_key log name s.key t.key s.row t.row t.lsn (subst (λ n. state_at log name s.key ≡ Some (s.row, n)) lsn here) all.0 in
        true≢false (sym (ap is_eq (values_cmp-refl t.key)) ∙ ap (λ k. is_eq (values_cmp k t.key)) (sym key) ∙ ap is_eq above.0)

-- rows in order have LSNs that differ
lsns_distinct : (log : List Rec) (name : List ℕ) (rows : List Seen) → IsStrictlySortedBy values_cmp (row_keys rows) → AreStored log name rows → IsDistinct nat_eq (lsns_of rows)
unfolding IsStrictlySortedBy IsDistinct
lsns_distinct log name [] sorted all = tt
lsns_distinct log name (s ∷ rows) sorted all = (lsn_differs log name s rows all.0 sorted.0 all.1, lsns_distinct log name rows sorted.1 all.1)

none_passes : (test : ℕ → Bool) (ys : List ℕ) → AllByRecursion (λ y. test y ≡ false) ys → IsTrue (not (list_any test ys))
none_passes test [] all = refl
none_passes test (y ∷ ys) all = rw all.0 (none_passes test ys all.1)

-- ** the rows of a walk **

-- the rows behind a cursor, of rows of which something holds
after_each : (P : Seen → Type 0) (cursor : Option (List Value)) (rows : List Seen) → AllByRecursion P rows → AllByRecursion P (rows_after cursor rows)
after_each P cursor [] all = tt
after_each P cursor (s ∷ rows) all = by (is_after cursor s.key) (rows_after cursor rows) (after_each P cursor rows all.1)
  where
    by : (b : Bool) (xs : List Seen) → AllByRecursion P xs → AllByRecursion P (cond b (s ∷ xs) xs)
    by true xs h = (all.0, h)
    by false xs h = h

-- the first part of rows in order is in order
front_above : (key : List Value) (xs ys : List Seen) → AllAbove key (row_keys (xs ++ ys)) → AllAbove key (row_keys xs)
front_above key [] ys above = tt
front_above key (x ∷ xs) ys above = (above.0, front_above key xs ys above.1)

sorted_front : (xs ys : List Seen) → IsStrictlySortedBy values_cmp (row_keys (xs ++ ys)) → IsStrictlySortedBy values_cmp (row_keys xs)
unfolding IsStrictlySortedBy
sorted_front [] ys sorted = tt
sorted_front (x ∷ xs) ys sorted = (front_above x.key xs ys sorted.0, sorted_front xs ys sorted.1)

front_after : (cursor : Option (List Value)) (xs ys : List Seen) → AllAfter cursor (row_keys (xs ++ ys)) → AllAfter cursor (row_keys xs)
front_after cursor [] ys all = tt
front_after cursor (x ∷ xs) ys all = (all.0, front_after cursor xs ys all.1)

-- a key above another isn't below it
not_below : (key other : List Value) → values_cmp key other ≡ Less → is_lt (values_cmp other key) ≡ false
not_below key other e = ap is_lt (values_total.antisymm other key ∙ ap ordering_reverse e)

-- the last of rows in order is behind none of them
last_passed : (key from : List Value) (rows : List Seen) → is_lt (values_cmp from key) ≡ false → AllAbove key (row_keys rows) → is_after (last_key (Some from) rows) key ≡ false
last_passed key from [] h above = h
last_passed key from (s ∷ rows) h above = last_passed key s.key rows (not_below key s.key above.0) above.1

all_passed : (cursor : Option (List Value)) (rows : List Seen) → IsStrictlySortedBy values_cmp (row_keys rows) → AllByRecursion (λ (s : Seen). is_behind (last_key cursor rows) s.key ≡ true) rows
unfolding IsStrictlySortedBy
all_passed cursor [] sorted = tt
all_passed cursor (s ∷ rows) sorted = (ap not (last_passed s.key s.key rows (ap is_lt (values_cmp-refl s.key)) sorted.0), all_passed (Some s.key) rows sorted.1)

-- what is behind the last of rows behind the cursor is behind the cursor
after_trans : (cursor : Option (List Value)) (key other : List Value) → is_after cursor key ≡ true → is_after (Some key) other ≡ true → is_after cursor other ≡ true
after_trans None key other h k = refl
after_trans (Some last) key other h k = ap is_lt (values_total.trans last key other (is_lt_Less (values_cmp last key) h) (is_lt_Less (values_cmp key other) k))

onward : (cursor from : Option (List Value)) (rows : List Seen) → ((other : List Value) → is_after from other ≡ true → is_after cursor other ≡ true) → AllAfter cursor (row_keys rows)
    → (other : List Value) → is_after (last_key from rows) other ≡ true → is_after cursor other ≡ true
onward cursor from [] h after other e = h other e
onward cursor from (s ∷ rows) h after other e = onward cursor (Some s.key) rows (λ q k. after_trans cursor s.key q after.0 k) after.1 other e

-- a key that was passed stays so
still_behind : (cursor next : Option (List Value)) → ((other : List Value) → is_after next other ≡ true → is_after cursor other ≡ true) → (key : List Value) → is_behind cursor key ≡ true → is_behind next key ≡ true
still_behind cursor next onwards key passed_it = by_cases (is_after next key)
    (λ ahead. absurd (false≢true (sym (ap not (onwards key ahead)) ∙ passed_it)))
    (λ f. ap not f)

-- a key behind the cursor has among all rows what it has among those ahead
row_ahead : (cursor : Option (List Value)) (rows : List Seen) (key : List Value) → is_after cursor key ≡ true → row_at (rows_after cursor rows) key ≡ row_at rows key
row_ahead cursor [] key after = refl
row_ahead cursor (s ∷ rows) key after = by_cases (same_key key s.key)
    (λ same.
    let there : is_after cursor s.key ≡ true = ap (is_after cursor) (sym (same_key_tells key s.key same)) ∙ after in
    rw there (rw same refl))
    (λ other. by (is_after cursor s.key) other (row_ahead cursor rows key after))
  where
    by : (b : Bool) → same_key key s.key ≡ false → row_at (rows_after cursor rows) key ≡ row_at rows key → row_at (cond b (s ∷ rows_after cursor rows) (rows_after cursor rows)) key ≡ row_at (s ∷ rows) key
    by true other rest = rw other rest
    by false other rest = rest ∙ (rw other refl)

-- a key that was passed has nothing there
row_passed : (cursor : Option (List Value)) (rows : List Seen) (key : List Value) → is_after cursor key ≡ false → row_at (rows_after cursor rows) key ≡ None
row_passed cursor [] key passed_it = refl
row_passed cursor (s ∷ rows) key passed_it = by (is_after cursor s.key) refl (row_passed cursor rows key passed_it)
  where
    by : (b : Bool) → is_after cursor s.key ≡ b → row_at (rows_after cursor rows) key ≡ None → row_at (cond b (s ∷ rows_after cursor rows) (rows_after cursor rows)) key ≡ None
    by false is rest = rest
    by true is rest = by_cases (same_key key s.key)
        (λ same. absurd (true≢false (sym is ∙ ap (is_after cursor) (sym (same_key_tells key s.key same)) ∙ passed_it)))
        (λ other. rw other rest)

-- the LSN of a row that a key has is among those of the first rows where it has none among the others
lsn_among : (rows others : List Seen) (key row : List Value) (lsn : ℕ) → row_at others key ≡ None → row_at (rows ++ others) key ≡ Some (row, lsn) → has_lsn (lsns_of rows) lsn ≡ true
lsn_among [] others key row lsn none is = absurd (missing (sym none ∙ is))
  where
    missing : ◌≡◌ {A = Option Stored} None (Some (row, lsn)) → ⊥
    missing h = cc
lsn_among (s ∷ rows) others key row lsn none is = by (same_key key s.key) is (λ rest. lsn_among rows others key row lsn none rest)
  where
    itself : (n : ℕ) → nat_eq n n ≡ true
    itself n = grind (arith, nat_tests)

    inside : Some (found s) ≡ Some (row, lsn) → s.lsn ≡ lsn
    inside h = ap (λ (answer : Option Stored). elim answer [ None ↦ 0 | Some p ↦ p.1 ]) h

    by : (b : Bool) → cond b (Some (found s)) (row_at (rows ++ others) key) ≡ Some (row, lsn) → (row_at (rows ++ others) key ≡ Some (row, lsn) → has_lsn (lsns_of rows) lsn ≡ true) → has_lsn (lsns_of (s ∷ rows)) lsn ≡ true
    by true h again =
        let here : nat_eq lsn s.lsn ≡ true = subst (λ n. nat_eq n s.lsn ≡ true) (inside h) (itself s.lsn) in
        rw here refl
    by false h again = or_true (nat_eq lsn s.lsn) (has_lsn (lsns_of rows) lsn) (again h)
      where
        or_true : (a b : Bool) → b ≡ true → (a || b) ≡ true
        or_true true b e = refl
        or_true false b e = e

-- ** a walk in a table that meets the log **

pub record IsWalk (log : List Rec) (name : List ℕ) (rows : List Seen) (cursor : Option (List Value)) (n : ℕ) (walked : Walked) : Type 0 where
  pub sorted : IsStrictlySortedBy values_cmp (row_keys rows)
  pub meets : (key : List Value) → row_at rows key ≡ state_at log name key
  pub walks : WalksOn rows cursor n walked

stored_rows : (log : List Rec) (name : List ℕ) (rows : List Seen) (cursor : Option (List Value)) (n : ℕ) (walked : Walked) → IsWalk log name rows cursor n walked → AreStored log name rows
stored_rows log name rows cursor n walked w =
    stored_from_listed log name rows rows w.meets (recursion_from_All (λ (s : Seen). row_at rows s.key ≡ Some (found s)) rows (row_at-listed rows w.sorted))

whole : (log : List Rec) (name : List ℕ) (rows : List Seen) (cursor : Option (List Value)) (n : ℕ) (walked : Walked) → IsWalk log name rows cursor n walked → walked.seen ++ rows_after walked.next rows ≡ rows_after cursor rows
whole log name rows cursor n walked w = rows_after-walked rows cursor n walked w.sorted w.walks

-- what the turn hands out is stored
pub stored_turn : (log : List Rec) (name : List ℕ) (rows : List Seen) (cursor : Option (List Value)) (n : ℕ) (walked : Walked) → IsWalk log name rows cursor n walked → AreStored log name walked.seen
stored_turn log name rows cursor n walked w =
    every_front (λ (s : Seen). state_at log name s.key ≡ Some (s.row, s.lsn)) walked.seen (rows_after walked.next rows)
    (subst (AreStored log name) (sym (whole log name rows cursor n walked w)) (after_each (λ (s : Seen). state_at log name s.key ≡ Some (s.row, s.lsn)) cursor rows (stored_rows log name rows cursor n walked w)))

-- and in order
sorted_turn : (log : List Rec) (name : List ℕ) (rows : List Seen) (cursor : Option (List Value)) (n : ℕ) (walked : Walked) → IsWalk log name rows cursor n walked → IsStrictlySortedBy values_cmp (row_keys walked.seen)
sorted_turn log name rows cursor n walked w =
    sorted_front walked.seen (rows_after walked.next rows) (subst (λ l. IsStrictlySortedBy values_cmp (row_keys l)) (sym (whole log name rows cursor n walked w)) (sorted-rows_after cursor rows w.sorted))

-- and ahead
ahead_turn : (log : List Rec) (name : List ℕ) (rows : List Seen) (cursor : Option (List Value)) (n : ℕ) (walked : Walked) → IsWalk log name rows cursor n walked → AllAfter cursor (row_keys walked.seen)
ahead_turn log name rows cursor n walked w =
    front_after cursor walked.seen (rows_after walked.next rows) (subst (λ l. AllAfter cursor (row_keys l)) (sym (whole log name rows cursor n walked w)) (AllAfter-rows_after cursor rows))

-- where the turn ends, each of its rows was passed
passed_turn : (log : List Rec) (name : List ℕ) (rows : List Seen) (cursor : Option (List Value)) (n : ℕ) (walked : Walked) → IsWalk log name rows cursor n walked → AllByRecursion (λ (s : Seen). is_behind walked.next s.key ≡ true) walked.seen
passed_turn log name rows cursor n walked w =
    subst (λ place. AllByRecursion (λ (s : Seen). is_behind place s.key ≡ true) walked.seen) (sym w.walks.ends_at) (all_passed cursor walked.seen (sorted_turn log name rows cursor n walked w))

-- a row among those of the turn, by its LSN
record IsAmong (log : List Rec) (name : List ℕ) (cursor : Option (List Value)) (next : List Value → Bool) (lsn : ℕ) : Type 0 where
  seen : Seen
  number : seen.lsn ≡ lsn
  stored : state_at log name seen.key ≡ Some (seen.row, seen.lsn)
  ahead : is_after cursor seen.key ≡ true
  behind : next seen.key ≡ true

among : (log : List Rec) (name : List ℕ) (cursor : Option (List Value)) (next : List Value → Bool) (rows : List Seen) (lsn : ℕ) → AreStored log name rows → AllAfter cursor (row_keys rows) → AllByRecursion (λ (s : Seen). next s.key ≡ true) rows
    → has_lsn (lsns_of rows) lsn ≡ true → IsAmong log name cursor next lsn
among log name cursor next [] lsn stored after passed_all has = absurd (cc)
among log name cursor next (s ∷ rows) lsn stored after passed_all has = by_cases (nat_eq lsn s.lsn)
    (λ same. record { seen = s; number = sym (eqb-true lsn s.lsn same); stored = stored.0; ahead = after.0; behind = passed_all.0 })
    (λ other. among log name cursor next rows lsn stored.1 after.1 passed_all.1 (rw other at has))

-- how far a turn goes, as a test of keys
record GoesTo (rows : List Seen) (cursor : Option (List Value)) (walked : Walked) (next : List Value → Bool) : Type 0 where
  passed_all : AllByRecursion (λ (s : Seen). next s.key ≡ true) walked.seen
  none : (key : List Value) → next key ≡ true → row_at (rows_after walked.next rows) key ≡ None
  more : (key : List Value) → is_behind cursor key ≡ true → next key ≡ true

is_turn : (log : List Rec) (name : List ℕ) (rows : List Seen) (cursor : Option (List Value)) (n : ℕ) (walked : Walked) (next : List Value → Bool) → IsWalk log name rows cursor n walked → GoesTo rows cursor walked next
    → IsTurn log name (lsns_of walked.seen) (is_behind cursor) next
is_turn log name rows cursor n walked next w to = record {
  rows = rows_now log name walked.seen (stored_turn log name rows cursor n walked w);
  ahead = λ lsn key row has now.
      let s = among log name cursor next walked.seen lsn (stored_turn log name rows cursor n walked w) (ahead_turn log name rows cursor n walked w) to.passed_all has in
      let same = one_key log name key s.seen.key row s.seen.row lsn now (subst (λ k. state_at log name s.seen.key ≡ Some (s.seen.row, k)) s.number s.stored) in
      (ap (is_behind cursor) same ∙ ap not s.ahead, ap next same ∙ s.behind);
  all = λ lsn key row ahead behind now.
      let here = row_ahead cursor rows key (not_behind (is_after cursor key) ahead) ∙ w.meets key ∙ now in
      lsn_among walked.seen (rows_after walked.next rows) key row lsn (to.none key behind) (ap (λ l. row_at l key) (whole log name rows cursor n walked w) ∙ here);
  more = to.more;
}
  where
    not_behind : (b : Bool) → not b ≡ false → b ≡ true
    not_behind true e = refl
    not_behind false e = absurd (true≢false e)

-- up to where the next turn goes on
pub turn_to_next : (log : List Rec) (name : List ℕ) (rows : List Seen) (cursor : Option (List Value)) (n : ℕ) (walked : Walked) → IsWalk log name rows cursor n walked → IsTurn log name (lsns_of walked.seen) (is_behind cursor) (is_behind walked.next)
turn_to_next log name rows cursor n walked w = is_turn log name rows cursor n walked (is_behind walked.next) w (record {
  passed_all = passed_turn log name rows cursor n walked w;
  none = λ key behind. row_passed walked.next rows key (is_passed (is_after walked.next key) behind);
  more = still_behind cursor walked.next (subst (λ place. (other : List Value) → is_after place other ≡ true → is_after cursor other ≡ true) (sym w.walks.ends_at) (onward cursor cursor walked.seen (λ other e. e) (ahead_turn log name rows cursor n walked w)));
})
  where
    is_passed : (b : Bool) → not b ≡ true → b ≡ false
    is_passed true e = absurd (false≢true e)
    is_passed false e = refl

-- or to the end, where no row is ahead
pub turn_to_end : (log : List Rec) (name : List ℕ) (rows : List Seen) (cursor : Option (List Value)) (n : ℕ) (walked : Walked) → IsWalk log name rows cursor n walked → IsTrue walked.over → IsTurn log name (lsns_of walked.seen) (is_behind cursor) (λ key. true)
turn_to_end log name rows cursor n walked w over = is_turn log name rows cursor n walked (λ key. true) w (record {
  passed_all = each walked.seen;
  none = λ key behind. ap (λ l. row_at l key) (w.walks.is_over.0 over);
  more = λ key behind. refl;
})
  where
    each : (xs : List Seen) → AllByRecursion (λ (s : Seen). true ≡ true) xs
    each [] = tt
    each (x ∷ xs) = (refl, each xs)

-- ** what a turn must meet **

turn_distinct : (log : List Rec) (name : List ℕ) (rows : List Seen) (cursor : Option (List Value)) (n : ℕ) (walked : Walked) → IsWalk log name rows cursor n walked → IsDistinct nat_eq (lsns_of walked.seen)
turn_distinct log name rows cursor n walked w = lsns_distinct log name walked.seen (sorted_turn log name rows cursor n walked w) (stored_turn log name rows cursor n walked w)

turn_few : (log : List Rec) (name : List ℕ) (rows : List Seen) (cursor : Option (List Value)) (n : ℕ) (walked : Walked) → IsWalk log name rows cursor n walked → length (lsns_of walked.seen) ≤ n
turn_few log name rows cursor n walked w =
    let counted = ap (λ l. length (lsns_of l)) w.walks.hands_out ∙ length-map (take n (rows_after cursor rows)) (λ (s : Seen). s.lsn) ∙ length-take n (rows_after cursor rows) in
    omega arith

-- none of its rows was seen before
unseen_each : (log : List Rec) (mark : ℕ) (lsns name : List ℕ) (cursor : Option (List Value)) (rows : List Seen) → IsWalked log mark lsns name (is_behind cursor) → AreStored log name rows → AllAfter cursor (row_keys rows)
    → AllByRecursion (λ lsn. has_lsn lsns lsn ≡ false) (lsns_of rows)
unseen_each log mark lsns name cursor [] scan stored after = tt
unseen_each log mark lsns name cursor (s ∷ rows) scan stored after =
    (unseen_ahead log mark lsns name (is_behind cursor) s.key s.row s.lsn scan (ap not after.0) stored.0, unseen_each log mark lsns name cursor rows scan stored.1 after.1)

turn_unseen : (log : List Rec) (mark : ℕ) (lsns name : List ℕ) (rows : List Seen) (cursor : Option (List Value)) (n : ℕ) (walked : Walked) → IsWalked log mark lsns name (is_behind cursor) → IsWalk log name rows cursor n walked
    → IsTrue (not (list_any (has_lsn lsns) (lsns_of walked.seen)))
turn_unseen log mark lsns name rows cursor n walked scan w =
    none_passes (has_lsn lsns) (lsns_of walked.seen) (unseen_each log mark lsns name cursor walked.seen scan (stored_turn log name rows cursor n walked w) (ahead_turn log name rows cursor n walked w))

-- an empty or a filled list
nothing_ahead : {X : Type 0} {P : Type 0} (xs : List X) → (xs ≡ [] → P) → ((x : X) (rest : List X) → xs ≡ x ∷ rest → P) → P
nothing_ahead [] none some = none refl
nothing_ahead (x ∷ rest) none some = some x rest refl

-- a turn behind which rows stand is full
full_turn : (n : ℕ) (rows : List Seen) (s : Seen) (ahead : List Seen) → drop n rows ≡ s ∷ ahead → length (lsns_of (take n rows)) ≡ n
full_turn n rows s ahead is =
    let left : length rows - n ≡ suc (length ahead) = sym (length-drop n rows) ∙ ap length is in
    length-map (take n rows) (λ (t : Seen). t.lsn) ∙ length-take-le n rows (omega arith)

-- a turn that isn't the last doesn't end its side
not_ended : (log : List Rec) (mark : ℕ) (lsns name : List ℕ) (rows : List Seen) (cursor : Option (List Value)) (n : ℕ) (walked : Walked) → mark ≤ length log → IsWalked log mark lsns name (is_behind cursor) → IsWalk log name rows cursor n walked → walked.over ≡ false
    → EndsSide log n (lsns_of walked.seen) (lsns ++ lsns_of walked.seen) name → ⊥
not_ended log mark lsns name rows cursor n walked within scan w over ends =
    nothing_ahead (rows_after walked.next rows) (λ none. true≢false (sym (w.walks.is_over.1 none) ∙ over)) (λ s ahead is. by s ahead is ends)
  where
    after_all : (s : Seen) (ahead : List Seen) → rows_after walked.next rows ≡ s ∷ ahead → is_after walked.next s.key ≡ true
    after_all s ahead is = (subst (λ l. AllAfter walked.next (row_keys l)) is (AllAfter-rows_after walked.next rows)).0

    stored_ahead : (s : Seen) (ahead : List Seen) → rows_after walked.next rows ≡ s ∷ ahead → state_at log name s.key ≡ Some (s.row, s.lsn)
    stored_ahead s ahead is = (subst (AreStored log name) is (after_each (λ (t : Seen). state_at log name t.key ≡ Some (t.row, t.lsn)) walked.next rows (stored_rows log name rows cursor n walked w))).0

    by : (s : Seen) (ahead : List Seen) → rows_after walked.next rows ≡ s ∷ ahead → EndsSide log n (lsns_of walked.seen) (lsns ++ lsns_of walked.seen) name → ⊥
    by s ahead is (inl short) =
        let full : length (lsns_of walked.seen) ≡ n = ap (λ l. length (lsns_of l)) w.walks.hands_out ∙ full_turn n (rows_after cursor rows) s ahead (sym (rows_after-next rows cursor n walked w.sorted w.walks) ∙ is) in
        omega arith
    by s ahead is (inr saw) =
        let on = walked_turn log mark lsns (lsns_of walked.seen) name (is_behind cursor) (is_behind walked.next) within scan (turn_to_next log name rows cursor n walked w) in
        let missed = unseen_ahead log mark (lsns ++ lsns_of walked.seen) name (is_behind walked.next) s.key s.row s.lsn on (ap not (after_all s ahead is)) (stored_ahead s ahead is) in
        false≢true (sym missed ∙ saw s.key s.row s.lsn (stored_ahead s ahead is))

-- what a turn of a scan under way must meet, and how far the scan has come behind it
pub record TurnMeets (log : List Rec) (mark : ℕ) (lsns name : List ℕ) (n : ℕ) (walked : Walked) : Type 0 where
  pub few : length (lsns_of walked.seen) ≤ n
  pub distinct : IsDistinct nat_eq (lsns_of walked.seen)
  pub unseen : IsTrue (not (list_any (has_lsn lsns) (lsns_of walked.seen)))
  pub present : AllByRecursion (IsRowNow log name) (lsns_of walked.seen)
  pub ends : EndsSide log n (lsns_of walked.seen) (lsns ++ lsns_of walked.seen) name → IsTrue walked.over
  pub covered : IsTrue walked.over → Covers log mark (lsns ++ lsns_of walked.seen) name
  pub on : IsWalked log mark (lsns ++ lsns_of walked.seen) name (is_behind walked.next)
  pub stored : AreStored log name walked.seen

pub turn_meets : (log : List Rec) (mark : ℕ) (lsns name : List ℕ) (rows : List Seen) (cursor : Option (List Value)) (n : ℕ) (walked : Walked) → mark ≤ length log → IsWalked log mark lsns name (is_behind cursor) → IsWalk log name rows cursor n walked
    → TurnMeets log mark lsns name n walked
turn_meets log mark lsns name rows cursor n walked within scan w = record {
  few = turn_few log name rows cursor n walked w;
  distinct = turn_distinct log name rows cursor n walked w;
  unseen = turn_unseen log mark lsns name rows cursor n walked scan w;
  present = rows_now log name walked.seen (stored_turn log name rows cursor n walked w);
  ends = λ ends. by walked.over refl ends;
  covered = λ over key. (walked_turn log mark lsns (lsns_of walked.seen) name (is_behind cursor) (λ key. true) within scan (turn_to_end log name rows cursor n walked w over)).covered key refl;
  on = walked_turn log mark lsns (lsns_of walked.seen) name (is_behind cursor) (is_behind walked.next) within scan (turn_to_next log name rows cursor n walked w);
  stored = stored_turn log name rows cursor n walked w;
}
  where
    by : (b : Bool) → walked.over ≡ b → EndsSide log n (lsns_of walked.seen) (lsns ++ lsns_of walked.seen) name → IsTrue walked.over
    by true over ends = over
    by false over ends = absurd (not_ended log mark lsns name rows cursor n walked within scan w over ends)
