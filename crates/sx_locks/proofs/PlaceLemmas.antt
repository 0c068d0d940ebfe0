-- The places of locks, as locks are set and freed.
use Rattle.std.proofs.Common.{◌≡◌, ◌↔◌, ◌&&◌, ◌||◌, ◌∷◌, ◌++◌, [], ℕ, List, Bool, true, false, IsTrue, Option, Some, None, is_some, refl, sym, ap, ◌∙◌, cond, true≢false, unwrap_or}
use Rattle.std.specs.Bool.{◌==◌}
use Rattle.std.specs.Cmp.{Equal-is}
use Rattle.std.proofs.lemmas.Bool.{eqb-true, and_parts, or_right}
use Rattle.sx_values.specs.declared.value.Value.{Value}
use Rattle.sx_values.specs.Values.{values_eq, values_cmp}
use Rattle.sx_values.specs.Names.{same_name}
use Rattle.sx_values.proofs.KeyLaws.{values_tie, values_cmp-refl, same_name_tells}
use Rattle.std.specs.Ordering.{is_eq, nat_cmp}
use Rattle.std.specs.Map.{lookup}
use Rattle.std.specs.BTreeMap.{is_at}
use Rattle.sx_locks.proofs.HolderLemmas.{lookup_number, lookup_number-update}
use Rattle.sx_locks.proofs.LockLemmas.{unwrap_or-cond}
use Rattle.sx_locks.specs.declared.mode.Mode.{Mode}
use Rattle.sx_locks.specs.declared.places.Place.{Place}
use Rattle.sx_locks.specs.Locks.{Locks, mode_held, SetsLock, SameLocks, HoldsOn}
use Rattle.sx_locks.specs.Places.{places_of, is_place, has_place, has_table, AddsPlace, AreListed}

-- a map of places that has something else at one transaction
pub places_of-update : (old new : List (ℕ × List Place)) (txn : ℕ) (image : Option (List Place)) → ((q : ℕ) → lookup (is_at (nat_cmp q)) new ≡ cond (is_at (nat_cmp txn) q) image (lookup (is_at (nat_cmp q)) old)) → (other : ℕ) → places_of new other ≡ cond (txn == other) (unwrap_or image []) (places_of old other)
places_of-update old new txn image h other =
    ap (λ o. unwrap_or o []) (lookup_number-update old new txn image h other) ∙ unwrap_or-cond (txn == other) image (lookup (λ n. other == n) old) []

-- with one place more
pub adds_place : (old new : List (ℕ × List Place)) (txn : ℕ) (was : Option (List Place)) (now : List Place) (p : Place) → was ≡ lookup (is_at (nat_cmp txn)) old → now ≡ unwrap_or was [] ++ p ∷ [] → ((q : ℕ) → lookup (is_at (nat_cmp q)) new ≡ cond (is_at (nat_cmp txn) q) (Some now) (lookup (is_at (nat_cmp q)) old)) → AddsPlace old new txn p
adds_place old new txn was now p found push h other =
    let there : now ≡ places_of old txn ++ p ∷ [] = push ∙ ap (λ o. unwrap_or o [] ++ p ∷ []) (found ∙ lookup_number old txn) in
    places_of-update old new txn (Some now) h other ∙ ap (λ ps. cond (txn == other) ps (places_of old other)) there

-- whether two locks are one
abbrev pub is_lock : ℕ → List ℕ → List Value → ℕ → List ℕ → List Value → Bool
is_lock txn table key other name place = txn == other && (same_name table name && values_eq key place)

same_lock : (locks : Locks) (txn other : ℕ) (table name : List ℕ) (key place : List Value) → is_lock txn table key other name place ≡ true → mode_held locks other name place ≡ mode_held locks txn table key
same_lock locks txn other table name key place h =
    let parts = and_parts (txn == other) (same_name table name && values_eq key place) h in
    let rest = and_parts (same_name table name) (values_eq key place) parts.1 in
    let one : txn ≡ other = eqb-true txn other parts.0 in
    let two : table ≡ name = same_name_tells table name rest.0 in
    let three : key ≡ place = values_tie key place ((Equal-is (values_cmp key place)).0 rest.1) in
    rw (one, two, three) refl

-- a lock that is raised stays listed
pub listed_raised : (listed : List (ℕ × List Place)) (old new : Locks) (txn : ℕ) (table : List ℕ) (key : List Value) (mode : Mode) → AreListed listed old → is_some (mode_held old txn table key) ≡ true → SetsLock old new txn table key (Some mode) → AreListed listed new
listed_raised listed old new txn table key mode tied there sets other name place =
    tied other name place ∙ by (is_lock txn table key other name place) refl ∙ sym (ap is_some (sets other name place))
  where
    by : (b : Bool) → is_lock txn table key other name place ≡ b → is_some (mode_held old other name place) ≡ is_some (cond b (Some mode) (mode_held old other name place))
    by true k = ap is_some (same_lock old txn other table name key place k) ∙ there
    by false k = refl

-- where the same locks are held, the same places are listed
pub listed_same : (listed : List (ℕ × List Place)) (old new : Locks) → AreListed listed old → SameLocks old new → AreListed listed new
listed_same listed old new tied same other name place = tied other name place ∙ sym (ap is_some (same other name place))

absent_from : (held : Option Mode) → is_some held ≡ false → held ≡ None
absent_from None e = refl
absent_from (Some mode) e = absurd (true≢false e)

-- a lock that was not there and is taken out again
pub taken_back : (old mid new : Locks) (txn : ℕ) (table : List ℕ) (key : List Value) (mode : Mode) → is_some (mode_held old txn table key) ≡ false → SetsLock old mid txn table key (Some mode) → SetsLock mid new txn table key None → SameLocks old new
taken_back old mid new txn table key mode absent sets frees other name place =
    frees other name place ∙ ap (cond (is_lock txn table key other name place) None) (sets other name place) ∙ by (is_lock txn table key other name place) refl
  where
    by : (b : Bool) → is_lock txn table key other name place ≡ b → cond b None (cond b (Some mode) (mode_held old other name place)) ≡ mode_held old other name place
    by true k = sym (same_lock old txn other table name key place k ∙ absent_from (mode_held old txn table key) absent)
    by false k = refl

-- a place in a table has some key
key_in_table : (places : List Place) (table : List ℕ) → has_table places table ≡ true → (key : List Value) × (has_place places table key ≡ true)
key_in_table [] table h = absurd (true≢false (sym h))
key_in_table (p ∷ places) table h = by (same_name p.table table) refl h (key_in_table places table)
  where
    by : (b : Bool) → same_name p.table table ≡ b → (b || has_table places table) ≡ true → (has_table places table ≡ true → (key : List Value) × (has_place places table key ≡ true)) → (key : List Value) × (has_place (p ∷ places) table key ≡ true)
    by true k e rest = (p.key, rw (k, ap is_eq (values_cmp-refl p.key)) refl)
    by false k e rest = let found : (key : List Value) × (has_place places table key ≡ true) = rest e in (found.0, or_right (is_place table found.0 p) (has_place places table found.0) found.1)

table_of_key : (places : List Place) (table : List ℕ) (key : List Value) → has_place places table key ≡ true → has_table places table ≡ true
table_of_key [] table key h = absurd (true≢false (sym h))
table_of_key (p ∷ places) table key h = by (same_name p.table table) h (table_of_key places table key)
  where
    by : (b : Bool) → ((b && values_eq p.key key) || has_place places table key) ≡ true → (has_place places table key ≡ true → has_table places table ≡ true) → (b || has_table places table) ≡ true
    by true e rest = refl
    by false e rest = rest e

-- a transaction holds a key of a table exactly where one of its places is there
pub holds_on : (listed : List (ℕ × List Place)) (locks : Locks) (txn : ℕ) (table : List ℕ) → AreListed listed locks → IsTrue (has_table (places_of listed txn) table) ↔ HoldsOn locks txn table
holds_on listed locks txn table tied = (
  λ t. let found : (key : List Value) × (has_place (places_of listed txn) table key ≡ true) = key_in_table (places_of listed txn) table t in (found.0, sym (tied txn table found.0) ∙ found.1),
  λ held. table_of_key (places_of listed txn) table held.0 (tied txn table held.0 ∙ held.1),
)
