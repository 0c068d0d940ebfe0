-- One lock that is set, among the keys of a table and among the tables.
use Rattle.std.proofs.Common.{◌≡◌, ◌&&◌, ◌∷◌, [], ℕ, List, Bool, true, false, Option, Some, None, refl, sym, ap, ◌∙◌, subst, cond, unwrap_or, is_some, true≢false, Less, Equal, Greater, arith}
use Rattle.std.specs.Bool.{◌==◌}
use Rattle.std.specs.Map.{lookup, keys_of}
use Rattle.std.specs.BTreeMap.{is_at, insert_entry}
use Rattle.std.specs.Ordering.{nat_cmp, is_eq, match_ordering}
use Rattle.std.specs.declared.cmp.Ordering.{Ordering}
use Rattle.std.specs.List.Sorted.{IsStrictlySortedBy}
use Rattle.std.specs.Cmp.{Equal-is, IsTotalOrder}
use Rattle.std.specs.Cmp.Lexicographic.{slice_cmp}
use Rattle.std.proofs.lemmas.Map.{lookup-none}
use Rattle.std.proofs.lemmas.Map.Keys.{sorted_tail}
use Rattle.std.proofs.lemmas.Map.Entries.{none_below_head}
use Rattle.std.proofs.lemmas.Map.Text.{is_eq-slice_cmp}
use Rattle.std.proofs.lemmas.Bool.{and_parts, eq-eqb, eqb-true}
use Rattle.sx_values.specs.declared.value.Value.{Value}
use Rattle.sx_values.specs.Values.{values_eq, values_cmp}
use Rattle.sx_values.specs.Names.{same_name}
use Rattle.sx_values.proofs.KeyLaws.{values_tie, same_name_tells}
use Rattle.sx_locks.specs.declared.mode.Mode.{Mode}
use Rattle.sx_locks.specs.Modes.{mode_of, stronger}
use Rattle.sx_locks.specs.Locks.{KeyHolders, Locks, holders_at, mode_at, keys_at, mode_held, SetsLockAt, SetsLock, LockedSo}

-- the holders of one transaction set
abbrev pub SetsMode : List (ℕ × Mode) → List (ℕ × Mode) → ℕ → Option Mode → Type 0
SetsMode old new txn image = (other : ℕ) → mode_of new other ≡ cond (txn == other) image (mode_of old other)

-- other holders of one key
abbrev pub SetsHolders : KeyHolders → KeyHolders → List Value → List (ℕ × Mode) → Type 0
SetsHolders old new key holders = (place : List Value) → holders_at new place ≡ cond (values_eq key place) holders (holders_at old place)

-- other keys of one table
abbrev pub SetsKeys : Locks → Locks → List ℕ → KeyHolders → Type 0
SetsKeys old new table keys = (name : List ℕ) → keys_at new name ≡ cond (same_name table name) keys (keys_at old name)

pub unwrap_or-cond : {X : Type 0} (b : Bool) (image other : Option X) (d : X) → unwrap_or (cond b image other) d ≡ cond b (unwrap_or image d) (unwrap_or other d)
unwrap_or-cond true image other d = refl
unwrap_or-cond false image other d = refl

-- what a look-up in order found, put in its place again, changes nothing
pub insert_entry-same : {K X : Type 0} {R : K → K → Ordering} → IsTotalOrder R → (es : List (K × X)) (k : K) (v : X) → IsStrictlySortedBy R (keys_of es) → lookup (is_at (R k)) es ≡ Some v → insert_entry R es k v ≡ es
insert_entry-same o [] k v sorted found = absurd (true≢false (sym (ap is_some found)))
insert_entry-same {X = X} {R = R} o (e ∷ es) k v sorted found = by (R k e.0) refl found (insert_entry-same o es k v (sorted_tail R e.0 (keys_of es) sorted))
  where
    by : (r : Ordering) → R k e.0 ≡ r → cond (is_eq r) (Some e.1) (lookup (is_at (R k)) es) ≡ Some v → (lookup (is_at (R k)) es ≡ Some v → insert_entry R es k v ≡ es) → match_ordering r ((k, v) ∷ e ∷ es) ((e.0, v) ∷ es) (e ∷ insert_entry R es k v) ≡ e ∷ es
    by Less p there later = absurd (true≢false (sym (ap is_some (sym (lookup-none (is_at (R k)) es (none_below_head o k e es sorted p).1) ∙ there))))
    by Equal p there later =
        let same : v ≡ e.1 = cc in
        ap (λ (x : X). (e.0, x) ∷ es) same
    by Greater p there later = ap (λ l. e ∷ l) (later there)

-- one holder where nobody was
pub sets_one : (txn : ℕ) (mode : Mode) → SetsMode [] ((txn, mode) ∷ []) txn (Some mode)
sets_one txn mode other = ap (λ b. cond b (Some mode) None) (swapped (other == txn) refl)
  where
    swapped : (b : Bool) → (other == txn) ≡ b → b ≡ (txn == other)
    swapped true k = sym (eq-eqb txn other (sym (eqb-true other txn k)))
    swapped false k = grind (arith, k)

-- a map of holders that has something else at one key
pub holders_at-update : (old new : KeyHolders) (key : List Value) (image : Option (List (ℕ × Mode))) → ((q : List Value) → lookup (is_at (values_cmp q)) new ≡ cond (is_at (values_cmp key) q) image (lookup (is_at (values_cmp q)) old)) → SetsHolders old new key (unwrap_or image [])
holders_at-update old new key image h place =
    ap (λ o. unwrap_or o []) (h place) ∙ unwrap_or-cond (values_eq key place) image (lookup (values_eq place) old) []

-- one lock more or less among the holders of one key
pub sets_lock_at : (old new : KeyHolders) (txn : ℕ) (key : List Value) (image : Option Mode) (holders : List (ℕ × Mode)) → SetsHolders old new key holders → SetsMode (holders_at old key) holders txn image → SetsLockAt old new txn key image
sets_lock_at old new txn key image holders there sets other place =
    ap (λ hs. mode_of hs other) (there place) ∙ by (txn == other) refl (values_eq key place) refl
  where
    was : Option Mode
    was = mode_of (holders_at old place) other

    moved : values_eq key place ≡ true → mode_of (holders_at old key) other ≡ was
    moved k = ap (λ q. mode_of (holders_at old q) other) (values_tie key place ((Equal-is (values_cmp key place)).0 k))

    by : (b : Bool) → (txn == other) ≡ b → (c : Bool) → values_eq key place ≡ c → mode_of (cond c holders (holders_at old place)) other ≡ cond (b && c) image was
    by true k false l = refl
    by false k false l = refl
    by true k true l = sets other ∙ rw k refl
    by false k true l = sets other ∙ rw k (moved l)

-- what a key has among the entries are its holders
pub sets_key : (old new : KeyHolders) (txn : ℕ) (key : List Value) (image : Option Mode) (was : Option (List (ℕ × Mode))) (now : List (ℕ × Mode)) → was ≡ lookup (is_at (values_cmp key)) old → ((q : List Value) → lookup (is_at (values_cmp q)) new ≡ cond (is_at (values_cmp key) q) (Some now) (lookup (is_at (values_cmp q)) old)) → SetsMode (unwrap_or was []) now txn image → SetsLockAt old new txn key image
sets_key old new txn key image was now found h sets =
    sets_lock_at old new txn key image now (holders_at-update old new key (Some now) h) (subst (λ o. SetsMode (unwrap_or o []) now txn image) found sets)

-- what a key has among the entries tells what a transaction holds there
pub held_by : (keys : KeyHolders) (txn : ℕ) (key : List Value) (found : Option (List (ℕ × Mode))) → found ≡ lookup (is_at (values_cmp key)) keys → mode_of (unwrap_or found []) txn ≡ mode_at keys txn key
held_by keys txn key found e = ap (λ o. mode_of (unwrap_or o []) txn) e

-- a lock that is raised among the holders of one key
pub raises_key : (old new : KeyHolders) (txn : ℕ) (key : List Value) (mode : Mode) (was : Option (List (ℕ × Mode))) (now : List (ℕ × Mode)) → was ≡ lookup (is_at (values_cmp key)) old → ((q : List Value) → lookup (is_at (values_cmp q)) new ≡ cond (is_at (values_cmp key) q) (Some now) (lookup (is_at (values_cmp q)) old)) → SetsMode (unwrap_or was []) now txn (Some (stronger (mode_of (unwrap_or was []) txn) mode)) → SetsLockAt old new txn key (Some (stronger (mode_at old txn key) mode))
raises_key old new txn key mode was now found h sets =
    sets_key old new txn key (Some (stronger (mode_at old txn key) mode)) was now found h (subst (λ held. SetsMode (unwrap_or was []) now txn (Some (stronger held mode))) (held_by old txn key was found) sets)

empty_same : (b : Bool) (held : Option Mode) → (b ≡ true → held ≡ None) → held ≡ cond b None held
empty_same true held h = h refl
empty_same false held h = refl

-- a key without holders has no lock to be freed
pub frees_absent : (keys : KeyHolders) (txn : ℕ) (key : List Value) → None ≡ lookup (is_at (values_cmp key)) keys → SetsLockAt keys keys txn key None
frees_absent keys txn key absent other place = empty_same (txn == other && values_eq key place) (mode_at keys other place) none
  where
    none : (txn == other && values_eq key place) ≡ true → mode_at keys other place ≡ None
    none k =
        let same : key ≡ place = values_tie key place ((Equal-is (values_cmp key place)).0 (and_parts (txn == other) (values_eq key place) k).1) in
        rw (← same) (ap (λ o. mode_of (unwrap_or o []) other) (sym absent))

-- a key without holders that is taken out takes no lock with it
pub bare_out : (old mid new : KeyHolders) (txn : ℕ) (key : List Value) → SetsLockAt old mid txn key None → holders_at mid key ≡ [] → ((q : List Value) → lookup (is_at (values_cmp q)) new ≡ cond (is_at (values_cmp key) q) None (lookup (is_at (values_cmp q)) mid)) → SetsLockAt old new txn key None
bare_out old mid new txn key frees bare h other place =
    ap (λ hs. mode_of hs other) (holders_at-update mid new key None h place ∙ by (values_eq key place) refl) ∙ frees other place
  where
    by : (b : Bool) → values_eq key place ≡ b → cond b [] (holders_at mid place) ≡ holders_at mid place
    by true k = sym bare ∙ ap (holders_at mid) (values_tie key place ((Equal-is (values_cmp key place)).0 k))
    by false k = refl

-- a look-up by a name finds what the test of that name finds
pub lookup_name : {X : Type 0} (es : List (List ℕ × X)) (name : List ℕ) → lookup (is_at (slice_cmp nat_cmp name)) es ≡ lookup (same_name name) es
lookup_name [] name = refl
lookup_name (e ∷ es) name = rw (is_eq-slice_cmp name e.0) (ap (cond (same_name name e.0) (Some e.1)) (lookup_name es name))

-- a map of tables that has something else at one name
pub keys_at-update : (old new : Locks) (table : List ℕ) (image : Option KeyHolders) → ((q : List ℕ) → lookup (is_at (slice_cmp nat_cmp q)) new ≡ cond (is_at (slice_cmp nat_cmp table) q) image (lookup (is_at (slice_cmp nat_cmp q)) old)) → SetsKeys old new table (unwrap_or image [])
keys_at-update old new table image h name =
    let here : lookup (is_at (slice_cmp nat_cmp name)) new ≡ cond (same_name table name) image (lookup (is_at (slice_cmp nat_cmp name)) old) = h name ∙ ap (λ b. cond b image (lookup (is_at (slice_cmp nat_cmp name)) old)) (is_eq-slice_cmp table name) in
    ap (λ o. unwrap_or o []) (sym (lookup_name new name) ∙ here ∙ ap (cond (same_name table name) image) (lookup_name old name))
    ∙ unwrap_or-cond (same_name table name) image (lookup (same_name name) old) []

-- one lock more or less among the keys of one table
pub sets_lock : (old new : Locks) (txn : ℕ) (table : List ℕ) (key : List Value) (image : Option Mode) (keys : KeyHolders) → SetsKeys old new table keys → SetsLockAt (keys_at old table) keys txn key image → SetsLock old new txn table key image
sets_lock old new txn table key image keys there sets other name place =
    ap (λ ks. mode_at ks other place) (there name) ∙ by (same_name table name) refl (txn == other) (values_eq key place) (sets other place)
  where
    was : Option Mode
    was = mode_at (keys_at old name) other place

    moved : same_name table name ≡ true → mode_at (keys_at old table) other place ≡ was
    moved k = ap (λ n. mode_at (keys_at old n) other place) (same_name_tells table name k)

    by : (b : Bool) → same_name table name ≡ b → (c d : Bool) → mode_at keys other place ≡ cond (c && d) image (mode_at (keys_at old table) other place) → mode_at (cond b keys (keys_at old name)) other place ≡ cond (c && (b && d)) image was
    by true k c d e = e ∙ ap (cond (c && d) image) (moved k)
    by false k true d e = refl
    by false k false d e = refl

-- what a name has among the entries are its keys
pub keys_found : (locks : Locks) (table : List ℕ) (found : Option KeyHolders) → found ≡ lookup (is_at (slice_cmp nat_cmp table)) locks → unwrap_or found [] ≡ keys_at locks table
keys_found locks table found e = ap (λ o. unwrap_or o []) (e ∙ lookup_name locks table)

pub sets_table : (old new : Locks) (txn : ℕ) (table : List ℕ) (key : List Value) (image : Option Mode) (was : Option KeyHolders) (now : KeyHolders) → was ≡ lookup (is_at (slice_cmp nat_cmp table)) old → ((q : List ℕ) → lookup (is_at (slice_cmp nat_cmp q)) new ≡ cond (is_at (slice_cmp nat_cmp table) q) (Some now) (lookup (is_at (slice_cmp nat_cmp q)) old)) → SetsLockAt (unwrap_or was []) now txn key image → SetsLock old new txn table key image
sets_table old new txn table key image was now found h sets =
    sets_lock old new txn table key image now (keys_at-update old new table (Some now) h) (subst (λ ks. SetsLockAt ks now txn key image) (keys_found old table was found) sets)

-- what a name has among the entries tells what a transaction holds at a key of it
pub held_in : (locks : Locks) (txn : ℕ) (table : List ℕ) (key : List Value) (found : Option KeyHolders) → found ≡ lookup (is_at (slice_cmp nat_cmp table)) locks → mode_at (unwrap_or found []) txn key ≡ mode_held locks txn table key
held_in locks txn table key found e = ap (λ ks. mode_at ks txn key) (keys_found locks table found e)

-- a lock that is raised among the keys of one table
pub raises_table : (old new : Locks) (txn : ℕ) (table : List ℕ) (key : List Value) (mode : Mode) (was : Option KeyHolders) (now : KeyHolders) → was ≡ lookup (is_at (slice_cmp nat_cmp table)) old → ((q : List ℕ) → lookup (is_at (slice_cmp nat_cmp q)) new ≡ cond (is_at (slice_cmp nat_cmp table) q) (Some now) (lookup (is_at (slice_cmp nat_cmp q)) old)) → SetsLockAt (unwrap_or was []) now txn key (Some (stronger (mode_at (unwrap_or was []) txn key) mode)) → LockedSo old new txn table key mode
raises_table old new txn table key mode was now found h sets =
    sets_table old new txn table key (Some (stronger (mode_held old txn table key) mode)) was now found h (subst (λ held. SetsLockAt (unwrap_or was []) now txn key (Some (stronger held mode))) (held_in old txn table key was found) sets)

-- a table without locks has none to be freed
pub frees_no_table : (locks : Locks) (txn : ℕ) (table : List ℕ) (key : List Value) → None ≡ lookup (is_at (slice_cmp nat_cmp table)) locks → SetsLock locks locks txn table key None
frees_no_table locks txn table key absent other name place = empty_same (txn == other && (same_name table name && values_eq key place)) (mode_held locks other name place) none
  where
    none : (txn == other && (same_name table name && values_eq key place)) ≡ true → mode_held locks other name place ≡ None
    none k =
        let same : table ≡ name = same_name_tells table name (and_parts (same_name table name) (values_eq key place) (and_parts (txn == other) (same_name table name && values_eq key place) k).1).0 in
        rw (← same) (ap (λ ks. mode_at ks other place) (sym (keys_found locks table None absent)))
