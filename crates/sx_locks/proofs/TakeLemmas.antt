-- What comes of asking among the holders of a key, seen at the keys of a table, and what of that, seen at the tables.
use Rattle.std.proofs.Common.{◌≡◌, ◌∷◌, [], ℕ, List, Option, Some, None, sym, ap, ◌∙◌, subst, cond, unwrap_or, true≢false}
use Rattle.std.specs.Map.{lookup}
use Rattle.std.specs.BTreeMap.{is_at}
use Rattle.std.specs.Ordering.{nat_cmp}
use Rattle.std.specs.Cmp.Lexicographic.{slice_cmp}
use Rattle.sx_values.specs.declared.value.Value.{Value}
use Rattle.sx_values.specs.Values.{values_cmp}
use Rattle.sx_locks.specs.declared.mode.Mode.{Mode}
use Rattle.sx_locks.specs.declared.mode.Taken.{Taken}
use Rattle.sx_locks.specs.declared.mode.Taken.TheVariants.{Hindered, Locked}
use Rattle.sx_locks.specs.Modes.{mode_of, IsLeastOf}
use Rattle.sx_locks.specs.Locks.{KeyHolders, Locks, mode_at, keys_at}
use Rattle.sx_locks.specs.Taking.{TakesAmong, TakesAt, Takes}
use Rattle.sx_locks.proofs.HolderLemmas.{least_of_none}
use Rattle.sx_locks.proofs.LockLemmas.{SetsMode, sets_one, held_by, held_in, keys_found, raises_key, raises_table}

-- a map of holders with these at one key
abbrev pub PutsHolders : KeyHolders → KeyHolders → List Value → List (ℕ × Mode) → Type 0
PutsHolders old new key now = (q : List Value) → lookup (is_at (values_cmp q)) new ≡ cond (is_at (values_cmp key) q) (Some now) (lookup (is_at (values_cmp q)) old)

-- a map of tables with these keys at one name
abbrev pub PutsKeys : Locks → Locks → List ℕ → KeyHolders → Type 0
PutsKeys old new table now = (q : List ℕ) → lookup (is_at (slice_cmp nat_cmp q)) new ≡ cond (is_at (slice_cmp nat_cmp table) q) (Some now) (lookup (is_at (slice_cmp nat_cmp q)) old)

-- what hinders among the holders of a key hinders at the key
least_at : (keys : KeyHolders) (txn : ℕ) (key : List Value) (mode : Mode) (found : Option (List (ℕ × Mode))) (answer : Option ℕ) → found ≡ lookup (is_at (values_cmp key)) keys → IsLeastOf (mode_of (unwrap_or found [])) txn mode answer → IsLeastOf (λ other. mode_at keys other key) txn mode answer
least_at keys txn key mode found answer e least = subst (λ holders. IsLeastOf (mode_of holders) txn mode answer) (ap (λ o. unwrap_or o []) e) least

-- a key that has holders
pub takes_key : (old new : KeyHolders) (txn : ℕ) (key : List Value) (mode : Mode) (was now : List (ℕ × Mode)) → Some was ≡ lookup (is_at (values_cmp key)) old → PutsHolders old new key now → (now ≡ was → new ≡ old) → (taken : Taken) → TakesAmong was now txn mode taken → TakesAt old new txn key mode taken
takes_key old new txn key mode was now found puts same (Hindered by) takes = (least_at old txn key mode (Some was) (Some by) found takes.0, same takes.1)
takes_key old new txn key mode was now found puts same (Locked held) takes = (least_at old txn key mode (Some was) None found takes.0, takes.1 ∙ held_by old txn key (Some was) found, raises_key old new txn key mode (Some was) now found puts takes.2)

-- a key that has none
pub takes_new : (old new : KeyHolders) (txn : ℕ) (key : List Value) (mode : Mode) (now : List (ℕ × Mode)) → None ≡ lookup (is_at (values_cmp key)) old → PutsHolders old new key now → now ≡ (txn, mode) ∷ [] → TakesAt old new txn key mode (Locked None)
takes_new old new txn key mode now found puts one =
    let sets = subst (λ holders. SetsMode [] holders txn (Some mode)) (sym one) (sets_one txn mode) in
    (least_at old txn key mode None None found (least_of_none txn mode), held_by old txn key None found, raises_key old new txn key mode None now found puts sets)

-- what hinders at a key of a table that is found hinders at the key of that table
least_in : (locks : Locks) (txn : ℕ) (table : List ℕ) (key : List Value) (mode : Mode) (found : Option KeyHolders) (answer : Option ℕ) → found ≡ lookup (is_at (slice_cmp nat_cmp table)) locks → IsLeastOf (λ other. mode_at (unwrap_or found []) other key) txn mode answer → IsLeastOf (λ other. mode_at (keys_at locks table) other key) txn mode answer
least_in locks txn table key mode found answer e least = subst (λ keys. IsLeastOf (λ other. mode_at keys other key) txn mode answer) (keys_found locks table found e) least

-- a table that has keys
pub takes_table : (old new : Locks) (txn : ℕ) (table : List ℕ) (key : List Value) (mode : Mode) (was now : KeyHolders) → Some was ≡ lookup (is_at (slice_cmp nat_cmp table)) old → PutsKeys old new table now → (now ≡ was → new ≡ old) → (taken : Taken) → TakesAt was now txn key mode taken → Takes old new txn table key mode taken
takes_table old new txn table key mode was now found puts same (Hindered by) takes = (least_in old txn table key mode (Some was) (Some by) found takes.0, same takes.1)
takes_table old new txn table key mode was now found puts same (Locked held) takes = (least_in old txn table key mode (Some was) None found takes.0, takes.1 ∙ held_in old txn table key (Some was) found, raises_table old new txn table key mode (Some was) now found puts takes.2)

-- a table that has none
pub takes_first : (old new : Locks) (txn : ℕ) (table : List ℕ) (key : List Value) (mode : Mode) (now : KeyHolders) → None ≡ lookup (is_at (slice_cmp nat_cmp table)) old → PutsKeys old new table now → (taken : Taken) → TakesAt [] now txn key mode taken → Takes old new txn table key mode taken
takes_first old new txn table key mode now found puts (Hindered by) takes = absurd (true≢false (sym takes.0.against ∙ least_of_none txn mode by))
takes_first old new txn table key mode now found puts (Locked held) takes = (least_in old txn table key mode None None found takes.0, takes.1 ∙ held_in old txn table key None found, raises_table old new txn table key mode None now found puts takes.2)
