-- Where the locks of each transaction are.
use Rattle.std.specs.Prelude.{◌≡◌, ◌==◌, ◌&&◌, ◌++◌, ◌∷◌, Bool, ℕ, List, [], None, unwrap_or, is_some, if◌then◌else◌}
use Rattle.std.specs.Map.{lookup}
use Rattle.std.specs.List.{list_any}
use Rattle.sx_values.specs.declared.value.Value.{Value}
use Rattle.sx_values.specs.Values.{values_eq}
use Rattle.sx_values.specs.Names.{same_name}
use Rattle.sx_locks.specs.declared.places.Place.{Place}
use Rattle.sx_locks.specs.Locks.{Locks, mode_held}

-- the places that are listed for a transaction
abbrev pub places_of : List (ℕ × List Place) → ℕ → List Place
places_of listed txn = unwrap_or (lookup (λ other. txn == other) listed) []

-- whether a place is this key of this table
abbrev pub is_place : List ℕ → List Value → Place → Bool
is_place table key place = same_name place.table table && values_eq place.key key

-- whether a key of a table is among these places
abbrev pub has_place : List Place → List ℕ → List Value → Bool
has_place places table key = list_any (is_place table key) places

-- whether one of these places is in a table
abbrev pub has_table : List Place → List ℕ → Bool
has_table places table = list_any (λ (place : Place). same_name place.table table) places

-- the place is listed for the transaction behind those that were; all else stays
abbrev pub AddsPlace : List (ℕ × List Place) → List (ℕ × List Place) → ℕ → Place → Type 0
AddsPlace old new txn place = (other : ℕ) → places_of new other ≡ (if txn == other then places_of old txn ++ place ∷ [] else places_of old other)

-- the transaction holds nothing at these places now; all else stays
abbrev pub FreesEach : Locks → Locks → ℕ → List Place → Type 0
FreesEach old new txn places = (other : ℕ) (table : List ℕ) (key : List Value)
    → mode_held new other table key ≡ (if txn == other && has_place places table key then None else mode_held old other table key)

-- for each transaction exactly the places of its locks are listed
abbrev pub AreListed : List (ℕ × List Place) → Locks → Type 0
AreListed listed locks = (txn : ℕ) (table : List ℕ) (key : List Value) → has_place (places_of listed txn) table key ≡ is_some (mode_held locks txn table key)
