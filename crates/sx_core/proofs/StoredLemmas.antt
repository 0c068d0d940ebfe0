-- What a key has in the table of a name, when one row is set, and when tables stand behind others.
use Rattle.std.proofs.Common.{◌≡◌, ◌∷◌, ◌&&◌, [], List, ℕ, Bool, true, false, Option, Some, None, IsSomeAnd, option_map, refl, sym, ap, ◌∙◌, subst, if◌then◌else◌}
use Rattle.sx_values.specs.declared.value.Value.{Value}
use Rattle.sx_values.specs.Names.{same_name}
use Rattle.sx_values.specs.Values.{values_eq}
use Rattle.sx_values.proofs.KeyLaws.{same_name_tells}
use Rattle.sx_log.specs.State.{Stored, is_place}
use Rattle.sx_heap.specs.declared.tables.NamedTable.{NamedTable}
use Rattle.sx_heap.specs.Relations.{Relation, SetsRow, row_at}
use Rattle.sx_heap.specs.NamedTables.{SetsRowIn, table_named, with_table}
use Rattle.sx_txn.specs.Managed.{row_in, row_now as has_now}
use Rattle.sx_txn.specs.Turns.{SetsRowAt}
use Rattle.sx_model.proofs.TestLaws.{by_cases}
use Rattle.sx_core.specs.Kept.{stored_in}

-- a key of a table that may be there
abbrev pub row_of : Option Relation → List Value → Option Stored
row_of None key = None
row_of (Some table) key = row_at table.rows key

shown_row : (found : Option Relation) (key : List Value) → ◌≡◌ {A = Option Stored} (elim found [ None ↦ None | Some table ↦ row_at table.rows key ]) (row_of found key)
shown_row None key = refl
shown_row (Some table) key = refl

pub stored-is : (tables : List NamedTable) (name : List ℕ) (key : List Value) → stored_in tables name key ≡ row_of (table_named tables name) key
stored-is tables name key = shown_row (table_named tables name) key

-- the row without its LSN is the one that the manager finds
pub stored-row : (tables : List NamedTable) (name : List ℕ) (key : List Value) → has_now tables name key ≡ option_map (λ (s : Stored). s.0) (stored_in tables name key)
stored-row tables name key = by (table_named tables name)
  where
    by : (found : Option Relation) → ◌≡◌ {A = Option (List Value)} (elim found [ None ↦ None | Some table ↦ row_in key table ]) (option_map (λ (s : Stored). s.0) (elim found [ None ↦ None | Some table ↦ row_at table.rows key ]))
    by None = refl
    by (Some table) = refl

-- a name that isn't another's has another table
other_name : (one name other : List ℕ) → same_name one name ≡ false → same_name name other ≡ true → same_name one other ≡ false
other_name one name other apart same = subst (λ n. same_name one n ≡ false) (same_name_tells name other same) apart

-- the tables behind a change of one
named_with : (tables : List NamedTable) (name : List ℕ) (old after : Relation) (other : List ℕ) → table_named tables name ≡ Some old → table_named (with_table tables name after) other ≡ (if same_name name other then Some after else table_named tables other)
named_with [] name old after other found = absurd (cc)
named_with (t ∷ tables) name old after other found = by_cases (same_name t.name name) here (away (λ rest. named_with tables name old after other rest))
  where
    here : same_name t.name name ≡ true → table_named (with_table (t ∷ tables) name after) other ≡ (if same_name name other then Some after else table_named (t ∷ tables) other)
    here is =
        let one : same_name t.name other ≡ same_name name other = ap (λ n. same_name n other) (same_name_tells t.name name is) in
        rw (is, one) (same (same_name name other))
      where
        same : (b : Bool) → (if b then Some after else table_named tables other) ≡ (if b then Some after else if b then Some t.table else table_named tables other)
        same true = refl
        same false = refl

    away : (table_named tables name ≡ Some old → table_named (with_table tables name after) other ≡ (if same_name name other then Some after else table_named tables other)) → same_name t.name name ≡ false
        → table_named (with_table (t ∷ tables) name after) other ≡ (if same_name name other then Some after else table_named (t ∷ tables) other)
    away again is =
        let rest = again (rw is at found) in
        rw is (ap (λ r. if same_name t.name other then Some t.table else r) rest ∙ by (same_name name other) refl)
      where
        by : (b : Bool) → same_name name other ≡ b → (if same_name t.name other then Some t.table else if b then Some after else table_named tables other) ≡ (if b then Some after else if same_name t.name other then Some t.table else table_named tables other)
        by false e = refl
        by true e = rw (other_name t.name name other is e) refl

-- what a key has behind a change of one row
pub stored-set : (old new : List NamedTable) (name : List ℕ) (key : List Value) (image : Option Stored) (other : List ℕ) (at : List Value) → SetsRowAt old new name key image → stored_in new other at ≡ (if is_place name key other at then image else stored_in old other at)
stored-set old new name key image other at sets = by (table_named old name) refl sets
  where
    at_name : (before after : Relation) → table_named old name ≡ Some before → SetsRow before after key image → (b : Bool) → same_name name other ≡ b
        → row_of (if b then Some after else table_named old other) at ≡ (if b && values_eq key at then image else row_of (table_named old other) at)
    at_name before after found set true is = set.at_keys at ∙ ap (λ (r : Option Relation). if values_eq key at then image else row_of r at) (sym found ∙ ap (table_named old) (same_name_tells name other is))
    at_name before after found set false is = refl

    by : (found : Option Relation) → table_named old name ≡ found → IsSomeAnd found (λ before. SetsRowIn old new name before key image) → stored_in new other at ≡ (if is_place name key other at then image else stored_in old other at)
    by None is some = absurd some
    by (Some before) is some =
        stored-is new other at
        ∙ ap (λ tables. row_of (table_named tables other) at) some.others
        ∙ ap (λ found. row_of found at) (named_with old name before some.after other is)
        ∙ at_name before some.after is some.sets (same_name name other) refl
        ∙ ap (λ was. if is_place name key other at then image else was) (sym (stored-is old other at))
