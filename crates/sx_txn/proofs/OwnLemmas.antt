-- What a declared table has at a key is what the log leaves there.
use Rattle.std.proofs.Common.{◌≡◌, ◌≤◌, ◌∷◌, [], ℕ, zero, suc, List, length, map, Bool, true, false, cond, Option, Some, None, IsSome, option_map, arith, refl, sym, ◌∙◌, ap, subst}
use Rattle.std.proofs.lemmas.Bool.{false≢true}
use Rattle.sx_values.specs.declared.value.Value.{Value}
use Rattle.sx_values.specs.Layouts.{Layout}
use Rattle.sx_values.specs.Names.{same_name}
use Rattle.sx_values.proofs.KeyLaws.{same_name_tells}
use Rattle.sx_log.specs.declared.record.Rec.{Rec}
use Rattle.sx_log.specs.State.{Stored, state_at, row_left}
use Rattle.sx_heap.specs.declared.tables.NamedTable.{NamedTable}
use Rattle.sx_heap.specs.Relations.{Relation}
use Rattle.sx_heap.specs.NamedTables.{table_named}
use Rattle.sx_txn.specs.Managed.{Shape, Managed, OwnMeets, AreOwn, schema_in, shape_of, row_in, row_now}

first_row : (b : Bool) (t : NamedTable) (rest : Option Relation) (key : List Value) (row : Option (List Value)) → (b ≡ true → row_in key t.table ≡ row) → (b ≡ false → elim rest [ None ↦ None | Some table ↦ row_in key table ] ≡ row) → elim (cond b (Some t.table) rest) [ None ↦ None | Some table ↦ row_in key table ] ≡ row
first_row true t rest key row here there = here refl
first_row false t rest key row here there = there refl

known_rest : (b : Bool) (layout : Layout) (rest : Option Layout) → b ≡ false → IsSome (cond b (Some layout) rest) → IsSome rest
known_rest true layout rest e there = absurd (false≢true (sym e))
known_rest false layout rest e there = there

-- among tables that are all declared
all_own : (n : ℕ) (log : List Rec) (tables : List NamedTable) (name : List ℕ) (key : List Value) → length tables ≤ n → AreOwn n log (map shape_of tables) tables → IsSome (schema_in (map shape_of tables) name) → row_now tables name key ≡ row_left log name key
all_own n log [] name key few meet there = absurd (false≢true there)
all_own zero log (t ∷ tables) name key few meet there = absurd (omega (arith, few))
all_own (suc n) log (t ∷ tables) name key few meet there =
    first_row (same_name t.name name) t (table_named tables name) key (row_left log name key)
    (λ e. ap (option_map (λ (s : Stored). s.0)) (meet.0.rows key ∙ ap (λ m. state_at log m key) (same_name_tells t.name name e)))
    (λ e. all_own n log tables name key (omega (arith, few)) meet.1 (known_rest (same_name t.name name) t.table.schema (schema_in (map shape_of tables) name) e there))

-- a manager without new tables
pub own_row : (m : Managed) (name : List ℕ) (key : List Value) → OwnMeets m → length m.tables ≤ m.own → IsSome (schema_in m.shapes name) → row_now m.tables name key ≡ row_left m.log name key
own_row m name key meets few there =
    all_own m.own m.log m.tables name key few (subst (λ (shapes : List Shape). AreOwn m.own m.log shapes m.tables) meets.shapes meets.rows) (subst (λ (shapes : List Shape). IsSome (schema_in shapes name)) meets.shapes there)
