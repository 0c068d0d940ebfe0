-- A write changes one row of one table, in the tables as in the state that the log leaves.
use Rattle.std.proofs.Common.{◌≡◌, ◌+◌, ◌∷◌, ◌&&◌, [], ℕ, List, length, Option, Some, Bool, true, false, cond, refl, sym, ◌∙◌, ap, subst}
use Rattle.std.specs.List.{AllByRecursion, IsDistinct}
use Rattle.std.proofs.lemmas.Bool.{false≢true}
use Rattle.sx_values.specs.declared.value.Value.{Value}
use Rattle.sx_values.specs.declared.catalog.Declared.{Declared}
use Rattle.sx_values.specs.Names.{same_name}
use Rattle.sx_values.specs.Values.{values_eq}
use Rattle.sx_values.proofs.KeyLaws.{same_name_tells, same_name-refl}
use Rattle.sx_log.specs.declared.record.Rec.{Rec}
use Rattle.sx_log.specs.declared.record.Body.TheVariants.{Write}
use Rattle.sx_log.specs.State.{state_at, after_body, stored}
use Rattle.sx_heap.specs.declared.tables.NamedTable.{NamedTable}
use Rattle.sx_heap.specs.Relations.{Relation, row_at, SetsRow}
use Rattle.sx_heap.specs.NamedTables.{AreNamedApart, table_named, with_table, names_of_tables}
use Rattle.sx_txn.specs.Managed.{AreTables}
use Rattle.sx_core.specs.Kept.{shapes_of}

-- a record of a write
abbrev write : ℕ → List ℕ → List Value → Option (List Value) → Option (List Value) → Rec
write txn name key before after = record { txn = txn; body = Write name key before after }

-- what the log leaves behind a write: the image at its place, and what was there elsewhere
state-write : (log : List Rec) (txn : ℕ) (name : List ℕ) (key : List Value) (before after : Option (List Value)) (table : List ℕ) (q : List Value)
    → state_at (write txn name key before after ∷ log) table q ≡ cond (same_name name table && values_eq key q) (stored (length log + 1) after) (state_at log table q)
unfolding after_body
state-write log txn name key before after table q = refl

-- another table keeps its state
state-other : (log : List Rec) (txn : ℕ) (name : List ℕ) (key : List Value) (before after : Option (List Value)) (table : List ℕ) (q : List Value) → same_name name table ≡ false
    → state_at (write txn name key before after ∷ log) table q ≡ state_at log table q
state-other log txn name key before after table q other = state-write log txn name key before after table q ∙ rw other

-- the table itself has the image at the key
state-same : (log : List Rec) (txn : ℕ) (name : List ℕ) (key : List Value) (before after : Option (List Value)) (q : List Value)
    → state_at (write txn name key before after ∷ log) name q ≡ cond (values_eq key q) (stored (length log + 1) after) (state_at log name q)
state-same log txn name key before after q = state-write log txn name key before after name q ∙ rw (same_name-refl name)

-- the tables whose names differ from the written one meet the longer log
meet-others : (catalog : List Declared) (log : List Rec) (tables : List NamedTable) (txn : ℕ) (name : List ℕ) (key : List Value) (before after : Option (List Value))
    → AllByRecursion (λ other. same_name name other ≡ false) (names_of_tables tables) → AreTables log (shapes_of catalog) tables
    → AreTables (write txn name key before after ∷ log) (shapes_of catalog) tables
meet-others [] log [] txn name key before after others meets = tt
meet-others (d ∷ catalog) log (t ∷ tables) txn name key before after others meets = (
  record {
    name = meets.0.name;
    schema = meets.0.schema;
    rows = λ q. meets.0.rows q ∙ sym (state-other log txn name key before after d.name q (ap (same_name name) (sym meets.0.name) ∙ others.0));
  },
  meet-others catalog log tables txn name key before after others.1 meets.1,
)
meet-others [] log (t ∷ tables) txn name key before after others meets = meets
meet-others (d ∷ catalog) log [] txn name key before after others meets = meets

first_is : (here old : Relation) (b : Bool) (rest : Option Relation) → b ≡ true → cond b (Some here) rest ≡ Some old → here ≡ old
first_is here old true rest is found = cc
first_is here old false rest is found = absurd (false≢true is)

rest_is : (here old : Relation) (b : Bool) (rest : Option Relation) → b ≡ false → cond b (Some here) rest ≡ Some old → rest ≡ Some old
rest_is here old true rest is found = absurd (false≢true (sym is))
rest_is here old false rest is found = found

-- names that aren't one don't have the same bytes
not_same : (one other : List ℕ) → (one ≡ other → ⊥) → same_name one other ≡ false
not_same one other differ = by (same_name one other) refl
  where
    by : (b : Bool) → same_name one other ≡ b → b ≡ false
    by true is = absurd (differ (same_name_tells one other is))
    by false is = refl

-- the rows of the written table
written_rows : (log : List Rec) (txn : ℕ) (name : List ℕ) (key : List Value) (before after : Option (List Value)) (old new : Relation) (table : List ℕ) (q : List Value)
    → table ≡ name → SetsRow old new key (stored (length log + 1) after) → row_at old.rows q ≡ state_at log table q
    → row_at new.rows q ≡ state_at (write txn name key before after ∷ log) table q
written_rows log txn name key before after old new table q is sets was =
    let here = was ∙ ap (λ n. state_at log n q) is in
    sets.at_keys q ∙ ap (cond (values_eq key q) (stored (length log + 1) after)) here
    ∙ sym (ap (λ n. state_at (write txn name key before after ∷ log) n q) is ∙ state-same log txn name key before after q)

-- the written table, and the others
pub tables_meet-write : (catalog : List Declared) (log : List Rec) (tables : List NamedTable) (txn : ℕ) (name : List ℕ) (key : List Value) (before after : Option (List Value)) (old new : Relation)
    → AreNamedApart tables → table_named tables name ≡ Some old → SetsRow old new key (stored (length log + 1) after) → AreTables log (shapes_of catalog) tables
    → AreTables (write txn name key before after ∷ log) (shapes_of catalog) (with_table tables name new)
unfolding IsDistinct
tables_meet-write [] log [] txn name key before after old new apart found sets meets = tt
tables_meet-write (d ∷ catalog) log (t ∷ tables) txn name key before after old new apart found sets meets = by (same_name t.name name) refl (λ is. tables_meet-write catalog log tables txn name key before after old new apart.1 (rest_is t.table old (same_name t.name name) (table_named tables name) is found) sets meets.1)
  where
    by : (b : Bool) → same_name t.name name ≡ b → (same_name t.name name ≡ false → AreTables (write txn name key before after ∷ log) (shapes_of catalog) (with_table tables name new)) → AreTables (write txn name key before after ∷ log) (shapes_of (d ∷ catalog)) (with_table (t ∷ tables) name new)
    by true is again =
        let named = same_name_tells t.name name is in
        let declared : d.name ≡ name = sym meets.0.name ∙ named in
        let here : t.table ≡ old = first_is t.table old (same_name t.name name) (table_named tables name) is found in
        rw is (
          record {
            name = meets.0.name;
            schema = sets.same_schema ∙ sym (ap (λ (r : Relation). r.schema) here) ∙ meets.0.schema;
            rows = λ q. written_rows log txn name key before after old new d.name q declared sets (ap (λ (r : Relation). row_at r.rows q) (sym here) ∙ meets.0.rows q);
          },
          meet-others catalog log tables txn name key before after (subst (λ (n : List ℕ). AllByRecursion (λ other. same_name n other ≡ false) (names_of_tables tables)) named apart.0) meets.1,
        )
    by false is again =
        let declared : same_name name d.name ≡ false = not_same name d.name (λ same. absurd (false≢true (sym is ∙ ap (λ n. same_name n name) (meets.0.name ∙ sym same) ∙ same_name-refl name))) in
        rw is (
          record {
            name = meets.0.name;
            schema = meets.0.schema;
            rows = λ q. meets.0.rows q ∙ sym (state-other log txn name key before after d.name q declared);
          },
          again is,
        )
tables_meet-write [] log (t ∷ tables) txn name key before after old new apart found sets meets = absurd meets
tables_meet-write (d ∷ catalog) log [] txn name key before after old new apart found sets meets = meets
