-- Tables that have the rows that a log leaves, as both change.
use Rattle.std.proofs.Common.{◌≡◌, ◌+◌, ◌≤◌, ◌++◌, ◌∷◌, [], ℕ, zero, suc, List, length, map, take, drop, arith, Option, Some, Bool, true, false, cond, refl, sym, ◌∙◌, ap, subst}
use Rattle.std.specs.Prelude.{option_map}
use Rattle.std.specs.List.{AllByRecursion, IsDistinct}
use Rattle.std.proofs.lemmas.Bool.{false≢true}
use Rattle.sx_values.specs.declared.value.Value.{Value}
use Rattle.sx_values.specs.Layouts.{Layout}
use Rattle.sx_values.specs.Names.{same_name}
use Rattle.sx_values.specs.Values.{values_eq}
use Rattle.sx_values.proofs.KeyLaws.{same_name_tells, same_name-refl}
use Rattle.sx_log.specs.declared.record.Rec.{Rec}
use Rattle.sx_log.specs.declared.record.Body.TheVariants.{Write, Undo}
use Rattle.sx_log.specs.State.{state_at, after_body, stored, is_place}
use Rattle.sx_heap.specs.declared.tables.NamedTable.{NamedTable}
use Rattle.sx_heap.specs.Relations.{Relation, row_at, SetsRow}
use Rattle.sx_heap.specs.NamedTables.{AreNamedApart, table_named, with_table, names_of_tables}
use Rattle.sx_txn.specs.Managed.{Shape, AreTables, AreOwn, schema_in, shape_of}

-- a record puts this image at a key, and leaves every other key
abbrev pub PutsImage : Rec → List Rec → List ℕ → List Value → Option (List Value) → Type 0
PutsImage r log name key image = (table : List ℕ) (q : List Value) → state_at (r ∷ log) table q ≡ cond (is_place name key table q) (stored (length log + 1) image) (state_at log table q)

pub puts-write : (log : List Rec) (txn : ℕ) (name : List ℕ) (key : List Value) (before after : Option (List Value)) → PutsImage (record { txn = txn; body = Write name key before after }) log name key after
unfolding after_body
puts-write log txn name key before after table q = refl

pub puts-undo : (log : List Rec) (txn lsn : ℕ) (name : List ℕ) (key : List Value) (before after : Option (List Value)) → PutsImage (record { txn = txn; body = Undo lsn name key before after }) log name key after
unfolding after_body
puts-undo log txn lsn name key before after table q = refl

-- a log that leaves the same
abbrev pub LeavesSame : List Rec → List Rec → Type 0
LeavesSame log longer = (table : List ℕ) (q : List Value) → state_at longer table q ≡ state_at log table q

pub tables-same : (n : ℕ) (log longer : List Rec) (shapes : List Shape) (tables : List NamedTable) → LeavesSame log longer → AreOwn n log shapes tables → AreOwn n longer shapes tables
tables-same zero log longer shapes tables same meet = tt
tables-same (suc n) log longer [] [] same meet = tt
tables-same (suc n) log longer (s ∷ shapes) (t ∷ tables) same meet =
    (record { name = meet.0.name; schema = meet.0.schema; rows = λ q. meet.0.rows q ∙ sym (same s.name q) }, tables-same n log longer shapes tables same meet.1)
tables-same (suc n) log longer [] (t ∷ tables) same meet = absurd meet
tables-same (suc n) log longer (s ∷ shapes) [] same meet = absurd meet

first_is : (here old : Relation) (b : Bool) (rest : Option Relation) → b ≡ true → cond b (Some here) rest ≡ Some old → here ≡ old
first_is here old true rest is found = cc
first_is here old false rest is found = absurd (false≢true is)

rest_is : (here old : Relation) (b : Bool) (rest : Option Relation) → b ≡ false → cond b (Some here) rest ≡ Some old → rest ≡ Some old
rest_is here old true rest is found = absurd (false≢true (sym is))
rest_is here old false rest is found = found

-- the schema of a name is that of its table
pub schema-named : (tables : List NamedTable) (name : List ℕ) → schema_in (map shape_of tables) name ≡ option_map (λ (t : Relation). t.schema) (table_named tables name)
schema-named [] name = refl
schema-named (t ∷ tables) name = by (same_name t.name name) (schema-named tables name)
  where
    by : (b : Bool) → schema_in (map shape_of tables) name ≡ option_map (λ (u : Relation). u.schema) (table_named tables name)
        → cond b (Some t.table.schema) (schema_in (map shape_of tables) name) ≡ option_map (λ (u : Relation). u.schema) (cond b (Some t.table) (table_named tables name))
    by true rest = refl
    by false rest = rest

-- another table under a name, with the same schema, leaves the schemas
pub shapes-with : (tables : List NamedTable) (name : List ℕ) (old new : Relation) → table_named tables name ≡ Some old → new.schema ≡ old.schema → map shape_of (with_table tables name new) ≡ map shape_of tables
shapes-with [] name old new found same = refl
shapes-with (t ∷ tables) name old new found same = by (same_name t.name name) found (λ rest. shapes-with tables name old new rest same)
  where
    by : (b : Bool) → cond b (Some t.table) (table_named tables name) ≡ Some old → (table_named tables name ≡ Some old → map shape_of (with_table tables name new) ≡ map shape_of tables)
        → map shape_of (cond b (record { name = t.name; table = new } ∷ tables) (t ∷ with_table tables name new)) ≡ map shape_of (t ∷ tables)
    by true here again =
        let one : t.table ≡ old = cc in
        let schema : new.schema ≡ t.table.schema = same ∙ sym (ap (λ (r : Relation). r.schema) one) in
        ap (λ (l : Layout). record { name = t.name; schema = l } ∷ map shape_of tables) schema
    by false here again = ap (λ rest. shape_of t ∷ rest) (again here)

-- names that aren't one don't have the same bytes
not_same : (one other : List ℕ) → (one ≡ other → ⊥) → same_name one other ≡ false
not_same one other differ = by (same_name one other) refl
  where
    by : (b : Bool) → same_name one other ≡ b → b ≡ false
    by true is = absurd (differ (same_name_tells one other is))
    by false is = refl

-- a table of another name keeps its rows
state-other : (r : Rec) (log : List Rec) (name : List ℕ) (key : List Value) (image : Option (List Value)) (table : List ℕ) (q : List Value) → PutsImage r log name key image → same_name name table ≡ false
    → state_at (r ∷ log) table q ≡ state_at log table q
state-other r log name key image table q puts other = puts table q ∙ rw other refl

-- the table itself has the image at the key
state-here : (r : Rec) (log : List Rec) (name : List ℕ) (key : List Value) (image : Option (List Value)) (q : List Value) → PutsImage r log name key image
    → state_at (r ∷ log) name q ≡ cond (values_eq key q) (stored (length log + 1) image) (state_at log name q)
state-here r log name key image q puts = puts name q ∙ rw (same_name-refl name) refl

-- the tables of other names
meet-others : (n : ℕ) (r : Rec) (log : List Rec) (shapes : List Shape) (tables : List NamedTable) (name : List ℕ) (key : List Value) (image : Option (List Value))
    → AllByRecursion (λ other. same_name name other ≡ false) (names_of_tables tables) → PutsImage r log name key image → AreOwn n log shapes tables → AreOwn n (r ∷ log) shapes tables
meet-others zero r log shapes tables name key image others puts meet = tt
meet-others (suc n) r log [] [] name key image others puts meet = tt
meet-others (suc n) r log (s ∷ shapes) (t ∷ tables) name key image others puts meet = (
  record {
    name = meet.0.name;
    schema = meet.0.schema;
    rows = λ q. meet.0.rows q ∙ sym (state-other r log name key image s.name q puts (ap (same_name name) (sym meet.0.name) ∙ others.0));
  },
  meet-others n r log shapes tables name key image others.1 puts meet.1,
)
meet-others (suc n) r log [] (t ∷ tables) name key image others puts meet = absurd meet
meet-others (suc n) r log (s ∷ shapes) [] name key image others puts meet = absurd meet

-- the rows of the table that changed
rows-put : (r : Rec) (log : List Rec) (name : List ℕ) (key : List Value) (image : Option (List Value)) (old new : Relation) (table : List ℕ) (q : List Value)
    → PutsImage r log name key image → table ≡ name → SetsRow old new key (stored (length log + 1) image) → row_at old.rows q ≡ state_at log table q → row_at new.rows q ≡ state_at (r ∷ log) table q
rows-put r log name key image old new table q puts is sets was =
    let here = was ∙ ap (λ n. state_at log n q) is in
    sets.at_keys q ∙ ap (cond (values_eq key q) (stored (length log + 1) image)) here
    ∙ sym (ap (λ n. state_at (r ∷ log) n q) is ∙ state-here r log name key image q puts)

-- a record and a table that have one image more
tables-put-at : (n : ℕ) (r : Rec) (log : List Rec) (shapes : List Shape) (tables : List NamedTable) (name : List ℕ) (key : List Value) (image : Option (List Value)) (old new : Relation)
    → AreNamedApart tables → table_named tables name ≡ Some old → SetsRow old new key (stored (length log + 1) image) → PutsImage r log name key image → AreOwn n log shapes tables
    → AreOwn n (r ∷ log) shapes (with_table tables name new)
unfolding IsDistinct
tables-put-at zero r log shapes tables name key image old new apart found sets puts meet = tt
tables-put-at (suc n) r log [] [] name key image old new apart found sets puts meet = tt
tables-put-at (suc n) r log (s ∷ shapes) (t ∷ tables) name key image old new apart found sets puts meet = by (same_name t.name name) refl (λ is. tables-put-at n r log shapes tables name key image old new apart.1 (rest_is t.table old (same_name t.name name) (table_named tables name) is found) sets puts meet.1)
  where
    by : (b : Bool) → same_name t.name name ≡ b → (same_name t.name name ≡ false → AreOwn n (r ∷ log) shapes (with_table tables name new)) → AreOwn (suc n) (r ∷ log) (s ∷ shapes) (with_table (t ∷ tables) name new)
    by true is again =
        let named = same_name_tells t.name name is in
        let shaped : s.name ≡ name = sym meet.0.name ∙ named in
        let here : t.table ≡ old = first_is t.table old (same_name t.name name) (table_named tables name) is found in
        rw is (
          record {
            name = meet.0.name;
            schema = sets.same_schema ∙ sym (ap (λ (u : Relation). u.schema) here) ∙ meet.0.schema;
            rows = λ q. rows-put r log name key image old new s.name q puts shaped sets (ap (λ (u : Relation). row_at u.rows q) (sym here) ∙ meet.0.rows q);
          },
          meet-others n r log shapes tables name key image (subst (λ (m : List ℕ). AllByRecursion (λ other. same_name m other ≡ false) (names_of_tables tables)) named apart.0) puts meet.1,
        )
    by false is again =
        let other : same_name name s.name ≡ false = not_same name s.name (λ same. absurd (false≢true (sym is ∙ ap (λ m. same_name m name) (meet.0.name ∙ sym same) ∙ same_name-refl name))) in
        rw is (
          record {
            name = meet.0.name;
            schema = meet.0.schema;
            rows = λ q. meet.0.rows q ∙ sym (state-other r log name key image s.name q puts other);
          },
          again is,
        )
tables-put-at (suc n) r log [] (t ∷ tables) name key image old new apart found sets puts meet = absurd meet
tables-put-at (suc n) r log (s ∷ shapes) [] name key image old new apart found sets puts meet = absurd meet

pub tables-put : (n : ℕ) (r : Rec) (log : List Rec) (tables : List NamedTable) (name : List ℕ) (key : List Value) (image : Option (List Value)) (old new : Relation)
    → AreNamedApart tables → table_named tables name ≡ Some old → SetsRow old new key (stored (length log + 1) image) → PutsImage r log name key image → AreOwn n log (map shape_of tables) tables
    → AreOwn n (r ∷ log) (map shape_of (with_table tables name new)) (with_table tables name new)
tables-put n r log tables name key image old new apart found sets puts meet =
    subst (λ (shapes : List Shape). AreOwn n (r ∷ log) shapes (with_table tables name new)) (sym (shapes-with tables name old new found sets.same_schema))
    (tables-put-at n r log (map shape_of tables) tables name key image old new apart found sets puts meet)

-- the declared tables alone
pub own_alone : (n : ℕ) (log : List Rec) (tables : List NamedTable) → AreOwn n log (map shape_of tables) tables → AreTables log (map shape_of (take n tables)) (take n tables)
own_alone zero log [] meet = tt
own_alone zero log (t ∷ tables) meet = tt
own_alone (suc n) log [] meet = tt
own_alone (suc n) log (t ∷ tables) meet = (meet.0, own_alone n log tables meet.1)

-- and with other tables behind them
pub own_before : (n : ℕ) (log : List Rec) (tables fresh : List NamedTable) → n ≤ length tables → AreOwn n log (map shape_of tables) tables → AreOwn n log (map shape_of (take n tables ++ fresh)) (take n tables ++ fresh)
own_before zero log tables fresh few meet = tt
own_before (suc n) log [] fresh few meet = absurd (omega (arith, few))
own_before (suc n) log (t ∷ tables) fresh few meet = (meet.0, own_before n log tables fresh (omega (arith, few)) meet.1)

-- all of the tables are declared ones
pub own_all : (log : List Rec) (tables : List NamedTable) → AreTables log (map shape_of tables) tables → AreOwn (length tables) log (map shape_of tables) tables
own_all log [] meet = tt
own_all log (t ∷ tables) meet = (meet.0, own_all log tables meet.1)

pub shapes_taken : (n : ℕ) (tables : List NamedTable) → map shape_of (take n tables) ≡ take n (map shape_of tables)
shapes_taken zero [] = refl
shapes_taken zero (t ∷ tables) = refl
shapes_taken (suc n) [] = refl
shapes_taken (suc n) (t ∷ tables) = ap (λ rest. shape_of t ∷ rest) (shapes_taken n tables)

pub shapes_dropped : (n : ℕ) (tables : List NamedTable) → map shape_of (drop n tables) ≡ drop n (map shape_of tables)
shapes_dropped zero [] = refl
shapes_dropped zero (t ∷ tables) = refl
shapes_dropped (suc n) [] = refl
shapes_dropped (suc n) (t ∷ tables) = shapes_dropped n tables
