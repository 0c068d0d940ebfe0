-- Tables and the changes of their rows.
use Rattle.std.proofs.Common.{◌≡◌, ◌∷◌, [], ℕ, List, Option, Some, None, IsSome, IsSomeAnd, is_some, Result, Ok, Err, OnErr, Bool, true, false, cond, refl, sym, ◌∙◌, ap, subst}
use Rattle.std.specs.Prelude.{option_map}
use Rattle.std.specs.List.{AllByRecursion}
use Rattle.std.proofs.lemmas.Bool.{false≢true}
use Rattle.std.proofs.lemmas.List.Elements.{recursion_from_All}
use Rattle.sx_values.specs.declared.value.Value.{Value}
use Rattle.sx_values.specs.Layouts.{Layout}
use Rattle.sx_values.specs.Names.{same_name}
use Rattle.sx_log.specs.State.{stored}
use Rattle.sx_heap.specs.declared.seen.Seen.{Seen}
use Rattle.sx_heap.specs.declared.tables.NamedTable.{NamedTable}
use Rattle.sx_heap.specs.Relations.{Relation, IsRelation, IsRowOf, row_at, same_key, SetsRow}
use Rattle.sx_heap.specs.NamedTables.{table_named, with_table, SetsRowIn, RemovesRowIn}
use Rattle.sx_heap.proofs.RowLemmas.{same_key_tells, same_key-refl}
use Rattle.sx_heap.proofs.NameLemmas.{with_table_same}
use Rattle.sx_txn.specs.declared.patch.Patch.{Patch}
use Rattle.sx_txn.specs.Managed.{SameTables}
use Rattle.sx_log.specs.Images.{FitsImage}
use Rattle.sx_txn.specs.Patches.{HasRow, TakesPatch, Patched}
use Rattle.sx_txn.proofs.EventLemmas.{tables_stay}

pub on_err : {T E : Type 0} (r : Result T E) (P : Type 0) → P → OnErr r P
on_err (Ok x) P holds = tt
on_err (Err e) P holds = holds

pub none_of : {X : Type 0} (o : Option X) → is_some o ≡ false → o ≡ None
none_of None e = refl
none_of (Some x) e = absurd (false≢true (sym e))

-- what a key has among rows that a schema admits fits the schema and has the key
fits_at : (layout : Layout) (rows : List Seen) (key row : List Value) (lsn : ℕ) → AllByRecursion (IsRowOf layout) rows → row_at rows key ≡ Some (row, lsn) → FitsImage layout key (Some row)
fits_at layout [] key row lsn each found = absurd (cc)
fits_at layout (s ∷ rows) key row lsn each found = by (same_key key s.key) refl found (λ rest. fits_at layout rows key row lsn each.1 rest)
  where
    by : (b : Bool) → same_key key s.key ≡ b → cond b (Some (s.row, s.lsn)) (row_at rows key) ≡ Some (row, lsn) → (row_at rows key ≡ Some (row, lsn) → FitsImage layout key (Some row)) → FitsImage layout key (Some row)
    by true is here again =
        let same : Some s.row ≡ Some row = ap (option_map (λ (p : List Value × ℕ). p.0)) here in
        let one : s.row ≡ row = cc in
        subst (λ (r : List Value). FitsImage layout key (Some r)) one (each.0.admitted, same_key_tells key s.key is ∙ each.0.keyed)
    by false is here again = again here

-- a row that a table has at a key
pub has_row : (table : Relation) (key row : List Value) (lsn : ℕ) → IsRelation table → row_at table.rows key ≡ Some (row, lsn) → HasRow key (Some row) table
has_row table key row lsn is found =
    record { was = ap (option_map (λ (p : List Value × ℕ). p.0)) found; fits = fits_at table.schema table.rows key row lsn (recursion_from_All (IsRowOf table.schema) table.rows is.each) found }

-- what holds of the table that is there
pub of_found : {X : Type 0} (P : X → Type 0) (o : Option X) (x : X) → Some x ≡ o → P x → IsSomeAnd o P
of_found P None x is holds = absurd (cc)
of_found P (Some y) x is holds = let same : x ≡ y = cc in subst P same holds

nothing_at : (o : Option (List Value × ℕ)) → option_map (λ (p : List Value × ℕ). p.0) o ≡ None → o ≡ None
nothing_at None e = refl
nothing_at (Some p) e = absurd (cc)

no_row : (table : Relation) (key : List Value) → row_at table.rows key ≡ None → SetsRow table table key None
no_row table key none = record { same_schema = refl; at_keys = λ other. by other (same_key key other) refl }
  where
    by : (other : List Value) (b : Bool) → same_key key other ≡ b → row_at table.rows other ≡ cond b None (row_at table.rows other)
    by other true is = ap (row_at table.rows) (sym (same_key_tells key other is)) ∙ none
    by other false is = refl

-- a change from no row to none changes nothing
pub patched-none : (tables : List NamedTable) (p : Patch) (lsn : ℕ) → p.before ≡ None → p.after ≡ None → IsSomeAnd (table_named tables p.table) (TakesPatch p) → Patched tables tables p lsn
patched-none tables p lsn before after takes = by (table_named tables p.table) refl takes
  where
    by : (o : Option Relation) → table_named tables p.table ≡ o → IsSomeAnd o (TakesPatch p) → IsSomeAnd o (λ (table : Relation). SetsRowIn tables tables p.table table p.key (stored lsn p.after))
    by None is there = there
    by (Some table) is there = record {
      after = table;
      sets = subst (λ (o : Option (List Value)). SetsRow table table p.key (stored lsn o)) (sym after) (no_row table p.key (nothing_at (row_at table.rows p.key) (there.was ∙ before)));
      others = sym (with_table_same tables p.table table is);
    }

-- a table that was put under a name is there
named_with : (tables : List NamedTable) (name : List ℕ) (old new : Relation) → table_named tables name ≡ Some old → table_named (with_table tables name new) name ≡ Some new
named_with [] name old new found = absurd (cc)
named_with (t ∷ tables) name old new found = by (same_name t.name name) refl found (λ rest. named_with tables name old new rest)
  where
    by : (b : Bool) → same_name t.name name ≡ b → cond b (Some t.table) (table_named tables name) ≡ Some old → (table_named tables name ≡ Some old → table_named (with_table tables name new) name ≡ Some new)
        → table_named (cond b (record { name = t.name; table = new } ∷ tables) (t ∷ with_table tables name new)) name ≡ Some new
    by true is here again = rw is refl
    by false is here again = rw is (again here)

-- the last table that was put under a name stands
with_with : (tables : List NamedTable) (name : List ℕ) (mid new : Relation) → with_table (with_table tables name mid) name new ≡ with_table tables name new
with_with [] name mid new = refl
with_with (t ∷ tables) name mid new = by (same_name t.name name) refl (with_with tables name mid new)
  where
    by : (b : Bool) → same_name t.name name ≡ b → with_table (with_table tables name mid) name new ≡ with_table tables name new
        → with_table (cond b (record { name = t.name; table = mid } ∷ tables) (t ∷ with_table tables name mid)) name new ≡ cond b (record { name = t.name; table = new } ∷ tables) (t ∷ with_table tables name new)
    by true is rest = rw is refl
    by false is rest = rw is (ap (λ others. t ∷ others) rest)

-- a table with the same rows under a name
same_tables-with : (tables : List NamedTable) (name : List ℕ) (old new : Relation) → table_named tables name ≡ Some old → new.schema ≡ old.schema → ((key : List Value) → row_at new.rows key ≡ row_at old.rows key)
    → SameTables tables (with_table tables name new)
same_tables-with [] name old new found schema rows = tt
same_tables-with (t ∷ tables) name old new found schema rows = by (same_name t.name name) found (λ rest. same_tables-with tables name old new rest schema rows)
  where
    by : (b : Bool) → cond b (Some t.table) (table_named tables name) ≡ Some old → (table_named tables name ≡ Some old → SameTables tables (with_table tables name new))
        → SameTables (t ∷ tables) (cond b (record { name = t.name; table = new } ∷ tables) (t ∷ with_table tables name new))
    by true here again =
        let one : t.table ≡ old = cc in
        let back = sym one in (
          record { name = refl; schema = schema ∙ ap (λ (r : Relation). r.schema) back; rows = λ key. rows key ∙ ap (λ (r : Relation). row_at r.rows key) back },
          tables_stay tables,
        )
    by false here again = (record { name = refl; schema = refl; rows = λ key. refl }, again here)

is_stored : (lsn : ℕ) (o : Option (List Value)) → IsSome o → IsSome (stored lsn o)
is_stored lsn None there = there
is_stored lsn (Some row) there = refl

-- a change that leaves a row has put it there
pub patched-there : (old mid : List NamedTable) (p : Patch) (lsn : ℕ) → Patched old mid p lsn → IsSome p.after → IsSomeAnd (table_named mid p.table) (λ (table : Relation). IsSome (row_at table.rows p.key))
patched-there old mid p lsn patched leaves = by (table_named old p.table) refl patched
  where
    by : (o : Option Relation) → table_named old p.table ≡ o → IsSomeAnd o (λ (table : Relation). SetsRowIn old mid p.table table p.key (stored lsn p.after)) → IsSomeAnd (table_named mid p.table) (λ (table : Relation). IsSome (row_at table.rows p.key))
    by None is there = absurd there
    by (Some table) is there =
        let named : table_named mid p.table ≡ Some there.after = ap (λ (ts : List NamedTable). table_named ts p.table) there.others ∙ named_with old p.table table there.after is in
        let here : row_at there.after.rows p.key ≡ stored lsn p.after = there.sets.at_keys p.key ∙ rw (same_key-refl p.key) refl in
        of_found (λ (t : Relation). IsSome (row_at t.rows p.key)) (table_named mid p.table) there.after (sym named) (subst IsSome (sym here) (is_stored lsn p.after leaves))

-- a row that was put where none was, and is taken out again, leaves the tables
pub taken_back : (old mid new : List NamedTable) (p : Patch) (lsn : ℕ) → p.before ≡ None → IsSomeAnd (table_named old p.table) (TakesPatch p) → Patched old mid p lsn → RemovesRowIn mid new p.table p.key → SameTables old new
taken_back old mid new p lsn before takes patched removed = by (table_named old p.table) refl takes patched
  where
    by : (o : Option Relation) → table_named old p.table ≡ o → IsSomeAnd o (TakesPatch p) → IsSomeAnd o (λ (table : Relation). SetsRowIn old mid p.table table p.key (stored lsn p.after)) → SameTables old new
    by None is takes there = absurd there
    by (Some table) is takes there = again (table_named mid p.table) (ap (λ (ts : List NamedTable). table_named ts p.table) there.others ∙ named_with old p.table table there.after is) removed
      where
        none : row_at table.rows p.key ≡ None
        none = nothing_at (row_at table.rows p.key) (takes.was ∙ before)

        again : (o : Option Relation) → o ≡ Some there.after → IsSomeAnd o (λ (t : Relation). SetsRowIn mid new p.table t p.key None) → SameTables old new
        again None at out = absurd (cc)
        again (Some t) at out =
            let one : t ≡ there.after = cc in
            let schema = out.sets.same_schema ∙ ap (λ (r : Relation). r.schema) one ∙ there.sets.same_schema in
            let tables : new ≡ with_table old p.table out.after = out.others ∙ ap (λ (ts : List NamedTable). with_table ts p.table out.after) there.others ∙ with_with old p.table there.after out.after in
            subst (SameTables old) (sym tables) (same_tables-with old p.table table out.after is schema (λ key. back key (same_key p.key key) refl (out.sets.at_keys key) (ap (λ (r : Relation). row_at r.rows key) one ∙ there.sets.at_keys key)))
          where
            back : (key : List Value) (b : Bool) → same_key p.key key ≡ b → row_at out.after.rows key ≡ cond (same_key p.key key) None (row_at t.rows key) → row_at t.rows key ≡ cond (same_key p.key key) (stored lsn p.after) (row_at table.rows key)
                → row_at out.after.rows key ≡ row_at table.rows key
            back key true is removed put =
                removed ∙ rw is (sym none ∙ ap (row_at table.rows) (same_key_tells p.key key is))
            back key false is removed put = removed ∙ rw is (put ∙ rw is refl)
