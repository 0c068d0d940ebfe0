-- New tables: what their keys have, behind other tables, and that the rows of a source in key order are those that the log leaves.
use Rattle.std.proofs.Common.{◌≡◌, ◌≤◌, ◌+◌, ◌++◌, ◌∷◌, [], ℕ, zero, suc, List, length, map, drop, reverse, Bool, true, false, cond, Option, Some, None, IsSome, option_map, refl, sym, ◌∙◌, ap, subst, inl, inr, arith}
use Rattle.std.specs.Prelude.{nat_lt}
use Rattle.std.specs.List.{AllByRecursion, IsDistinct}
use Rattle.std.specs.List.Sorted.{IsStrictlySortedBy}
use Rattle.std.specs.Ordering.{is_eq, ordering_reverse}
use Rattle.std.specs.declared.cmp.Ordering.{Ordering}
use Rattle.std.specs.declared.cmp.Ordering.TheVariants.{Less, Equal, Greater}
use Rattle.std.proofs.lemmas.Bool.{false≢true, cases_lt}
use Rattle.std.proofs.lemmas.Bool.Decides.{nat_tests}
use Rattle.std.proofs.lemmas.List.{append-nil, map-append, take_all, drop_all, drop-append-le, length-drop, length-reverse, reverse-append}
use Rattle.std.proofs.lemmas.List.Elements.{recursion_from_All}
use Rattle.sx_lists.specs.Places.{following}
use Rattle.sx_values.specs.declared.value.Value.{Value}
use Rattle.sx_values.specs.Layouts.{Layout, key_of, Admits}
use Rattle.sx_values.specs.Names.{same_name}
use Rattle.sx_values.specs.Values.{values_cmp, values_eq}
use Rattle.sx_log.specs.declared.record.Rec.{Rec}
use Rattle.sx_log.specs.declared.record.Body.{Body}
use Rattle.sx_log.specs.State.{Stored, state_at, row_left}
use Rattle.sx_log.specs.Copies.{copied, copied_on, redone}
use Rattle.sx_heap.specs.declared.seen.Seen.{Seen}
use Rattle.sx_heap.specs.declared.tables.NamedTable.{NamedTable}
use Rattle.sx_heap.specs.Relations.{Relation, IsRelation, IsRowOf, row_at, row_keys, same_key, seen_under}
use Rattle.sx_heap.specs.NamedTables.{AreNamedApart, names_of_tables, table_named}
use Rattle.sx_heap.proofs.WalkLemmas.{values_total}
use Rattle.sx_txn.specs.Managed.{schema_in, shape_of}
use Rattle.sx_ops.specs.declared.spec.Spec.{Spec}
use Rattle.sx_ops.specs.declared.spec.Test.{Test}
use Rattle.sx_ops.specs.declared.spec.Target.{Target}
use Rattle.sx_ops.specs.Operators.{sources_of, split_rows, columns_in}
use Rattle.sx_ops.specs.Targets.{part_targets}
use Rattle.sx_copy.specs.FreshTables.{bare_rows, fresh_tables}
use Rattle.sx_image.specs.Images.{Copy, copy_behind, copy_behind_all}
use Rattle.sx_model.specs.Known.{adopted}
use Rattle.sx_model.specs.NewRows.{row_among}
use Rattle.sx_model.specs.RowLists.{AreRows, row_of_key}
use Rattle.sx_model.proofs.AllLaws.{all_append, all_reverse}
use Rattle.sx_model.proofs.TestLaws.{by_cases}
use Rattle.sx_core.specs.Kept.{shapes_of, stored_in}
use Rattle.sx_core.proofs.StoredLemmas.{row_of, stored-is}

-- ** tables by name **

-- the schema of a name is that of its table
pub table_shape : (tables : List NamedTable) (name : List ℕ) → schema_in (map shape_of tables) name ≡ option_map (λ (r : Relation). r.schema) (table_named tables name)
table_shape [] name = refl
table_shape (t ∷ tables) name = by_cases (same_name t.name name) (λ here. rw here refl) (λ away. rw away (table_shape tables name))

-- a name among the first of two lists of tables
named_there : (xs ys : List NamedTable) (name : List ℕ) → IsSome (table_named xs name) → table_named (xs ++ ys) name ≡ table_named xs name
named_there [] ys name some = absurd (false≢true some)
named_there (t ∷ xs) ys name some = by_cases (same_name t.name name) (λ here. rw here refl) (λ away. rw away (named_there xs ys name (rw away at some)))

-- or not among them
pub named_behind : (xs ys : List NamedTable) (name : List ℕ) → table_named xs name ≡ None → table_named (xs ++ ys) name ≡ table_named ys name
named_behind [] ys name none = refl
named_behind (t ∷ xs) ys name none = by_cases (same_name t.name name) (λ here. absurd (let e : Some t.table ≡ None = rw here at none in cc)) (λ away. rw away (named_behind xs ys name (rw away at none)))

pub stored_there : (xs ys : List NamedTable) (name : List ℕ) (key : List Value) → IsSome (table_named xs name) → stored_in (xs ++ ys) name key ≡ stored_in xs name key
stored_there xs ys name key some = stored-is (xs ++ ys) name key ∙ ap (λ found. row_of found key) (named_there xs ys name some) ∙ sym (stored-is xs name key)

pub stored_behind : (xs ys : List NamedTable) (name : List ℕ) (key : List Value) → table_named xs name ≡ None → stored_in (xs ++ ys) name key ≡ stored_in ys name key
stored_behind xs ys name key none = stored-is (xs ++ ys) name key ∙ ap (λ found. row_of found key) (named_behind xs ys name none) ∙ sym (stored-is ys name key)

-- ** what keys of fresh tables have **

values_eq-sym : (key other : List Value) → values_eq key other ≡ same_key other key
values_eq-sym key other = ap is_eq (values_total.antisymm key other) ∙ by (values_cmp other key)
  where
    by : (r : Ordering) → is_eq (ordering_reverse r) ≡ is_eq r
    by Less = refl
    by Equal = refl
    by Greater = refl

picked_fresh : (b : Bool) (row : List Value) (rest : Option Stored) (more : Option (List Value)) → rest ≡ option_map (λ (r : List Value). (r, 0)) more → ◌≡◌ {A = Option Stored} (cond b (Some (row, 0)) rest) (option_map (λ (r : List Value). (r, 0)) (cond b (Some row) more))
picked_fresh true row rest more same = refl
picked_fresh false row rest more same = same

row_under : (schema : Layout) (rows : List (List Value)) (key : List Value) → ◌≡◌ {A = Option Stored} (row_at (map (seen_under schema 0) rows) key) (option_map (λ (row : List Value). (row, 0)) (row_of_key schema rows key))
row_under schema [] key = refl
row_under schema (row ∷ rows) key =
    rw (values_eq-sym (key_of schema row) key) (picked_fresh (same_key key (key_of schema row)) row (row_at (map (seen_under schema 0) rows) key) (row_of_key schema rows key) (row_under schema rows key))

fresh_row : (targets : List Target) (lists : List (List (List Value))) (name : List ℕ) (key : List Value) → row_of (table_named (fresh_tables targets lists) name) key ≡ option_map (λ (row : List Value). (row, 0)) (row_among targets lists name key)
fresh_row [] lists name key = refl
fresh_row (target ∷ targets) [] name key = refl
fresh_row (target ∷ targets) (rows ∷ lists) name key = by_cases (same_name target.name name) (λ here. rw here (row_under target.schema rows key)) (λ away. rw away (fresh_row targets lists name key))

pub stored_fresh : (targets : List Target) (lists : List (List (List Value))) (name : List ℕ) (key : List Value) → stored_in (fresh_tables targets lists) name key ≡ option_map (λ (row : List Value). (row, 0)) (row_among targets lists name key)
stored_fresh targets lists name key = stored-is (fresh_tables targets lists) name key ∙ fresh_row targets lists name key

-- ** the new tables of a horizontal split **

pub part_shapes : (found : Option Layout) (tests : List Test) (passing failing : List ℕ) (rows : List (List Value)) → map shape_of (fresh_tables (part_targets found passing failing) (split_rows (columns_in found) tests (rows ∷ []))) ≡ shapes_of (map adopted (part_targets found passing failing))
part_shapes None tests passing failing rows = refl
part_shapes (Some schema) tests passing failing rows = refl

unnamed_all : (tables : List NamedTable) (name : List ℕ) → table_named tables name ≡ None → AllByRecursion (λ n. same_name n name ≡ false) (names_of_tables tables)
unnamed_all [] name none = tt
unnamed_all (t ∷ tables) name none = by_cases (same_name t.name name) (λ here. absurd (let e : Some t.table ≡ None = rw here at none in cc)) (λ away. (away, unnamed_all tables name (rw away at none)))

two_more : (names : List (List ℕ)) (one other : List ℕ) → IsDistinct same_name names → AllByRecursion (λ n. same_name n one ≡ false) names → AllByRecursion (λ n. same_name n other ≡ false) names → same_name one other ≡ false → IsDistinct same_name (names ++ one ∷ other ∷ [])
unfolding IsDistinct
two_more [] one other apart first second differ = ((differ, tt), (tt, tt))
two_more (n ∷ names) one other apart first second differ =
    (all_append (λ x. same_name n x ≡ false) names (one ∷ other ∷ []) apart.0 (first.0, (second.0, tt)), two_more names one other apart.1 first.1 second.1 differ)

pub part_apart : (tables : List NamedTable) (found : Option Layout) (tests : List Test) (passing failing : List ℕ) (rows : List (List Value)) → AreNamedApart tables → table_named tables passing ≡ None → table_named tables failing ≡ None → same_name passing failing ≡ false
    → AreNamedApart (tables ++ fresh_tables (part_targets found passing failing) (split_rows (columns_in found) tests (rows ∷ [])))
part_apart tables None tests passing failing rows apart first second differ = subst AreNamedApart (sym (append-nil tables)) apart
part_apart tables (Some schema) tests passing failing rows apart first second differ =
    let new = fresh_tables (part_targets (Some schema) passing failing) (split_rows (columns_in (Some schema)) tests (rows ∷ [])) in
    subst (IsDistinct same_name) (sym (map-append (λ (t : NamedTable). t.name) tables (fresh_tables (part_targets (Some schema) passing failing) (split_rows (columns_in (Some schema)) tests (rows ∷ [])))))
    (two_more (names_of_tables tables) passing failing apart (unnamed_all tables passing first) (unnamed_all tables failing second) differ)

-- ** the rows of a source **

admitted_bare : (layout : Layout) (rows : List Seen) → AllByRecursion (IsRowOf layout) rows → AllByRecursion (Admits layout) (bare_rows rows)
admitted_bare layout [] each = tt
admitted_bare layout (s ∷ rows) each = (each.0.admitted, admitted_bare layout rows each.1)

keys_of_bare : (layout : Layout) (rows : List Seen) → AllByRecursion (IsRowOf layout) rows → row_keys rows ≡ map (key_of layout) (bare_rows rows)
keys_of_bare layout [] each = refl
keys_of_bare layout (s ∷ rows) each =
    let first = each.0.keyed in
    let rest = keys_of_bare layout rows each.1 in
    λ i. first i ∷ rest i

picked_bare : (b : Bool) (s : Seen) (rest : Option (List Value)) (more : Option Stored) → rest ≡ option_map (λ (p : Stored). p.0) more → cond b (Some s.row) rest ≡ option_map (λ (p : Stored). p.0) (cond b (Some (s.row, s.lsn)) more)
picked_bare true s rest more same = refl
picked_bare false s rest more same = same

row_of_bare : (layout : Layout) (rows : List Seen) (key : List Value) → AllByRecursion (IsRowOf layout) rows → row_of_key layout (bare_rows rows) key ≡ option_map (λ (p : Stored). p.0) (row_at rows key)
row_of_bare layout [] key each = refl
row_of_bare layout (s ∷ rows) key each =
    let asked : values_eq (key_of layout s.row) key ≡ same_key key s.key = ap (λ k. values_eq k key) (sym each.0.keyed) ∙ values_eq-sym s.key key in
    rw asked (picked_bare (same_key key s.key) s (row_of_key layout (bare_rows rows) key) (row_at rows key) (row_of_bare layout rows key each.1))

-- the rows of a table that has what is there
pub rows_are : (layout : Layout) (there : List Value → Option Stored) (rows : List Seen) → IsRelation (record { schema = layout; rows = rows }) → ((key : List Value) → row_at rows key ≡ there key) → AreRows layout (λ key. option_map (λ (p : Stored). p.0) (there key)) (bare_rows rows)
rows_are layout there rows is has =
    let each = recursion_from_All (IsRowOf layout) rows is.each in
    record {
      admitted = admitted_bare layout rows each;
      in_order = subst (IsStrictlySortedBy values_cmp) (keys_of_bare layout rows each) is.sorted;
      same = λ key. row_of_bare layout rows key each ∙ ap (option_map (λ (p : Stored). p.0)) (has key);
    }

-- the same of what the log leaves
pub bare_are : (layout : Layout) (log : List Rec) (table : List ℕ) (rows : List Seen) → IsRelation (record { schema = layout; rows = rows }) → ((key : List Value) → row_at rows key ≡ state_at log table key) → AreRows layout (row_left log table) (bare_rows rows)
bare_are layout log table rows is has = rows_are layout (state_at log table) rows is has

-- ** a copy behind the rest of a log **

-- the whole rest, where it isn't long
pub following_all : (log : List Rec) (place : ℕ) → place ≤ length log → length log ≤ place + 256 → following log place 256 ≡ drop place (reverse log)
following_all log place within few =
    let dropped = length-drop place (reverse log) in
    let whole = length-reverse log in
    take_all 256 (drop place (reverse log)) (omega arith)

pub following_ends : (log : List Rec) (place : ℕ) → place ≤ length log → length log ≤ place + 256 → place + length (following log place 256) ≡ length log
following_ends log place within few =
    let all = ap length (following_all log place within few) in
    let dropped = length-drop place (reverse log) in
    let whole = length-reverse log in
    omega arith

pub all_drop : (P : Rec → Type 0) (n : ℕ) (xs : List Rec) → AllByRecursion P xs → AllByRecursion P (drop n xs)
all_drop P zero xs all = all
all_drop P (suc n) [] all = tt
all_drop P (suc n) (x ∷ xs) all = all_drop P n xs all.1

pub following_fit : (P : Rec → Type 0) (log : List Rec) (place : ℕ) → place ≤ length log → length log ≤ place + 256 → AllByRecursion P log → AllByRecursion P (following log place 256)
following_fit P log place within few all = subst (AllByRecursion P) (sym (following_all log place within few)) (all_drop P place (reverse log) (all_reverse P log all))

behind_more : (spec : Spec) (place : ℕ) (xs : List Rec) (r : Rec) (copy : Copy) → copy_behind_all spec place (xs ++ r ∷ []) copy ≡ copy_behind spec (place + length xs + 1) r.body (copy_behind_all spec place xs copy)
behind_more spec place [] r copy = let e : place + 1 ≡ place + 0 + 1 = omega arith in ap (λ n. copy_behind spec n r.body copy) e
behind_more spec place (x ∷ xs) r copy =
    let e : place + 1 + length xs + 1 ≡ place + length (x ∷ xs) + 1 = omega arith in
    behind_more spec (place + 1) xs r (copy_behind spec (place + 1) x.body copy)
    ∙ ap (λ n. copy_behind spec n r.body (copy_behind_all spec (place + 1) xs (copy_behind spec (place + 1) x.body copy))) e

copied_one : (table : List ℕ) (place : ℕ) (body : Body) (key : List Value) (known : Option Stored) → copied_on (table ∷ []) 0 place body key known ≡ copied table place body key known
unfolding copied_on
copied_one table place body key known = refl

pub behind_redone : (spec : Spec) (table : List ℕ) → sources_of spec ≡ table ∷ [] → (log : List Rec) (place : ℕ) (copy : Copy) (key : List Value) → place ≤ length log → copy_behind_all spec place (drop place (reverse log)) copy 0 key ≡ redone log place table key (copy 0 key)
behind_redone spec table one [] zero copy key within = refl
behind_redone spec table one [] (suc place) copy key within = absurd (omega arith)
behind_redone spec table one (r ∷ past) place copy key within = elim (cases_lt (length past) place) [
  | inl over ↦
      let none : drop place (reverse (r ∷ past)) ≡ [] = (let whole = length-reverse (r ∷ past) in drop_all place (reverse (r ∷ past)) (omega arith)) in
      let passed : nat_lt place (length past + 1) ≡ false = grind (arith, nat_tests) in
      ap (λ l. copy_behind_all spec place l copy 0 key) none ∙ rw passed refl
  | inr until ↦
      let whole = length-reverse past in
      let dropped : drop place (reverse (r ∷ past)) ≡ drop place (reverse past) ++ r ∷ [] = ap (drop place) (reverse-append (r ∷ []) past) ∙ drop-append-le place (reverse past) (r ∷ []) (omega arith) in
      let long = length-drop place (reverse past) in
      let at : place + length (drop place (reverse past)) + 1 ≡ length past + 1 = omega arith in
      let behind = copy_behind_all spec place (drop place (reverse past)) copy in
      let passed : nat_lt place (length past + 1) ≡ true = grind (arith, nat_tests) in
      ap (λ l. copy_behind_all spec place l copy 0 key) dropped
      ∙ ap (λ (c : Copy). c 0 key) (behind_more spec place (drop place (reverse past)) r copy)
      ∙ ap (λ n. copied_on (sources_of spec) 0 n r.body key (copy_behind_all spec place (drop place (reverse past)) copy 0 key)) at
      ∙ ap (λ tables. copied_on tables 0 (length past + 1) r.body key (copy_behind_all spec place (drop place (reverse past)) copy 0 key)) one
      ∙ copied_one table (length past + 1) r.body key (copy_behind_all spec place (drop place (reverse past)) copy 0 key)
      ∙ ap (copied table (length past + 1) r.body key) (behind_redone spec table one past place copy key until)
      ∙ rw passed refl
]

-- the copy behind the rest of the log is redone
pub following_redone : (spec : Spec) (table : List ℕ) (log : List Rec) (place : ℕ) (copy : Copy) (key : List Value) → sources_of spec ≡ table ∷ [] → place ≤ length log → length log ≤ place + 256 → copy_behind_all spec place (following log place 256) copy 0 key ≡ redone log place table key (copy 0 key)
following_redone spec table log place copy key one within few = ap (λ l. copy_behind_all spec place l copy 0 key) (following_all log place within few) ∙ behind_redone spec table one log place copy key within
