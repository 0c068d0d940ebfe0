-- The steps of a catalog: a table more, and an index more.
use Rattle.std.proofs.Common.{◌≡◌, ◌≤◌, ◌<◌, ◌+◌, ◌++◌, ◌&&◌, ◌||◌, ℕ, suc, Bool, true, false, not, cond, List, [], ◌∷◌, length, get_or, set, position, Option, Some, None, Result, Ok, Err, IfSome, IsTrue, is_some, nat_le, All, OnOk, OnErr, refl, sym, ap, ◌∙◌, subst, arith, nat_lt, if◌then◌else◌, slice_get, Bor}
use Rattle.std.specs.Option.{option_copied}
use Rattle.sx_values.proofs.KeyLaws.{same_name_tells}
use Rattle.std.specs.List.{list_all, list_any, prefix_len, IsDistinct}
use Rattle.std.specs.Cmp.Lexicographic.{nat_list_eq_equiv}
use Rattle.std.proofs.lemmas.List.{set-get_or, map-append}
use Rattle.std.proofs.lemmas.List.Elements.{All-nil, All-cons, All-head, All-tail, All-push}
use Rattle.std.proofs.lemmas.List.Folds.{list_all-append}
use Rattle.std.proofs.lemmas.Map.Keys.{IsDistinct-push}
use Rattle.std.proofs.lemmas.Option.{slice_get_read}
use Rattle.std.proofs.lemmas.Bool.Decides.{nat_tests}
use Rattle.sx_lists.specs.Answers.{RefusesBy}
use Rattle.sx_values.specs.declared.catalog.Declared.{Declared}
use Rattle.sx_values.specs.declared.catalog.CatalogFault.{CatalogFault}
use Rattle.sx_values.specs.declared.catalog.CatalogFault.TheVariants as fault
use Rattle.sx_values.specs.Names.{same_name}
use Rattle.sx_values.specs.Layouts.{Layout, IsLayout}
use Rattle.sx_values.specs.SchemaFaults.{IsDeclarable}
use Rattle.sx_values.specs.Catalogs.{HasShortNames, declared_as, table_names, has_columns, declare_fault, adopt_fault, table_index_fault, index_fault, with_index, indexed, IsTable, IsCatalog}

-- ---- the place of a table

-- whether a table has another name
abbrev other : List ℕ → Declared → Bool
other name table = not (same_name table.name name)

-- the first table of the name stands at the place
record Placed (tables : List Declared) (name : List ℕ) (place : ℕ) : Type 0 where
  front : prefix_len (other name) tables ≡ place
  within : place < length tables

placed_by : (tables : List Declared) (name : List ℕ) (place : ℕ) (t : Bool) → nat_lt (prefix_len (other name) tables) (length tables) ≡ t → cond t (Some (prefix_len (other name) tables)) None ≡ Some place → Placed tables name place
placed_by tables name place true d f = let front : prefix_len (other name) tables ≡ place = cc in record { front = front; within = grind (arith, nat_tests) }
placed_by tables name place false d f = absurd (cc)

placed : (tables : List Declared) (name : List ℕ) (place : ℕ) → position (λ (t : Declared). same_name t.name name) tables ≡ Some place → Placed tables name place
placed tables name place e = placed_by tables name place (nat_lt (prefix_len (other name) tables) (length tables)) refl e

found_step : (b : Bool) (t : Declared) (ts : List Declared) (n k : ℕ) (rest : Option Declared) → cond (not b) (1 + n) 0 ≡ k → (n < length ts → slice_get ts n ≡ rest) → k < length (t ∷ ts) → slice_get (t ∷ ts) k ≡ (if b then Some t else rest)
found_step true t ts n k rest f r w = subst (λ j. slice_get (t ∷ ts) j ≡ Some t) f refl
found_step false t ts n k rest f r w = let e : suc n ≡ k = omega arith in subst (λ j. slice_get (t ∷ ts) j ≡ rest) e (r (omega arith))

found_by : (tables : List Declared) (name : List ℕ) (place : ℕ) → prefix_len (other name) tables ≡ place → place < length tables → slice_get tables place ≡ declared_as tables name
found_by [] name place f w = absurd (omega arith)
found_by (t ∷ ts) name place f w = found_step (same_name t.name name) t ts (prefix_len (other name) ts) place (declared_as ts name) f (found_by ts name (prefix_len (other name) ts) refl) w

pub found_at : (tables : List Declared) (name : List ℕ) (place : ℕ) → position (λ (t : Declared). same_name t.name name) tables ≡ Some place → slice_get tables place ≡ declared_as tables name
found_at tables name place e = let p = placed tables name place e in found_by tables name place p.front p.within

none_step : (b : Bool) (t : Declared) (n m : ℕ) (rest : Option Declared) → suc m ≤ cond (not b) (1 + n) 0 → (m ≤ n → rest ≡ None) → (if b then Some t else rest) ≡ None
none_step true t n m rest h r = absurd (omega arith)
none_step false t n m rest h r = r (omega arith)

none_by : (tables : List Declared) (name : List ℕ) → length tables ≤ prefix_len (other name) tables → declared_as tables name ≡ None
none_by [] name h = refl
none_by (t ∷ ts) name h = none_step (same_name t.name name) t (prefix_len (other name) ts) (length ts) (declared_as ts name) h (none_by ts name)

no_place : (a b : ℕ) (t : Bool) → nat_lt a b ≡ t → cond t (Some a) None ≡ None → b ≤ a
no_place a b true d f = absurd (cc)
no_place a b false d f = grind (arith, nat_tests)

pub not_found : (tables : List Declared) (name : List ℕ) → position (λ (t : Declared). same_name t.name name) tables ≡ None → declared_as tables name ≡ None
not_found tables name e = none_by tables name (no_place (prefix_len (other name) tables) (length tables) (nat_lt (prefix_len (other name) tables) (length tables)) refl e)

named_step : (b : Bool) (t : Declared) (name : List ℕ) (rest : Option Declared) → same_name t.name name ≡ b → IfSome rest (λ (u : Declared). u.name ≡ name) → IfSome (if b then Some t else rest) (λ (u : Declared). u.name ≡ name)
named_step true t name rest e r = same_name_tells t.name name e
named_step false t name rest e r = r

-- the table of a name has it
pub named_so : (tables : List Declared) (name : List ℕ) → IfSome (declared_as tables name) (λ (u : Declared). u.name ≡ name)
named_so [] name = tt
named_so (t ∷ ts) name = named_step (same_name t.name name) t name (declared_as ts name) refl (named_so ts name)

-- and so has the one that a reference shows
pub named_shown : (tables : List Declared) (name : List ℕ) (shown : Option (Bor Declared)) → option_copied shown ≡ declared_as tables name → IfSome shown (λ table. table.now.name ≡ name)
named_shown tables name None e = tt
named_shown tables name (Some table) e = subst (λ o. IfSome o (λ (u : Declared). u.name ≡ name)) (sym e) (named_so tables name)

-- ---- a table more

-- no table breaks no law
pub no_tables : IsCatalog []
unfolding IsDistinct
no_tables = record { distinct = tt; sound = All-nil IsTable }

unnamed_step : (b c : Bool) (t : Declared) (rest : Option Declared) (others : Bool) → c ≡ b → (if b then Some t else rest) ≡ None → (rest ≡ None → others ≡ false) → (c || others) ≡ false
unnamed_step true c t rest others e f r = absurd (cc)
unnamed_step false c t rest others e f r = rw e (r f)

-- a name that no table has is none of their names
unnamed : (tables : List Declared) (name : List ℕ) → declared_as tables name ≡ None → list_any (same_name name) (table_names tables) ≡ false
unnamed [] name e = refl
unnamed (t ∷ ts) name e = unnamed_step (same_name t.name name) (same_name name t.name) t (declared_as ts name) (list_any (same_name name) (table_names ts)) (nat_list_eq_equiv.symm name t.name) e (unnamed ts name)

-- a table of a new name behind the others
pub catalog_push : (tables : List Declared) (table : Declared) → IsCatalog tables → IsTable table → declared_as tables table.name ≡ None → IsCatalog (tables ++ table ∷ [])
catalog_push tables table k t e = record {
  distinct = (let names = map-append (λ (u : Declared). u.name) tables (table ∷ []) in rw names (IsDistinct-push nat_list_eq_equiv (table_names tables) table.name k.distinct (unnamed tables table.name e)));
  sound = All-push IsTable tables table k.sound t;
}

-- no fault of an adopted table: its name is new
pub adopted_name : (tables : List Declared) (name : List ℕ) → adopt_fault tables name ≡ None → declared_as tables name ≡ None
adopted_name tables name e = by (declared_as tables name) e
  where
    by : (o : Option Declared) → cond (is_some o) (Some fault.Taken) None ≡ None → o ≡ None
    by None e = refl
    by (Some t) e = absurd (cc)

-- nor of a declared one
pub new_name : (tables : List Declared) (name : List ℕ) → declare_fault tables name ≡ None → declared_as tables name ≡ None
new_name tables name e = by (declared_as tables name) e
  where
    by : (o : Option Declared) → cond (is_some o) (Some fault.Taken) (cond (nat_le 16 (length tables)) (Some fault.Many) None) ≡ None → o ≡ None
    by None e = refl
    by (Some t) e = absurd (cc)

-- ---- an index more

set_step : (b : Bool) (t table : Declared) (ts : List Declared) (columns : List (List ℕ)) (n k : ℕ) (rest : List Declared) → cond (not b) (1 + n) 0 ≡ k → (n < length ts → slice_get ts n ≡ Some table → set ts n (with_index columns table) ≡ rest) → k < length (t ∷ ts) → slice_get (t ∷ ts) k ≡ Some table → set (t ∷ ts) k (with_index columns table) ≡ (if b then with_index columns t ∷ ts else t ∷ rest)
set_step true t table ts columns n k rest f r w s =
    let first : slice_get (t ∷ ts) 0 ≡ Some table → set (t ∷ ts) 0 (with_index columns table) ≡ with_index columns t ∷ ts = λ e. (let same : table ≡ t = cc in ap (λ u. with_index columns u ∷ ts) same) in
    subst (λ j. slice_get (t ∷ ts) j ≡ Some table → set (t ∷ ts) j (with_index columns table) ≡ with_index columns t ∷ ts) f first s
set_step false t table ts columns n k rest f r w s =
    let e : suc n ≡ k = omega arith in
    let later : slice_get (t ∷ ts) (suc n) ≡ Some table → set (t ∷ ts) (suc n) (with_index columns table) ≡ t ∷ rest = λ s'. ap (λ us. t ∷ us) (r (omega arith) s') in
    subst (λ j. slice_get (t ∷ ts) j ≡ Some table → set (t ∷ ts) j (with_index columns table) ≡ t ∷ rest) e later s

set_by : (tables : List Declared) (name : List ℕ) (columns : List (List ℕ)) (place : ℕ) (table : Declared) → prefix_len (other name) tables ≡ place → place < length tables → slice_get tables place ≡ Some table → set tables place (with_index columns table) ≡ indexed tables name columns
set_by [] name columns place table f w s = absurd (omega arith)
set_by (t ∷ ts) name columns place table f w s = set_step (same_name t.name name) t table ts columns (prefix_len (other name) ts) place (indexed ts name columns) f (set_by ts name columns (prefix_len (other name) ts) table refl) w s

names_step : (b : Bool) (t : Declared) (ts rest : List Declared) (columns : List (List ℕ)) → table_names rest ≡ table_names ts → table_names (if b then with_index columns t ∷ ts else t ∷ rest) ≡ t.name ∷ table_names ts
names_step true t ts rest columns e = refl
names_step false t ts rest columns e = ap (λ names. t.name ∷ names) e

names_indexed : (tables : List Declared) (name : List ℕ) (columns : List (List ℕ)) → table_names (indexed tables name columns) ≡ table_names tables
names_indexed [] name columns = refl
names_indexed (t ∷ ts) name columns = names_step (same_name t.name name) t ts (indexed ts name columns) columns (names_indexed ts name columns)

both_true : (a b : Bool) → a ≡ true → b ≡ true → (a && (b && true)) ≡ true
both_true a b e f = rw (e, f) refl

table_with_index : (columns : List (List ℕ)) (t : Declared) → IsTable t → has_columns t.schema columns ≡ true → IsTable (with_index columns t)
table_with_index columns t k h = record {
  layout = k.layout;
  declarable = k.declarable;
  short_names = k.short_names;
  own_columns = list_all-append (has_columns t.schema) t.indexes (columns ∷ []) ∙ both_true (list_all (has_columns t.schema) t.indexes) (has_columns t.schema columns) k.own_columns h;
}

all_step : (b : Bool) (t : Declared) (ts rest : List Declared) (columns : List (List ℕ)) (found : Option Declared) → IsTable t → All IsTable ts → IfSome (if b then Some t else found) (λ u. has_columns u.schema columns ≡ true) → (IfSome found (λ u. has_columns u.schema columns ≡ true) → All IsTable rest) → All IsTable (if b then with_index columns t ∷ ts else t ∷ rest)
all_step true t ts rest columns found k ks h r = All-cons IsTable (with_index columns t) ts (table_with_index columns t k h) ks
all_step false t ts rest columns found k ks h r = All-cons IsTable t rest k (r h)

all_indexed : (tables : List Declared) (name : List ℕ) (columns : List (List ℕ)) → All IsTable tables → IfSome (declared_as tables name) (λ u. has_columns u.schema columns ≡ true) → All IsTable (indexed tables name columns)
all_indexed [] name columns ks h = All-nil IsTable
all_indexed (t ∷ ts) name columns ks h =
    let head = All-head IsTable t ts ks in
    let tail = All-tail IsTable t ts ks in
    all_step (same_name t.name name) t ts (indexed ts name columns) columns (declared_as ts name) head tail h (all_indexed ts name columns tail)

has_step : (b : Bool) (rest : Option CatalogFault) → (if not b then Some fault.NoColumn else rest) ≡ None → b ≡ true
has_step true rest e = refl
has_step false rest e = absurd (cc)

-- the tables before and after a call that answers for an index
pub record Indexes (before after : List Declared) (name : List ℕ) (columns : List (List ℕ)) (answer : Result (Unit {0}) CatalogFault) : Type 0 where
  pub fault : RefusesBy (index_fault before name columns) fault.Memory answer
  pub ok : OnOk answer (after ≡ indexed before name columns)
  pub err : OnErr answer (after ≡ before)
  pub catalog : IsCatalog after

-- one table before and after, which stands at the place of its name
pub record IndexesAt (before : List Declared) (name : List ℕ) (columns : List (List ℕ)) (place : ℕ) (old new : Declared) (answer : Result (Unit {0}) CatalogFault) : Type 0 where
  pub placed : position (λ (t : Declared). same_name t.name name) before ≡ Some place
  pub old_is : old ≡ get_or before place old
  pub fault : RefusesBy (table_index_fault columns (Some old)) fault.Memory answer
  pub ok : OnOk answer (new ≡ with_index columns old)
  pub err : OnErr answer (new ≡ old)

declared_at : (before : List Declared) (name : List ℕ) (columns : List (List ℕ)) (place : ℕ) (old new : Declared) (answer : Result (Unit {0}) CatalogFault) → IndexesAt before name columns place old new answer → declared_as before name ≡ Some old
declared_at before name columns place old new answer s =
    let p = placed before name place s.placed in
    sym (found_at before name place s.placed) ∙ slice_get_read before (length before) place old refl p.within s.old_is

fault_none : (f : Option CatalogFault) → RefusesBy f fault.Memory (Ok (tt {0})) → f ≡ None
fault_none None h = refl
fault_none (Some f) h = absurd (cc)

pub index_step : (before : List Declared) (name : List ℕ) (columns : List (List ℕ)) (place : ℕ) (old new : Declared) (answer : Result (Unit {0}) CatalogFault) → IsCatalog before → IndexesAt before name columns place old new answer → Indexes before (set before place new) name columns answer
index_step before name columns place old new (Ok u) k s =
    let p = placed before name place s.placed in
    let at = declared_at before name columns place old new (Ok u) s in
    let has = has_step (has_columns old.schema columns) _ (fault_none (table_index_fault columns (Some old)) s.fault) in
    let seen : slice_get before place ≡ Some old = found_at before name place s.placed ∙ at in
    let after : set before place new ≡ indexed before name columns = ap (set before place) s.ok ∙ set_by before name columns place old p.front p.within seen in
    let sound = all_indexed before name columns k.sound (rw at has) in
    record {
      fault = rw at s.fault;
      ok = after;
      err = tt;
      catalog = rw after (record { distinct = rw (names_indexed before name columns) k.distinct; sound = sound });
    }
index_step before name columns place old new (Err e) k s =
    let at = declared_at before name columns place old new (Err e) s in
    let same : set before place new ≡ before = ap (set before place) (s.err ∙ s.old_is) ∙ set-get_or before place old in
    record { fault = rw at s.fault; ok = tt; err = same; catalog = rw same k }

-- no table of the name: the index is refused so
pub no_table : (tables : List Declared) (name : List ℕ) (columns : List (List ℕ)) → position (λ (t : Declared). same_name t.name name) tables ≡ None → RefusesBy {T = Unit {0}} (index_fault tables name columns) fault.Memory (Err fault.NoTable)
no_table tables name columns e = rw (not_found tables name e) refl

-- a table without indexes
pub new_table : (name : List ℕ) (layout : Layout) (indexes : List (List (List ℕ))) (source : Bool) → indexes ≡ [] → IsLayout layout → (IsTrue source → IsDeclarable layout) → (IsTrue source → HasShortNames layout) → IsTable (record { name = name; schema = layout; indexes = indexes; source = source })
new_table name layout indexes source e i d s = record { layout = i; declarable = d; short_names = s; own_columns = rw e refl }
