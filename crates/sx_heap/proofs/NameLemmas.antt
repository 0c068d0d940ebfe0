-- Tables by name.
use Rattle.std.proofs.Common.{◌≡◌, ◌<◌, ◌+◌, zero, suc, arith, length, get_or, ◌∷◌, ◌++◌, [], ℕ, List, Bool, true, false, Option, Some, None, refl, sym, ap, ◌∙◌, subst, cond}
use Rattle.std.specs.List.{AllByRecursion, IsDistinct, position_from}
use Rattle.std.proofs.Math.ListN.{set}
use Rattle.std.proofs.lemmas.List.Quantifiers.{position-Some}
use Rattle.std.proofs.lemmas.Iterator.Adapters.{position_from-zero}
use Rattle.sx_values.specs.Names.{same_name}
use Rattle.sx_heap.specs.Relations.{Relation}
use Rattle.sx_heap.specs.declared.tables.NamedTable.{NamedTable}
use Rattle.sx_heap.specs.NamedTables.{AreNamedApart, table_named, index_named, with_table, names_of_tables}

pub AreNamedApart-none : AreNamedApart []
unfolding IsDistinct
AreNamedApart-none = tt

not_named_first : (b : Bool) (t : Relation) (rest : Option Relation) → cond b (Some t) rest ≡ None → (b ≡ false) × (rest ≡ None)
not_named_first true t rest e = cc
not_named_first false t rest e = (refl, e)

-- a name that differs from these and from one more
differs_push : (name : List ℕ) (tables : List NamedTable) (t : NamedTable) → AllByRecursion (λ other. same_name name other ≡ false) (names_of_tables tables) → same_name name t.name ≡ false → AllByRecursion (λ other. same_name name other ≡ false) (names_of_tables (tables ++ t ∷ []))
differs_push name [] t h e = (e, tt)
differs_push name (u ∷ tables) t h e = (h.0, differs_push name tables t h.1 e)

-- with a table under a name that isn't there the names still differ
pub AreNamedApart-push : (tables : List NamedTable) (t : NamedTable) → AreNamedApart tables → table_named tables t.name ≡ None → AreNamedApart (tables ++ t ∷ [])
unfolding IsDistinct
AreNamedApart-push [] t apart e = (tt, tt)
AreNamedApart-push (u ∷ tables) t apart e =
    let absent = not_named_first (same_name u.name t.name) u.table (table_named tables t.name) e in
    (differs_push u.name tables t apart.0 absent.0, AreNamedApart-push tables t apart.1 absent.1)

-- no table is found where no index is
absent_from : (tables : List NamedTable) (name : List ℕ) (from : ℕ) → position_from (λ (t : NamedTable). same_name t.name name) from tables ≡ None → table_named tables name ≡ None
absent_from [] name from e = refl
absent_from (t ∷ tables) name from e = by (same_name t.name name) e (λ h. absent_from tables name (from + 1) h)
  where
    by : (b : Bool) → cond b (Some from) (position_from (λ (u : NamedTable). same_name u.name name) (from + 1) tables) ≡ None → (position_from (λ (u : NamedTable). same_name u.name name) (from + 1) tables ≡ None → table_named tables name ≡ None) → cond b (Some t.table) (table_named tables name) ≡ None
    by true h rest = absurd (missed h)
      where
        missed : Some from ≡ None → ⊥
        missed k = cc
    by false h rest = rest h

pub table_named-absent : (tables : List NamedTable) (name : List ℕ) → index_named tables name ≡ None → table_named tables name ≡ None
table_named-absent tables name e = absent_from tables name 0 (sym (position_from-zero (λ (t : NamedTable). same_name t.name name) tables) ∙ e)

-- t is the first of these tables that has the name, and stands at this index
pub record IsFirstNamed (tables : List NamedTable) (name : List ℕ) (index : ℕ) (t : NamedTable) : Type 0 where
  pub within : index < length tables
  pub is : t ≡ get_or tables index t
  pub named : same_name t.name name ≡ true
  pub others : (k : ℕ) → k < index → same_name (get_or tables k t).name name ≡ false

pub is_first_named : (tables : List NamedTable) (name : List ℕ) (index : ℕ) (t : NamedTable) → index_named tables name ≡ Some index → t ≡ get_or tables index t → IsFirstNamed tables name index t
is_first_named tables name index t e is =
    let p : NamedTable → Bool = λ u. same_name u.name name in
    let first = position-Some p tables index t e in
    record { within = first.0; is = is; named = ap p is ∙ first.1; others = first.2 }

-- behind a table with another name
first_behind : (u : NamedTable) (tables : List NamedTable) (name : List ℕ) (index : ℕ) (t : NamedTable) → IsFirstNamed (u ∷ tables) name (suc index) t → IsFirstNamed tables name index t
first_behind u tables name index t first =
    record { within = omega (arith, first.within); is = first.is; named = first.named; others = λ k less. first.others (suc k) (omega arith) }

pub table_named-first : (tables : List NamedTable) (name : List ℕ) (index : ℕ) (t : NamedTable) → IsFirstNamed tables name index t → table_named tables name ≡ Some t.table
table_named-first [] name index t first = absurd (omega (arith, first.within))
table_named-first (u ∷ tables) name zero t first =
    let named : same_name u.name name ≡ true = ap (λ (x : NamedTable). same_name x.name name) (sym first.is) ∙ first.named in
    rw named (ap (λ (x : NamedTable). Some x.table) (sym first.is))
table_named-first (u ∷ tables) name (suc index) t first =
    let other : same_name u.name name ≡ false = first.others 0 (omega arith) in
    rw other (table_named-first tables name index t (first_behind u tables name index t first))

-- to write another table at the index is to write it under the name
pub with_table-first : (tables : List NamedTable) (name : List ℕ) (index : ℕ) (t : NamedTable) (table : Relation) → IsFirstNamed tables name index t → set tables index (record { name = t.name; table = table }) ≡ with_table tables name table
with_table-first [] name index t table first = absurd (omega (arith, first.within))
with_table-first (u ∷ tables) name zero t table first =
    let named : same_name u.name name ≡ true = ap (λ (x : NamedTable). same_name x.name name) (sym first.is) ∙ first.named in
    rw named (ap (λ (x : NamedTable). record { name = x.name; table = table } ∷ tables) first.is)
with_table-first (u ∷ tables) name (suc index) t table first =
    let other : same_name u.name name ≡ false = first.others 0 (omega arith) in
    rw other (ap (λ rest. u ∷ rest) (with_table-first tables name index t table (first_behind u tables name index t first)))

names_of_with_table : (tables : List NamedTable) (name : List ℕ) (table : Relation) → names_of_tables (with_table tables name table) ≡ names_of_tables tables
names_of_with_table [] name table = refl
names_of_with_table (t ∷ tables) name table = by (same_name t.name name) (names_of_with_table tables name table)
  where
    by : (b : Bool) → names_of_tables (with_table tables name table) ≡ names_of_tables tables → names_of_tables (cond b (record { name = t.name; table = table } ∷ tables) (t ∷ with_table tables name table)) ≡ names_of_tables (t ∷ tables)
    by true h = refl
    by false h = ap (λ names. t.name ∷ names) h

-- with another table under a name the names still differ
pub AreNamedApart-with_table : (tables : List NamedTable) (name : List ℕ) (table : Relation) → AreNamedApart tables → AreNamedApart (with_table tables name table)
AreNamedApart-with_table tables name table apart = subst (IsDistinct same_name) (sym (names_of_with_table tables name table)) apart

-- to write the table that is there changes nothing
pub with_table_same : (tables : List NamedTable) (name : List ℕ) (table : Relation) → table_named tables name ≡ Some table → with_table tables name table ≡ tables
with_table_same [] name table e = refl
with_table_same (t ∷ tables) name table e = by (same_name t.name name) e (with_table_same tables name table)
  where
    by : (b : Bool) → cond b (Some t.table) (table_named tables name) ≡ Some table → (table_named tables name ≡ Some table → with_table tables name table ≡ tables) → cond b (record { name = t.name; table = table } ∷ tables) (t ∷ with_table tables name table) ≡ t ∷ tables
    by true h rest = ap (λ (o : Option Relation). elim o [ None ↦ t ∷ tables | Some w ↦ record { name = t.name; table = w } ∷ tables ]) (sym h)
    by false h rest = ap (λ us. t ∷ us) (rest h)
