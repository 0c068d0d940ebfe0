-- The tables of the image are the split of the copy's rows.
use Rattle.std.proofs.Common.{◌≡◌, ◌∷◌, [], List, Bool, true, false, not, map, filter, Option, Some, None, refl, sym, ap, ◌∙◌, subst, cond}
use Rattle.std.specs.List.{AllByRecursion}
use Rattle.std.specs.List.Sorted.{IsStrictlySortedBy}
use Rattle.std.proofs.lemmas.List.Elements.{recursion_from_All}
use Rattle.sx_values.specs.declared.value.Value.{Value}
use Rattle.sx_values.specs.Values.{values_cmp}
use Rattle.sx_values.specs.Layouts.{Layout, Admits, key_of}
use Rattle.sx_log.specs.State.{Stored}
use Rattle.sx_heap.specs.declared.seen.Seen.{Seen}
use Rattle.sx_heap.specs.declared.tables.NamedTable.{NamedTable}
use Rattle.sx_heap.specs.Relations.{Relation, IsRelation, IsRowOf, row_at, row_keys, same_key}
use Rattle.sx_heap.proofs.WalkLemmas.{AllAbove}
use Rattle.sx_heap.proofs.RowLemmas.{row_at-below, rows_unique, same_key_tells}
use Rattle.sx_ops.specs.Operators.{rows_passing, rows_failing}
use Rattle.sx_copy.specs.FreshTables.{bare_rows, fresh_table}
use Rattle.sx_part.specs.declared.parts.Parts.{Parts}
use Rattle.sx_part.specs.PartImages.{IsParted, AreTablesOf, passing_of, failing_of, belongs, schema_in}

-- the rows of which something is true
abbrev pub those : (List Value → Bool) → List Seen → List Seen
those true_of rows = filter (λ (s : Seen). true_of s.row) rows

-- a row of which it is true
abbrev pub only : (List Value → Bool) → Option Stored → Option Stored
only true_of None = None
only true_of (Some s) = cond (true_of s.0) (Some s) None

bare_those : (true_of : List Value → Bool) (rows : List Seen) → bare_rows (those true_of rows) ≡ filter true_of (bare_rows rows)
bare_those true_of [] = refl
bare_those true_of (s ∷ rows) = by (true_of s.row) (bare_those true_of rows)
  where
    by : (b : Bool) → bare_rows (those true_of rows) ≡ filter true_of (bare_rows rows) → bare_rows (cond b (s ∷ those true_of rows) (those true_of rows)) ≡ cond b (s.row ∷ filter true_of (bare_rows rows)) (filter true_of (bare_rows rows))
    by true h = ap (λ l. s.row ∷ l) h
    by false h = h

above_those : (true_of : List Value → Bool) (key : List Value) (rows : List Seen) → AllAbove key (row_keys rows) → AllAbove key (row_keys (those true_of rows))
above_those true_of key [] all = tt
above_those true_of key (s ∷ rows) all = by (true_of s.row) (above_those true_of key rows all.1)
  where
    by : (b : Bool) → AllAbove key (row_keys (those true_of rows)) → AllAbove key (row_keys (cond b (s ∷ those true_of rows) (those true_of rows)))
    by true rest = (all.0, rest)
    by false rest = rest

sorted_those : (true_of : List Value → Bool) (rows : List Seen) → IsStrictlySortedBy values_cmp (row_keys rows) → IsStrictlySortedBy values_cmp (row_keys (those true_of rows))
unfolding IsStrictlySortedBy
sorted_those true_of [] sorted = tt
sorted_those true_of (s ∷ rows) sorted = by (true_of s.row) (above_those true_of s.key rows sorted.0) (sorted_those true_of rows sorted.1)
  where
    by : (b : Bool) → AllAbove s.key (row_keys (those true_of rows)) → IsStrictlySortedBy values_cmp (row_keys (those true_of rows)) → IsStrictlySortedBy values_cmp (row_keys (cond b (s ∷ those true_of rows) (those true_of rows)))
    by true above rest = (above, rest)
    by false above rest = rest

-- what a key has among those rows
row_at-those : (true_of : List Value → Bool) (rows : List Seen) (key : List Value) → IsStrictlySortedBy values_cmp (row_keys rows) → row_at (those true_of rows) key ≡ only true_of (row_at rows key)
unfolding IsStrictlySortedBy
row_at-those true_of [] key sorted = refl
row_at-those true_of (s ∷ rows) key sorted = by (same_key key s.key) refl (true_of s.row) refl (row_at-those true_of rows key sorted.1)
  where
    by : (e : Bool) → same_key key s.key ≡ e → (b : Bool) → true_of s.row ≡ b → row_at (those true_of rows) key ≡ only true_of (row_at rows key)
        → row_at (cond b (s ∷ those true_of rows) (those true_of rows)) key ≡ only true_of (cond e (Some (s.row, s.lsn)) (row_at rows key))
    by true h true k rest = rw (h, k) refl
    by true h false k rest = ap (row_at (those true_of rows)) (same_key_tells key s.key h) ∙ row_at-below s.key (those true_of rows) (above_those true_of s.key rows sorted.0) ∙ rw k refl
    by false h true k rest = rw h rest
    by false h false k rest = rest

-- rows in key order that have what those of a list have are those of the list
pub those_alone : (true_of : List Value → Bool) (rows some : List Seen) → IsStrictlySortedBy values_cmp (row_keys rows) → IsStrictlySortedBy values_cmp (row_keys some) → ((key : List Value) → row_at some key ≡ only true_of (row_at rows key)) → bare_rows some ≡ filter true_of (bare_rows rows)
those_alone true_of rows some sorted sorted' has =
    ap bare_rows (rows_unique some (those true_of rows) sorted' (sorted_those true_of rows sorted) (λ key. has key ∙ sym (row_at-those true_of rows key sorted))) ∙ bare_those true_of rows

passing_only : (parts : Parts) (known : Option Stored) → passing_of parts known ≡ only (belongs parts) known
passing_only parts None = refl
passing_only parts (Some s) = refl

failing_only : (parts : Parts) (known : Option Stored) → failing_of parts known ≡ only (λ row. not (belongs parts row)) known
failing_only parts None = refl
failing_only parts (Some s) = by (belongs parts s.0)
  where
    by : (b : Bool) → cond b None (Some s) ≡ cond (not b) (Some s) None
    by true = refl
    by false = refl

-- both tables, made of the rows of the image
abbrev pub both : Parts → List NamedTable
both parts = record { name = parts.yes; table = fresh_table (schema_in parts) (bare_rows parts.passing.rows) } ∷ record { name = parts.no; table = fresh_table (schema_in parts) (bare_rows parts.failing.rows) } ∷ []

pub split_made : (parts : Parts) → IsParted parts → IsRelation parts.passing → IsRelation parts.failing → AreTablesOf parts (both parts)
split_made parts parted one other catalog spec rows made is has =
    rw (made.split, made.schema) (λ i. record { name = parts.yes; table = fresh_table (schema_in parts) (passing i) } ∷ record { name = parts.no; table = fresh_table (schema_in parts) (failing i) } ∷ [])
  where
    passing : bare_rows parts.passing.rows ≡ rows_passing (schema_in parts).columns parts.tests (bare_rows rows)
    passing = those_alone (belongs parts) rows parts.passing.rows is.sorted one.sorted (λ key. parted.passing key ∙ ap (passing_of parts) (has key) ∙ passing_only parts (row_at rows key))

    failing : bare_rows parts.failing.rows ≡ rows_failing (schema_in parts).columns parts.tests (bare_rows rows)
    failing = those_alone (λ row. not (belongs parts row)) rows parts.failing.rows is.sorted other.sorted (λ key. parted.failing key ∙ ap (failing_of parts) (has key) ∙ failing_only parts (row_at rows key))

-- the rows of a table are admitted, and in key order
pub admitted_rows : (layout : Layout) (rows : List Seen) → AllByRecursion (IsRowOf layout) rows → AllByRecursion (Admits layout) (bare_rows rows)
admitted_rows layout [] each = tt
admitted_rows layout (s ∷ rows) each = (each.0.admitted, admitted_rows layout rows each.1)

keys_of_rows : (layout : Layout) (rows : List Seen) → AllByRecursion (IsRowOf layout) rows → row_keys rows ≡ map (key_of layout) (bare_rows rows)
keys_of_rows layout [] each = refl
keys_of_rows layout (s ∷ rows) each =
    let first = each.0.keyed in
    let rest = keys_of_rows layout rows each.1 in
    λ i. first i ∷ rest i

pub admitted_in : (table : Relation) → IsRelation table → AllByRecursion (Admits table.schema) (bare_rows table.rows)
admitted_in table is = admitted_rows table.schema table.rows (recursion_from_All (IsRowOf table.schema) table.rows is.each)

pub sorted_in : (table : Relation) → IsRelation table → IsStrictlySortedBy values_cmp (map (key_of table.schema) (bare_rows table.rows))
sorted_in table is = subst (IsStrictlySortedBy values_cmp) (keys_of_rows table.schema table.rows (recursion_from_All (IsRowOf table.schema) table.rows is.each)) is.sorted
