-- A map that was made of rows in key order has them in that order.
use Rattle.std.proofs.Common.{◌≡◌, ◌∷◌, [], ℕ, List, None, refl, sym, ap, ◌∙◌, subst, map, option_map, All}
use Rattle.std.specs.Map.{lookup, keys_of, update_all}
use Rattle.std.specs.BTreeMap.{is_at}
use Rattle.std.specs.Ordering.{eq_by_cmp}
use Rattle.std.specs.List.{AllByRecursion}
use Rattle.std.specs.List.Sorted.{IsStrictlySortedBy}
use Rattle.std.proofs.lemmas.Cmp.{eq_by_cmp_equiv}
use Rattle.std.proofs.lemmas.List.Elements.{All-from_recursion}
use Rattle.std.proofs.lemmas.Map.Keys.{IsDistinct-from_sorted}
use Rattle.std.proofs.lemmas.Map.Made.{update_all_none}
use Rattle.sx_values.specs.declared.value.Value.{Value}
use Rattle.sx_values.specs.Values.{values_cmp}
use Rattle.sx_values.specs.Layouts.{Layout, Admits, key_of}
use Rattle.sx_heap.specs.declared.table.Stamped.{Stamped}
use Rattle.sx_heap.specs.Relations.{IsRowOf, row_at, seen_under}
use Rattle.sx_heap.specs.Entries.{rows_of, entry_under}
use Rattle.sx_heap.proofs.EntryLemmas.{image_of, row_at-rows_of, sorted-rows_of}
use Rattle.sx_heap.proofs.RowLemmas.{rows_unique}
use Rattle.sx_heap.proofs.WalkLemmas.{values_total}

abbrev all_entries : Layout → ℕ → List (List Value) → List (List Value × Stamped)
all_entries layout lsn rows = map (entry_under layout lsn) rows

keys_under : (layout : Layout) (lsn : ℕ) (rows : List (List Value)) → keys_of (all_entries layout lsn rows) ≡ map (key_of layout) rows
keys_under layout lsn [] = refl
keys_under layout lsn (row ∷ rows) = ap (λ keys. key_of layout row ∷ keys) (keys_under layout lsn rows)

seen_all : (layout : Layout) (lsn : ℕ) (rows : List (List Value)) → rows_of (all_entries layout lsn rows) ≡ map (seen_under layout lsn) rows
seen_all layout lsn [] = refl
seen_all layout lsn (row ∷ rows) = ap (λ all. seen_under layout lsn row ∷ all) (seen_all layout lsn rows)

-- what a map was made of in strict key order, it has in that order
pub made_in_order : (layout : Layout) (lsn : ℕ) (rows : List (List Value)) (es : List (List Value × Stamped)) → IsStrictlySortedBy values_cmp (map (key_of layout) rows) → IsStrictlySortedBy values_cmp (keys_of es)
    → ((q : List Value) → lookup (is_at (values_cmp q)) es ≡ update_all (eq_by_cmp values_cmp) (λ _. None) (all_entries layout lsn rows) q) → rows_of es ≡ map (seen_under layout lsn) rows
made_in_order layout lsn rows es in_order ordered made =
    rows_unique (rows_of es) (rows_of all) (sorted-rows_of es ordered) (sorted-rows_of all sorted) alike ∙ seen_all layout lsn rows
  where
    all : List (List Value × Stamped)
    all = all_entries layout lsn rows

    sorted : IsStrictlySortedBy values_cmp (keys_of all)
    sorted = subst (IsStrictlySortedBy values_cmp) (sym (keys_under layout lsn rows)) in_order

    alike : (key : List Value) → row_at (rows_of es) key ≡ row_at (rows_of all) key
    alike key =
        row_at-rows_of es key
        ∙ ap (option_map image_of) (made key ∙ update_all_none (eq_by_cmp_equiv values_total) (eq_by_cmp values_cmp) (λ x y. refl) all key (IsDistinct-from_sorted values_cmp (keys_of all) sorted))
        ∙ sym (row_at-rows_of all key)

each_by_recursion : (layout : Layout) (lsn : ℕ) (rows : List (List Value)) → AllByRecursion (Admits layout) rows → AllByRecursion (IsRowOf layout) (map (seen_under layout lsn) rows)
each_by_recursion layout lsn [] each = tt
each_by_recursion layout lsn (row ∷ rows) each = (record { admitted = each.0; keyed = refl }, each_by_recursion layout lsn rows each.1)

-- and each is a row of the schema that admits it
pub each_under : (layout : Layout) (lsn : ℕ) (rows : List (List Value)) → AllByRecursion (Admits layout) rows → All (IsRowOf layout) (map (seen_under layout lsn) rows)
each_under layout lsn rows each = All-from_recursion (IsRowOf layout) (map (seen_under layout lsn) rows) (each_by_recursion layout lsn rows each)
