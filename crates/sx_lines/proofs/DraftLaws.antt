-- Columns so far, with one more.
use Rattle.std.proofs.Common.{◌≡◌, ◌≤◌, ◌<◌, ◌++◌, ℕ, false, List, [], ◌∷◌, length, Option, Some, None, option_map, option_and_then, nat_eq, refl, ap, arith}
use Rattle.std.specs.List.{AllByRecursion, IsDistinct}
use Rattle.std.proofs.lemmas.Bool.Decides.{nat_tests}
use Rattle.std.proofs.lemmas.List.{length-append}
use Rattle.std.proofs.lemmas.List.Elements.{All-push, recursion_from_All}
use Rattle.sx_values.specs.Layouts.{Layout}
use Rattle.sx_values.specs.declared.schema.Column.{Column}
use Rattle.sx_lines.specs.declared.columns.Keyed.{Keyed}
use Rattle.sx_lines.specs.Lines.{parted, words}
use Rattle.sx_lines.specs.Columns.{IsDraft, no_columns, with_column, layout_over, column_in}
use Rattle.sx_lines.proofs.PartLaws.{words_parted, words_whole}

all_push : {X : Type 0} (P : X → Type 0) (xs : List X) (x : X) → AllByRecursion P xs → P x → AllByRecursion P (xs ++ x ∷ [])
all_push P [] x h p = (p, tt)
all_push P (y ∷ ys) x h p = (h.0, all_push P ys x h.1 p)

apart_push : (ks : List ℕ) (n : ℕ) → AllByRecursion (λ k. k < n) ks → IsDistinct nat_eq ks → IsDistinct nat_eq (ks ++ n ∷ [])
unfolding IsDistinct
apart_push [] n h d = (tt, tt)
apart_push (k ∷ ks) n h d = let less : k < n = h.0 in (all_push (λ y. nat_eq k y ≡ false) ks n d.0 (grind (arith, nat_tests)), apart_push ks n h.1 d.1)

pub no_columns_are : IsDraft no_columns
unfolding IsDistinct
no_columns_are = record {
  within = λ k d h. absurd (omega (arith, h));
  distinct = tt;
  short_names = λ k d h. absurd (omega (arith, h));
}

pub draft_longer : (columns : List Column) (key : List ℕ) (column : Column) → length column.name ≤ 16 → IsDraft (record { columns = columns; key = key }) → IsDraft (record { columns = columns ++ column ∷ []; key = key })
draft_longer columns key column short draft = record {
  within = λ k d h. omega (arith, draft.within k d h, length-append columns (column ∷ []));
  distinct = draft.distinct;
  short_names = All-push (λ (c : Column). length c.name ≤ 30) columns column draft.short_names (omega arith);
}

pub draft_key : (columns : List Column) (key : List ℕ) (column : Column) → length column.name ≤ 16 → IsDraft (record { columns = columns; key = key }) → IsDraft (record { columns = columns ++ column ∷ []; key = key ++ length columns ∷ [] })
draft_key columns key column short draft =
    let longer = draft_longer columns key column short draft in
    record {
      within = All-push (λ place. place < length (columns ++ column ∷ [])) key (length columns) longer.within (omega (arith, length-append columns (column ∷ [])));
      distinct = apart_push key (length columns) (recursion_from_All (λ place. place < length columns) key draft.within) draft.distinct;
      short_names = longer.short_names;
    }

over_some : (draft longer : Layout) (found : Option Keyed) (more : List (List ℕ)) → Some longer ≡ option_map (with_column draft) found → option_and_then (λ keyed. layout_over (with_column draft keyed) more) found ≡ layout_over longer more
over_some draft longer None more e = absurd (cc)
over_some draft longer (Some keyed) more e = let same : with_column draft keyed ≡ longer = cc in ap (λ l. layout_over l more) same

over_none : (draft : Layout) (found : Option Keyed) (more : List (List ℕ)) → None ≡ option_map (with_column draft) found → option_and_then (λ keyed. layout_over (with_column draft keyed) more) found ≡ None
over_none draft None more e = refl
over_none draft (Some keyed) more e = absurd (cc)

over_last : (draft : Layout) (found : Option Keyed) → option_and_then (λ keyed. layout_over (with_column draft keyed) []) found ≡ option_map (with_column draft) found
over_last draft None = refl
over_last draft (Some keyed) = refl

-- a word shows a further column
pub further_word : (draft longer : Layout) (text word more : List ℕ) → parted 32 text ≡ Some (word, more) → Some longer ≡ option_map (with_column draft) (column_in word) → layout_over draft (words text) ≡ layout_over longer (words more)
further_word draft longer text word more p e = rw (words_parted text word more p) (over_some draft longer (column_in word) (words more) e)

-- a word shows no column
pub no_word : (draft : Layout) (text word more : List ℕ) → parted 32 text ≡ Some (word, more) → None ≡ option_map (with_column draft) (column_in word) → layout_over draft (words text) ≡ None
no_word draft text word more p e = rw (words_parted text word more p) (over_none draft (column_in word) (words more) e)

-- the last word
pub last_word : (draft : Layout) (text : List ℕ) → parted 32 text ≡ None → layout_over draft (words text) ≡ option_map (with_column draft) (column_in text)
last_word draft text p = rw (words_whole text p) (over_last draft (column_in text))
