-- The rows that a log leaves in a table as one list: they fit the table, and the records on other tables leave them.
use Rattle.std.proofs.Common.{◌≡◌, if◌then◌else◌, ◌∷◌, [], ℕ, List, map, true, false, not, Option, Some, None, IsSomeAnd, refl, ap, ◌∙◌, subst}
use Rattle.std.specs.Ordering.{is_lt, is_gt}
use Rattle.std.specs.List.{AllByRecursion}
use Rattle.sx_values.specs.declared.value.Value.{Value}
use Rattle.sx_values.specs.Names.{same_name, has_name}
use Rattle.sx_values.specs.Values.{values_cmp, values_eq}
use Rattle.sx_values.specs.Layouts.{Layout, Admits}
use Rattle.sx_values.proofs.KeyLaws.{same_name_tells}
use Rattle.sx_log.specs.declared.record.Rec.{Rec}
use Rattle.sx_log.specs.declared.record.Body.{Body}
use Rattle.sx_log.specs.declared.record.Body.TheVariants.{Write, Undo, Commit, Abort, Mark, Check, Switch}
use Rattle.sx_log.specs.Images.{FitsImage, FitsImages, FitsTables}
use Rattle.sx_log.specs.Rows.{Keyed, with_image, rows_after, rows_left}
use Rattle.sx_ops.specs.declared.spec.Spec.{Spec}
use Rattle.sx_ops.specs.Operators.{sources_of, operator}
use Rattle.sx_values.specs.declared.catalog.Declared.{Declared}
use Rattle.sx_model.specs.NewRows.{rows_of, given}
use Rattle.sx_model.specs.Switches.{is_on}
use Rattle.sx_model.proofs.AllLaws.{all_filter, all_append, all_images}
use Rattle.sx_model.proofs.TestLaws.{by_cases, passed, or_false_first, or_false_second}
use Rattle.sx_model.proofs.ImageLaws.{AllFit}

-- a row with its key, as its table admits it
abbrev pub IsFit : Layout → Keyed → Type 0
IsFit layout k = FitsImage layout k.key (Some k.row)

image_fits : (layout : Layout) (key : List Value) (image : Option (List Value)) (rows : List Keyed) → FitsImage layout key image → AllByRecursion (IsFit layout) rows → AllByRecursion (IsFit layout) (with_image key image rows)
image_fits layout key None rows fit all = all_filter (IsFit layout) (λ (k : Keyed). not (values_eq k.key key)) rows all
image_fits layout key (Some row) rows fit all =
    all_append (IsFit layout) _ _ (all_filter (IsFit layout) (λ (k : Keyed). is_lt (values_cmp k.key key)) rows all) (fit, all_filter (IsFit layout) (λ (k : Keyed). is_gt (values_cmp k.key key)) rows all)

-- the image after of a change of this table
after_fits : (schema : List ℕ → Option Layout) (layout : Layout) (table written : List ℕ) (key : List Value) (before after : Option (List Value)) → schema table ≡ Some layout → same_name written table ≡ true → IsSomeAnd (schema written) (λ l. FitsImages l key before after) → FitsImage layout key after
after_fits schema layout table written key before after is same fits =
    (subst (λ o. IsSomeAnd o (λ l. FitsImages l key before after)) is (subst (λ n. IsSomeAnd (schema n) (λ l. FitsImages l key before after)) (same_name_tells written table same) fits)).1

changed_rows : (schema : List ℕ → Option Layout) (layout : Layout) (table written : List ℕ) (key : List Value) (before after : Option (List Value)) (rows : List Keyed) → schema table ≡ Some layout → IsSomeAnd (schema written) (λ l. FitsImages l key before after) → AllByRecursion (IsFit layout) rows
    → AllByRecursion (IsFit layout) (if same_name written table then with_image key after rows else rows)
changed_rows schema layout table written key before after rows is fits all = by_cases (same_name written table)
    (λ t. rw t (image_fits layout key after rows (after_fits schema layout table written key before after is t fits) all))
    (λ f. rw f all)

body_rows : (schema : List ℕ → Option Layout) (layout : Layout) (table : List ℕ) (body : Body) (rows : List Keyed) → schema table ≡ Some layout → FitsTables schema body → AllByRecursion (IsFit layout) rows → AllByRecursion (IsFit layout) (rows_after table body rows)
unfolding FitsTables rows_after
body_rows schema layout table (Write written key before after) rows is fits all = changed_rows schema layout table written key before after rows is fits all
body_rows schema layout table (Undo undoes written key before after) rows is fits all = changed_rows schema layout table written key before after rows is fits all
body_rows schema layout table Commit rows is fits all = all
body_rows schema layout table Abort rows is fits all = all
body_rows schema layout table Mark rows is fits all = all
body_rows schema layout table (Check group dep) rows is fits all = all
body_rows schema layout table Switch rows is fits all = all

-- the rows that a log of records that fit leaves
pub listed_fit : (schema : List ℕ → Option Layout) (layout : Layout) (log : List Rec) (table : List ℕ) → AllFit schema log → schema table ≡ Some layout → AllByRecursion (IsFit layout) (rows_left log table)
listed_fit schema layout [] table all is = tt
listed_fit schema layout (r ∷ log) table all is = body_rows schema layout table r.body (rows_left log table) is all.0 (listed_fit schema layout log table all.1 is)

pub rows_admitted : (schema : List ℕ → Option Layout) (layout : Layout) (log : List Rec) (table : List ℕ) → AllFit schema log → schema table ≡ Some layout → AllByRecursion (Admits layout) (rows_of log table)
rows_admitted schema layout log table all is = all_images (IsFit layout) (Admits layout) (λ (k : Keyed). k.row) (λ k fit. fit.0) (rows_left log table) (listed_fit schema layout log table all is)

-- a record on another table leaves the rows of this one
written_elsewhere : (written table : List ℕ) (key : List Value) (after : Option (List Value)) (rows : List Keyed) → same_name written table ≡ false → (if same_name written table then with_image key after rows else rows) ≡ rows
written_elsewhere written table key after rows away = passed (same_name written table) (with_image key after rows) rows away

rows_kept : (table : List ℕ) (body : Body) (rows : List Keyed) → is_on (table ∷ []) body ≡ false → rows_after table body rows ≡ rows
unfolding rows_after is_on
rows_kept table (Write written key before after) rows away = written_elsewhere written table key after rows (or_false_first (same_name written table) false away)
rows_kept table (Undo undoes written key before after) rows away = written_elsewhere written table key after rows (or_false_first (same_name written table) false away)
rows_kept table Commit rows away = refl
rows_kept table Abort rows away = refl
rows_kept table Mark rows away = refl
rows_kept table (Check group dep) rows away = refl
rows_kept table Switch rows away = refl

-- a record on none of several tables
on_first : (table : List ℕ) (tables : List (List ℕ)) (body : Body) → is_on (table ∷ tables) body ≡ false → is_on (table ∷ []) body ≡ false
unfolding is_on
on_first table tables (Write written key before after) away = rw (or_false_first (same_name written table) (has_name tables written) away) refl
on_first table tables (Undo undoes written key before after) away = rw (or_false_first (same_name written table) (has_name tables written) away) refl
on_first table tables Commit away = refl
on_first table tables Abort away = refl
on_first table tables Mark away = refl
on_first table tables (Check group dep) away = refl
on_first table tables Switch away = refl

on_rest : (table : List ℕ) (tables : List (List ℕ)) (body : Body) → is_on (table ∷ tables) body ≡ false → is_on tables body ≡ false
unfolding is_on
on_rest table tables (Write written key before after) away = or_false_second (same_name written table) (has_name tables written) away
on_rest table tables (Undo undoes written key before after) away = or_false_second (same_name written table) (has_name tables written) away
on_rest table tables Commit away = refl
on_rest table tables Abort away = refl
on_rest table tables Mark away = refl
on_rest table tables (Check group dep) away = refl
on_rest table tables Switch away = refl

lists_kept : (r : Rec) (log : List Rec) (tables : List (List ℕ)) → is_on tables r.body ≡ false → map (rows_of (r ∷ log)) tables ≡ map (rows_of log) tables
lists_kept r log [] away = refl
lists_kept r log (table ∷ tables) away =
    ap (λ (rows : List Keyed). map (λ (k : Keyed). k.row) rows ∷ map (rows_of (r ∷ log)) tables) (rows_kept table r.body (rows_left log table) (on_first table tables r.body away))
    ∙ ap (λ lists. rows_of log table ∷ lists) (lists_kept r log tables (on_rest table tables r.body away))

-- so it leaves what a transformation gives on others
pub given_kept : (catalog : List Declared) (r : Rec) (log : List Rec) (spec : Spec) → is_on (sources_of spec) r.body ≡ false → given catalog (r ∷ log) spec ≡ given catalog log spec
given_kept catalog r log spec away = ap (operator catalog spec) (lists_kept r log (sources_of spec) away)
