-- Tests of the items of a list that is made from another.
use Rattle.std.proofs.Common.{◌≡◌, ◌||◌, ◌+◌, ◌<◌, ℕ, suc, Bool, true, false, List, [], ◌∷◌, length, map, get_or, take, drop, slice_get, Option, option_map, Some, refl, sym, ap, ◌∙◌, if◌then◌else◌, drop-cons, add-one}
use Rattle.std.specs.List.{list_any}
use Rattle.std.proofs.lemmas.List.{take_more, take-map, get_or-map, length-map}
use Rattle.std.proofs.lemmas.Option.{slice_get-map, slice_get_read}
use Rattle.sx_values.specs.declared.schema.Column.{Column}
use Rattle.sx_values.specs.Names.{has_name, repeated_after}
use Rattle.sx_values.specs.SchemaFaults.{names_of}

pub list_any-map : {X Y : Type 0} (p : Y → Bool) (h : X → Y) (xs : List X) → list_any p (map h xs) ≡ list_any (λ x. p (h x)) xs
list_any-map p h [] = refl
list_any-map p h (x ∷ xs) = ap (λ t. p (h x) || t) (list_any-map p h xs)

-- one more name is looked at
repeated_after_more : (names : List (List ℕ)) (i : ℕ) (name : List ℕ) → i < length names → get_or names i name ≡ name → repeated_after (take i names) (drop i names) ≡ (if has_name (take i names) name then Some name else repeated_after (take (i + 1) names) (drop (i + 1) names))
repeated_after_more names i name within is =
    let front = take_more names i name within in
    let back = drop-cons names i name within in
    let shape : drop i names ≡ name ∷ drop (i + 1) names = rw add-one (back ∙ ap (λ n. n ∷ drop (suc i) names) is) in
    rw shape (rw front (rw is refl))

-- a column as a loop reads it, and whether its name stands among those of the columns before it
pub record Reads (columns front : List Column) (i : ℕ) (column : Column) (is_there : Bool) : Type 0 where
  pub within : i < length columns
  pub is : column ≡ get_or columns i column
  pub front_is : front ≡ take i columns
  pub test : is_there ≡ has_name (names_of front) column.name

-- the look at the columns before it, as a look at their names
step_of_reads : (columns front : List Column) (i : ℕ) (column : Column) (is_there : Bool) → Reads columns front i column is_there → repeated_after (take i (names_of columns)) (drop i (names_of columns)) ≡ (if is_there then Some column.name else repeated_after (take (i + 1) (names_of columns)) (drop (i + 1) (names_of columns)))
step_of_reads columns front i column is_there r =
    let name_of = (λ (c : Column). c.name) in
    let within : i < length (names_of columns) = rw (length-map columns name_of) r.within in
    let is : get_or (names_of columns) i column.name ≡ column.name = get_or-map name_of columns i column column.name r.within ∙ ap name_of (sym r.is) in
    let test : is_there ≡ has_name (take i (names_of columns)) column.name = rw (take-map name_of i columns) (rw (← r.front_is) r.test) in
    rw test (repeated_after_more (names_of columns) i column.name within is)

-- the names before it differ, and the column's name is the one that is found
pub repeated_found : (columns front : List Column) (i : ℕ) (column : Column) (whole : Option (List ℕ)) → Reads columns front i column true → repeated_after (take i (names_of columns)) (drop i (names_of columns)) ≡ whole → slice_get (names_of columns) i ≡ whole
repeated_found columns front i column whole r so_far =
    let name_of = (λ (c : Column). c.name) in
    let at : slice_get (names_of columns) i ≡ Some column.name = slice_get-map name_of columns i ∙ ap (option_map name_of) (slice_get_read columns (length columns) i column refl r.within r.is) in
    at ∙ sym (step_of_reads columns front i column true r) ∙ so_far

-- the column's name differs from those before it too
pub repeated_further : (columns front : List Column) (i : ℕ) (column : Column) (whole : Option (List ℕ)) → Reads columns front i column false → repeated_after (take i (names_of columns)) (drop i (names_of columns)) ≡ whole → repeated_after (take (i + 1) (names_of columns)) (drop (i + 1) (names_of columns)) ≡ whole
repeated_further columns front i column whole r so_far = sym (step_of_reads columns front i column false r) ∙ so_far
