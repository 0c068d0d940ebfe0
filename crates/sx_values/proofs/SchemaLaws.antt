-- What follows from a row that a schema admits: its width, and that its key is admitted.
use Rattle.std.proofs.Common.{◌≡◌, ◌<◌, ◌+◌, ◌==◌, ℕ, zero, suc, Bool, true, false, List, [], ◌∷◌, length, get_or, slice_get, Option, Some, None, All, refl, sym, ap, ◌∙◌, subst, arith, if◌then◌else◌, eqb-true, eq-eqb}
use Rattle.std.specs.List.{filter_map, cons_option}
use Rattle.std.proofs.lemmas.List.{length-map}
use Rattle.std.proofs.lemmas.List.Elements.{All-head, All-tail}
use Rattle.sx_lists.specs.Answers.{or_later}
use Rattle.sx_values.specs.declared.value.Value.{Value}
use Rattle.sx_values.specs.declared.value.Value.TheVariants.{Null, Int, Text}
use Rattle.sx_values.specs.declared.schema.Column.{Column}
use Rattle.sx_values.specs.declared.schema.BadRow.{BadRow}
use Rattle.sx_values.specs.declared.schema.BadRow.TheVariants as bad
use Rattle.sx_values.specs.Layouts.{Layout, IsLayout, Admits, AdmitsKey, key_of, projected, key_columns, values_fault, value_fault, first_fault, all_null_fault, is_int}

-- neither of two faults
record Neither {E : Type 0} (one other : Option E) : Type 0 where
  first : one ≡ None
  second : other ≡ None

neither : {E : Type 0} (one other : Option E) → or_later one other ≡ None → Neither one other
neither None other e = record { first = refl; second = e }
neither (Some f) other e = absurd (cc)

or_later-None : {E : Type 0} (one other : Option E) → one ≡ None → other ≡ None → or_later one other ≡ None
or_later-None None other p q = q
or_later-None (Some f) other p q = absurd (cc)

-- no fault of values: the width is right, and neither the values nor the key have one
record Faultless (columns : List Column) (values key : List Value) : Type 0 where
  width : length values ≡ length columns
  each : first_fault 1 columns values ≡ None
  some_key : all_null_fault key ≡ None

width_cases : (same : Bool) (rest : Option BadRow) → (if same then rest else Some bad.Width) ≡ None → (same ≡ true) × (rest ≡ None)
width_cases true rest e = (refl, e)
width_cases false rest e = absurd (cc)

faultless : (columns : List Column) (values key : List Value) → values_fault columns values key ≡ None → Faultless columns values key
faultless columns values key e =
    let w = width_cases (length values == length columns) (or_later (first_fault 1 columns values) (all_null_fault key)) e in
    let n = neither (first_fault 1 columns values) (all_null_fault key) w.1 in
    record { width = eqb-true (length values) (length columns) w.0; each = n.first; some_key = n.second }

values_fault-None : (columns : List Column) (values key : List Value) → Faultless columns values key → values_fault columns values key ≡ None
values_fault-None columns values key f =
    rw (eq-eqb (length values) (length columns) f.width) (or_later-None (first_fault 1 columns values) (all_null_fault key) f.each f.some_key)

-- an admitted row has as many values as its schema has columns
pub length-admitted : (layout : Layout) (row : List Value) → Admits layout row → length row ≡ length layout.columns
length-admitted layout row e = (faultless layout.columns row (key_of layout row) e).width

-- a row's key has as many values as the schema has key columns
pub length-key_of : (layout : Layout) (row : List Value) → length (key_of layout row) ≡ length layout.key
length-key_of layout row = length-map layout.key (λ place. get_or row place Null)

-- a place that is there gives its column
record Found (columns : List Column) (place : ℕ) : Type 0 where
  column : Column
  is : slice_get columns place ≡ Some column

found : (columns : List Column) (place : ℕ) → place < length columns → Found columns place
found [] place h = absurd (omega arith)
found (c ∷ columns) zero h = record { column = c; is = refl }
found (c ∷ columns) (suc place) h = let f = found columns place (omega arith) in record { column = f.column; is = f.is }

length-cons_found : (columns : List Column) (place : ℕ) (rest : List Column) (n : ℕ) → place < length columns → length rest ≡ n → length (cons_option (slice_get columns place) rest) ≡ suc n
length-cons_found columns place rest n h e = let f = found columns place h in rw f.is (ap suc e)

-- the columns at places that are there are as many as the places
pub length_columns_at : (columns : List Column) (places : List ℕ) → All (λ place. place < length columns) places → length (filter_map (slice_get columns) places) ≡ length places
length_columns_at columns [] h = refl
length_columns_at columns (place ∷ places) h =
    let within = All-head (λ p. p < length columns) place places h in
    let rest = length_columns_at columns places (All-tail (λ p. p < length columns) place places h) in
    length-cons_found columns place (filter_map (slice_get columns) places) (length places) within rest

pub length-key_columns : (layout : Layout) → IsLayout layout → length (key_columns layout) ≡ length layout.key
length-key_columns layout i = length_columns_at layout.columns layout.key i.within

-- an admitted key has as many values as the schema has key columns
pub length-admitted_key : (layout : Layout) (key : List Value) → IsLayout layout → AdmitsKey layout key → length key ≡ length layout.key
length-admitted_key layout key i e = (faultless (key_columns layout) key key e).width ∙ length-key_columns layout i

-- whether a value has a fault doesn't hang on its column's number
no_fault_if : (b : Bool) (f g : BadRow) → (if b then None else Some f) ≡ None → (if b then None else Some g) ≡ None
no_fault_if true f g e = refl
no_fault_if false f g e = absurd (cc)

no_fault_unless : (b : Bool) (f g : BadRow) → (if b then Some f else None) ≡ None → (if b then Some g else None) ≡ None
no_fault_unless true f g e = absurd (cc)
no_fault_unless false f g e = refl

value_fault_anywhere : (n m : ℕ) (column : Column) (value : Value) → value_fault n column value ≡ None → value_fault m column value ≡ None
value_fault_anywhere n m column Null e = no_fault_if column.nullable (bad.Null n) (bad.Null m) e
value_fault_anywhere n m column (Int i) e = no_fault_if (is_int column.kind) (bad.Kind n) (bad.Kind m) e
value_fault_anywhere n m column (Text t) e = no_fault_unless (is_int column.kind) (bad.Kind n) (bad.Kind m) e

-- each value has no fault where none has
value_fault_at : (n m : ℕ) (columns : List Column) (values : List Value) (place : ℕ) (column : Column) → first_fault n columns values ≡ None → place < length values → slice_get columns place ≡ Some column → value_fault m column (get_or values place Null) ≡ None
value_fault_at n m [] values place column e w s = absurd (cc)
value_fault_at n m (c ∷ columns) [] place column e w s = absurd (omega arith)
value_fault_at n m (c ∷ columns) (value ∷ values) zero column e w s =
    let same : c ≡ column = cc in
    let here = (neither (value_fault n c value) (first_fault (n + 1) columns values) e).first in
    subst (λ k. value_fault m k value ≡ None) same (value_fault_anywhere n m c value here)
value_fault_at n m (c ∷ columns) (value ∷ values) (suc place) column e w s =
    value_fault_at (n + 1) m columns values place column (neither (value_fault n c value) (first_fault (n + 1) columns values) e).second (omega arith) s

-- the values at places that are there have no fault in the columns there
first_fault_at : (m : ℕ) (columns : List Column) (values : List Value) (places : List ℕ) → All (λ place. place < length columns) places → length values ≡ length columns → first_fault 1 columns values ≡ None → first_fault m (filter_map (slice_get columns) places) (projected places values) ≡ None
first_fault_at m columns values [] h w e = refl
first_fault_at m columns values (place ∷ places) h w e =
    let within : place < length columns = All-head (λ p. p < length columns) place places h in
    let f = found columns place within in
    let here = value_fault_at 1 m columns values place f.column e (omega arith) f.is in
    let rest = first_fault_at (m + 1) columns values places (All-tail (λ p. p < length columns) place places h) w e in
    rw f.is (or_later-None (value_fault m f.column (get_or values place Null)) (first_fault (m + 1) (filter_map (slice_get columns) places) (projected places values)) here rest)

-- the key of an admitted row is admitted
pub admitted_key_of : (layout : Layout) (row : List Value) → IsLayout layout → Admits layout row → AdmitsKey layout (key_of layout row)
admitted_key_of layout row i e =
    let f = faultless layout.columns row (key_of layout row) e in
    values_fault-None (key_columns layout) (key_of layout row) (key_of layout row) (record {
      width = length-key_of layout row ∙ sym (length-key_columns layout i);
      each = first_fault_at 1 layout.columns row layout.key i.within f.width f.each;
      some_key = f.some_key;
    })

-- no value is at fault where there is none
pub first_fault_nil : (n : ℕ) (columns : List Column) → first_fault n columns [] ≡ None
first_fault_nil n [] = refl
first_fault_nil n (c ∷ columns) = refl
