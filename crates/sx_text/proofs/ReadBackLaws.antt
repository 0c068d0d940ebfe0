-- Values that are shown by a record are read from it, and the record is printable.
use Rattle.std.proofs.Common.{◌≡◌, ◌<◌, ◌+◌, ◌==◌, ◌&&◌, ◌++◌, ◌^◌, ℕ, suc, Bool, true, false, not, nat_lt, nat_le, List, [], ◌∷◌, length, map, option_map, Option, Some, None, Result, Ok, Err, refl, sym, ap, ◌∙◌, subst, arith, inl, inr, eq-eqb, eqb-true, if◌then◌else◌}
use Rattle.std.specs.Prelude.{ℤ, pos, negsuc}
use Rattle.std.specs.List.{list_all, list_any}
use Rattle.std.specs.Fmt.{decimal, signed_decimal}
use Rattle.std.specs.Cmp.Lexicographic.{pointwise}
use Rattle.std.proofs.lemmas.Bool.Decides.{nat_tests}
use Rattle.std.proofs.lemmas.Bool.{cases_Bool}
use Rattle.std.proofs.lemmas.List.{length-map}
use Rattle.std.proofs.lemmas.List.Folds.{list_all-append}
use Rattle.csv.specs.Writing.{default_writer, escaped, field_text, fields_text, is_blank, needs_byte, row_body}
use Rattle.sx_lists.specs.Answers.{or_later}
use Rattle.sx_values.specs.Texts.{is_digit, is_printable, is_text, null_word}
use Rattle.sx_values.specs.Layouts.{Layout, IsLayout, Admits, AdmitsKey, first_fault, all_null_fault, is_int, key_columns, key_of, value_fault, values_fault}
use Rattle.sx_values.specs.declared.value.Value.{Value}
use Rattle.sx_values.specs.declared.value.Value.TheVariants.{Null, Int, Text}
use Rattle.sx_values.specs.declared.schema.Kind.{Kind}
use Rattle.sx_values.specs.declared.schema.Kind.TheVariants as kind
use Rattle.sx_values.specs.declared.schema.Column.{Column}
use Rattle.sx_values.specs.declared.schema.BadRow.TheVariants as bad
use Rattle.sx_values.proofs.SchemaLaws.{length-key_columns}
use Rattle.sx_text.specs.Numbers.{int_of}
use Rattle.sx_text.specs.Records.{are_values, field_of, is_int64, is_value, record_fields, record_of, record_text}
use Rattle.sx_text.specs.declared.fault.FieldFault.{FieldFault}
use Rattle.sx_text.specs.declared.fault.FieldFault.TheVariants as fault
use Rattle.sx_text.specs.Reading.{fields_read, key_read, kinds_of, plain_value, row_read, value_before, value_of, values_from}
use Rattle.sx_text.proofs.DecimalLaws.{digits_of_decimal, int_of-signed, signed-int_of}
use Rattle.sx_text.proofs.RoundLaws.{AllInner, Inner, record_fields-record_of}

and_left : (a b : Bool) → (a && b) ≡ true → (a ≡ true) × (b ≡ true)
and_left true true e = (refl, refl)
and_left true false e = absurd (cc)
and_left false b e = absurd (cc)

and_both : (a b : Bool) → a ≡ true → b ≡ true → (a && b) ≡ true
and_both true true p q = refl
and_both true false p q = q
and_both false b p q = p

-- ---- printable bytes

abbrev Printable : List ℕ → Type 0
Printable bytes = list_all is_printable bytes ≡ true

printable_append : (xs ys : List ℕ) → Printable xs → Printable ys → Printable (xs ++ ys)
printable_append xs ys p q = list_all-append is_printable xs ys ∙ and_both (list_all is_printable xs) (list_all is_printable ys) p q

digit_printable : (b : ℕ) → is_digit b ≡ true → is_printable b ≡ true
digit_printable b e =
    let p = and_left (nat_le 48 b) (nat_le b 57) e in
    let low = p.0 in
    let high = p.1 in
    and_both (nat_le 0x20 b) (nat_le b 0x7E) (grind (arith, nat_tests)) (grind (arith, nat_tests))

digits_printable : (ds : List ℕ) → list_all is_digit ds ≡ true → Printable ds
digits_printable [] e = refl
digits_printable (b ∷ rest) e =
    let p = and_left (is_digit b) (list_all is_digit rest) e in
    and_both (is_printable b) (list_all is_printable rest) (digit_printable b p.0) (digits_printable rest p.1)

int_small : (n : ℕ) → nat_lt n 0x8000_0000_0000_0000 ≡ true → n < 2 ^ 63
int_small n e = grind (arith, nat_tests)

int_printable : (z : ℤ) → is_int64 z ≡ true → Printable (signed_decimal z)
int_printable (pos n) e = let s = int_small n e in digits_printable (decimal n) (digits_of_decimal n (omega arith))
int_printable (negsuc n) e = let s = int_small n e in and_both (is_printable 45) (list_all is_printable (decimal (suc n))) refl (digits_printable (decimal (suc n)) (digits_of_decimal (suc n) (omega arith)))

text_parts : (bytes : List ℕ) → is_text bytes ≡ true → (Printable bytes) × (pointwise ◌==◌ bytes null_word ≡ false)
text_parts bytes e = by (nat_le (length bytes) 64) (list_all is_printable bytes) (pointwise ◌==◌ bytes null_word) e
  where
    by : (a b c : Bool) → (a && b && not c) ≡ true → (b ≡ true) × (c ≡ false)
    by true true true f = absurd (cc)
    by true true false f = (refl, refl)
    by true false c f = absurd (cc)
    by false b c f = absurd (cc)

field_printable : (value : Value) → is_value value ≡ true → Printable (field_of value)
field_printable Null e = refl
field_printable (Int z) e = int_printable z e
field_printable (Text t) e = (text_parts t e).0

escaped_printable : (field : List ℕ) → Printable field → Printable (escaped default_writer field)
unfolding escaped
escaped_printable [] e = refl
escaped_printable (b ∷ rest) e =
    let p = and_left (is_printable b) (list_all is_printable rest) e in
    let more = escaped_printable rest p.1 in
    elim (cases_Bool (b == 34)) [
      | inl quote ↦ rw (quote, p.0) more
      | inr other ↦ rw (other, p.0) more
    ]

field_text_printable : (field : List ℕ) → Printable field → Printable (field_text default_writer field)
field_text_printable field e = elim (cases_Bool (list_any (needs_byte default_writer) field)) [
  | inl needs ↦ rw needs (printable_append (escaped default_writer field) (34 ∷ []) (escaped_printable field e) refl)
  | inr plain ↦ rw plain e
]

abbrev AllPrintable : List (List ℕ) → Type 0
AllPrintable [] = Unit {0}
AllPrintable (field ∷ fields) = Printable field × AllPrintable fields

fields_text_printable : (fields : List (List ℕ)) → AllPrintable fields → Printable (fields_text default_writer fields)
unfolding fields_text
fields_text_printable [] p = refl
fields_text_printable (field ∷ fields) p = printable_append (field_text default_writer field) (fields_text default_writer fields) (field_text_printable field p.0) (fields_text_printable fields p.1)

body_printable : (fields : List (List ℕ)) → AllPrintable fields → Printable (row_body default_writer fields)
body_printable [] p = refl
body_printable (field ∷ fields) p = printable_append (field_text default_writer field) (fields_text default_writer fields) (field_text_printable field p.0) (fields_text_printable fields p.1)

quotes_printable : (t : Bool) → Printable (if t then 34 ∷ 34 ∷ [] else [])
quotes_printable true = refl
quotes_printable false = refl

record_printable : (fields : List (List ℕ)) → AllPrintable fields → Printable (record_of fields)
record_printable fields p = printable_append (row_body default_writer fields) (if is_blank default_writer fields then 34 ∷ 34 ∷ [] else []) (body_printable fields p) (quotes_printable (is_blank default_writer fields))

all_fields_printable : (values : List Value) → are_values values ≡ true → AllPrintable (map field_of values)
all_fields_printable [] e = tt
all_fields_printable (value ∷ values) e =
    let p = and_left (is_value value) (are_values values) e in
    (field_printable value p.0, all_fields_printable values p.1)

-- the record that shows values is printable
pub printable_record_text : (values : List Value) → are_values values ≡ true → list_all is_printable (record_text values) ≡ true
printable_record_text values e = record_printable (map field_of values) (all_fields_printable values e)

inner : (b : ℕ) → is_printable b ≡ true → Inner b
inner b e =
    let p = and_left (nat_le 0x20 b) (nat_le b 0x7E) e in
    let low = p.0 in
    record { return = grind (arith, nat_tests); feed = grind (arith, nat_tests) }

all_inner : (bytes : List ℕ) → Printable bytes → AllInner bytes
all_inner [] e = tt
all_inner (b ∷ rest) e =
    let p = and_left (is_printable b) (list_all is_printable rest) e in
    (inner b p.0, all_inner rest p.1)

-- ---- values

-- a number's text is not the word for Null
digits_no_null : (bytes : List ℕ) → list_all is_digit bytes ≡ true → pointwise ◌==◌ bytes null_word ≡ false
digits_no_null [] e = refl
digits_no_null (b ∷ rest) e =
    let p = and_left (is_digit b) (list_all is_digit rest) e in
    let q = and_left (nat_le 48 b) (nat_le b 57) p.0 in
    let high = q.1 in
    let other : (b == 78) ≡ false = grind (arith, nat_tests) in
    rw other refl

int_no_null : (z : ℤ) → is_int64 z ≡ true → pointwise ◌==◌ (signed_decimal z) null_word ≡ false
int_no_null (pos n) e = let s = int_small n e in digits_no_null (decimal n) (digits_of_decimal n (omega arith))
int_no_null (negsuc n) e = refl

-- a value that a column takes is read from its field
value_of-field_of : (number : ℕ) (column : Column) (value : Value) → is_value value ≡ true → value_fault number column value ≡ None → value_of column.kind (field_of value) ≡ Some value
value_of-field_of number column Null e fault = refl
value_of-field_of number column (Int z) e fault = rw (int_no_null z e) (by column.kind fault)
  where
    by : (k : Kind) → (if is_int k then None else Some (bad.Kind number)) ≡ None → plain_value k (signed_decimal z) ≡ Some (Int z)
    by kind.Int f = ap (option_map Int) (int_of-signed z e)
    by kind.Text f = absurd (cc)
value_of-field_of number column (Text t) e fault = rw (text_parts t e).1 (by column.kind fault)
  where
    by : (k : Kind) → (if is_int k then Some (bad.Kind number) else None) ≡ None → plain_value k t ≡ Some (Text t)
    by kind.Int f = absurd (cc)
    by kind.Text f = rw e refl

neither : {E : Type 0} (one other : Option E) → or_later one other ≡ None → (one ≡ None) × (other ≡ None)
neither None other e = (refl, e)
neither (Some f) other e = absurd (cc)

values_from-fields : (number : ℕ) (columns : List Column) (values : List Value) → length values ≡ length columns → are_values values ≡ true → first_fault number columns values ≡ None
    → values_from number (kinds_of columns) (map field_of values) ≡ Ok values
values_from-fields number [] [] width e fault = refl
values_from-fields number [] (value ∷ values) width e fault = absurd (omega arith)
values_from-fields number (column ∷ columns) [] width e fault = absurd (omega arith)
values_from-fields number (column ∷ columns) (value ∷ values) width e fault =
    let p = and_left (is_value value) (are_values values) e in
    let n = neither (value_fault number column value) (first_fault (number + 1) columns values) fault in
    rw (value_of-field_of number column value p.0 n.0, values_from-fields (number + 1) columns values (omega arith) p.1 n.1) refl

-- no fault of values: the width is right, and none is at fault
record Faultless (columns : List Column) (values : List Value) : Type 0 where
  width : length values ≡ length columns
  each : first_fault 1 columns values ≡ None

faultless : (columns : List Column) (values key : List Value) → values_fault columns values key ≡ None → Faultless columns values
faultless columns values key e = by (length values == length columns) refl e
  where
    by : (t : Bool) → (length values == length columns) ≡ t → (if t then or_later (first_fault 1 columns values) (all_null_fault key) else Some bad.Width) ≡ None → Faultless columns values
    by true d f = record { width = eqb-true (length values) (length columns) d; each = (neither (first_fault 1 columns values) (all_null_fault key) f).0 }
    by false d f = absurd (cc)

fields_read-fields : (columns : List Column) (values : List Value) → are_values values ≡ true → Faultless columns values → fields_read (kinds_of columns) (map field_of values) ≡ Ok values
fields_read-fields columns values e f =
    let width : (length (map field_of values) == length (kinds_of columns)) ≡ true =
    eq-eqb (length (map field_of values)) (length (kinds_of columns)) (length-map values field_of ∙ f.width ∙ sym (length-map columns (λ (c : Column). c.kind))) in
    rw width (values_from-fields 1 columns values f.width e f.each)

-- values that columns take are read from the record that shows them
read_back : (columns : List Column) (values key : List Value) → 0 < length columns → are_values values ≡ true → values_fault columns values key ≡ None
    → fields_read (kinds_of columns) (record_fields (record_text values)) ≡ Ok values
read_back columns [] key some e fault = absurd (let f = faultless columns [] key fault in let w = f.width in omega arith)
read_back columns (value ∷ values) key some e fault =
    let f = faultless columns (value ∷ values) key fault in
    let whole = record_fields-record_of (field_of value) (map field_of values) (all_inner (record_text (value ∷ values)) (printable_record_text (value ∷ values) e)) in
    ap (fields_read (kinds_of columns)) whole ∙ fields_read-fields columns (value ∷ values) e f

pub row_read-record_text : (layout : Layout) (row : List Value) → IsLayout layout → are_values row ≡ true → Admits layout row → row_read layout (record_text row) ≡ Ok row
row_read-record_text layout row is e admits = read_back layout.columns row (key_of layout row) is.some_columns e admits

pub key_read-record_text : (layout : Layout) (key : List Value) → IsLayout layout → are_values key ≡ true → AdmitsKey layout key → key_read layout (record_text key) ≡ Ok key
key_read-record_text layout key is e admits =
    let width = length-key_columns layout is in
    let some = is.some_key in
    read_back (key_columns layout) key key (omega arith) e admits

-- ---- what is read is values

int_fits : (bytes : List ℕ) (read : Option ℤ) (value : Value) → ((z : ℤ) → read ≡ Some z → is_int64 z ≡ true) → option_map Int read ≡ Some value → is_value value ≡ true
int_fits bytes None value fits e = absurd (cc)
int_fits bytes (Some z) value fits e = let same : Int z ≡ value = cc in subst (λ v. is_value v ≡ true) same (fits z refl)

plain_is_value : (k : Kind) (field : List ℕ) (value : Value) → plain_value k field ≡ Some value → is_value value ≡ true
plain_is_value kind.Int field value e = int_fits field (int_of field) value (λ z h. (signed-int_of field z h).fits) e
plain_is_value kind.Text field value e = by (is_text field) refl e
  where
    by : (t : Bool) → is_text field ≡ t → (if t then Some (Text field) else None) ≡ Some value → is_value value ≡ true
    by true d f = let same : Text field ≡ value = cc in subst (λ v. is_value v ≡ true) same d
    by false d f = absurd (cc)

value_of-is_value : (k : Kind) (field : List ℕ) (value : Value) → value_of k field ≡ Some value → is_value value ≡ true
value_of-is_value k field value e = by (pointwise ◌==◌ field null_word) e
  where
    by : (t : Bool) → (if t then Some Null else plain_value k field) ≡ Some value → is_value value ≡ true
    by true f = let same : Null ≡ value = cc in subst (λ v. is_value v ≡ true) same refl
    by false f = plain_is_value k field value f

-- the first value and those behind it
before_parts : (number : ℕ) (o : Option Value) (behind : Result (List Value) FieldFault) (values : List Value) → value_before number o behind ≡ Ok values
    → (value : Value) × (rest : List Value) × (o ≡ Some value) × (behind ≡ Ok rest) × (values ≡ value ∷ rest)
before_parts number None behind values e = absurd (cc)
before_parts number (Some value) (Ok rest) values e = (value, rest, refl, refl, sym (cc))
before_parts number (Some value) (Err fault) values e = absurd (cc)

are_values-read : (number : ℕ) (kinds : List Kind) (fields : List (List ℕ)) (values : List Value) → values_from number kinds fields ≡ Ok values → are_values values ≡ true
are_values-read number [] fields values e = let same : [] ≡ values = cc in subst (λ vs. are_values vs ≡ true) same refl
are_values-read number (kind ∷ kinds) [] values e = let same : [] ≡ values = cc in subst (λ vs. are_values vs ≡ true) same refl
are_values-read number (kind ∷ kinds) (field ∷ fields) values e =
    let (value, rest, first, behind, whole) = before_parts number (value_of kind field) (values_from (number + 1) kinds fields) values e in
    subst (λ vs. are_values vs ≡ true) (sym whole) (and_both (is_value value) (are_values rest) (value_of-is_value kind field value first) (are_values-read (number + 1) kinds fields rest behind))

-- what a record's fields show in columns is values
pub are_values-fields_read : (kinds : List Kind) (fields : List (List ℕ)) (values : List Value) → fields_read kinds fields ≡ Ok values → are_values values ≡ true
are_values-fields_read kinds fields values e = by (length fields == length kinds) e
  where
    by : (t : Bool) → (if t then values_from 1 kinds fields else Err fault.Width) ≡ Ok values → are_values values ≡ true
    by true f = are_values-read 1 kinds fields values f
    by false f = absurd (cc)
