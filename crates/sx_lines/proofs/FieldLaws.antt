-- What a record shows is shown again by the record that prints it.
use Rattle.std.proofs.Common.{◌≡◌, ◌<◌, ◌+◌, ◌==◌, ◌&&◌, ℕ, Bool, true, false, cond, nat_le, List, [], ◌∷◌, length, map, option_map, Option, Some, None, Result, Ok, Err, refl, sym, ap, ◌∙◌, subst, arith, eq-eqb, eqb-true}
use Rattle.std.specs.Prelude.{ℤ}
use Rattle.std.specs.List.{list_all}
use Rattle.std.specs.Result.{result_ok}
use Rattle.std.specs.Cmp.Lexicographic.{pointwise}
use Rattle.std.proofs.lemmas.Bool.Decides.{nat_tests}
use Rattle.std.proofs.lemmas.List.{length-map}
use Rattle.sx_values.specs.Texts.{is_printable, is_text, null_word}
use Rattle.sx_values.specs.Layouts.{Layout, IsLayout, key_columns}
use Rattle.sx_values.specs.declared.value.Value.{Value}
use Rattle.sx_values.specs.declared.value.Value.TheVariants.{Null, Int, Text}
use Rattle.sx_values.specs.declared.schema.Kind.{Kind}
use Rattle.sx_values.specs.declared.schema.Kind.TheVariants as kind
use Rattle.sx_values.specs.declared.schema.Column.{Column}
use Rattle.sx_values.proofs.SchemaLaws.{length-key_columns}
use Rattle.sx_text.specs.Numbers.{int_of}
use Rattle.sx_text.specs.Records.{are_values, field_of, record_fields, record_text}
use Rattle.sx_text.specs.declared.fault.FieldFault.{FieldFault}
use Rattle.sx_text.specs.declared.fault.FieldFault.TheVariants as fault
use Rattle.sx_text.specs.Reading.{fields_read, kinds_of, plain_value, value_before, value_of, values_from}
use Rattle.sx_text.proofs.DecimalLaws.{signed-int_of}
use Rattle.sx_text.proofs.RoundLaws.{AllInner, Inner, record_fields-record_of}
use Rattle.sx_text.proofs.ReadBackLaws.{printable_record_text, are_values-fields_read}
use Rattle.sx_lines.specs.Fields.{row_shown, key_shown}

int_field : (field : List ℕ) (read : Option ℤ) (value : Value) → int_of field ≡ read → option_map Int read ≡ Some value → field_of value ≡ field
int_field field None value d e = absurd (cc)
int_field field (Some z) value d e = let s : Int z ≡ value = cc in subst (λ v. field_of v ≡ field) s (signed-int_of field z d).text

text_field : (t : Bool) (field : List ℕ) (value : Value) → cond t (Some (Text field)) None ≡ Some value → field_of value ≡ field
text_field true field value e = let s : Text field ≡ value = cc in subst (λ v. field_of v ≡ field) s refl
text_field false field value e = absurd (cc)

plain_field : (k : Kind) (field : List ℕ) (value : Value) → plain_value k field ≡ Some value → field_of value ≡ field
plain_field kind.Int field value e = int_field field (int_of field) value refl e
plain_field kind.Text field value e = text_field (is_text field) field value e

-- a value is read again from the field that shows it
field_again : (k : Kind) (field : List ℕ) (value : Value) → value_of k field ≡ Some value → value_of k (field_of value) ≡ Some value
field_again k field value e = by (pointwise ◌==◌ field null_word) refl e
  where
    by : (t : Bool) → pointwise ◌==◌ field null_word ≡ t → cond t (Some Null) (plain_value k field) ≡ Some value → value_of k (field_of value) ≡ Some value
    by true d f = let s : Null ≡ value = cc in subst (λ v. value_of k (field_of v) ≡ Some v) s refl
    by false d f = ap (value_of k) (plain_field k field value f) ∙ e

record Again (number : ℕ) (kinds : List Kind) (values : List Value) : Type 0 where
  read : values_from number kinds (map field_of values) ≡ Ok values
  width : length values ≡ length kinds

abbrev Parts : Option Value → Result (List Value) FieldFault → List Value → Type 0
Parts first behind values = (value : Value) × (rest : List Value) × (first ≡ Some value) × (behind ≡ Ok rest) × (values ≡ value ∷ rest)

before_parts : (number : ℕ) (o : Option Value) (behind : Result (List Value) FieldFault) (values : List Value) → value_before number o behind ≡ Ok values → Parts o behind values
before_parts number None behind values e = absurd (cc)
before_parts number (Some value) (Ok rest) values e = (value, rest, refl, refl, sym (cc))
before_parts number (Some value) (Err fault) values e = absurd (cc)

again_from : (number : ℕ) (kinds : List Kind) (fields : List (List ℕ)) (values : List Value) → length fields ≡ length kinds → values_from number kinds fields ≡ Ok values → Again number kinds values
again_from number [] fields values w e = let s : [] ≡ values = cc in subst (Again number []) s (record { read = refl; width = refl })
again_from number (k ∷ kinds) [] values w e = absurd (omega arith)
again_from number (k ∷ kinds) (field ∷ fields) values w e =
    let (value, rest, first, behind, whole) = before_parts number (value_of k field) (values_from (number + 1) kinds fields) values e in
    let again = again_from (number + 1) kinds fields rest (omega arith) behind in
    subst (Again number (k ∷ kinds)) (sym whole) (record {
      read = rw (field_again k field value first, again.read) refl;
      width = let width = again.width in omega arith;
    })

and_left : (a b : Bool) → (a && b) ≡ true → (a ≡ true) × (b ≡ true)
and_left true true e = (refl, refl)
and_left true false e = absurd (cc)
and_left false b e = absurd (cc)

inner : (b : ℕ) → is_printable b ≡ true → Inner b
inner b e =
    let p = and_left (nat_le 0x20 b) (nat_le b 0x7E) e in
    let low = p.0 in
    record { return = grind (arith, nat_tests); feed = grind (arith, nat_tests) }

all_inner : (bytes : List ℕ) → list_all is_printable bytes ≡ true → AllInner bytes
all_inner [] e = tt
all_inner (b ∷ rest) e =
    let p = and_left (is_printable b) (list_all is_printable rest) e in
    (inner b p.0, all_inner rest p.1)

some_values : (kinds : List Kind) (values : List Value) → 0 < length kinds → Again 1 kinds values → are_values values ≡ true → fields_read kinds (record_fields (record_text values)) ≡ Ok values
some_values kinds [] some again are = absurd (let width = again.width in omega arith)
some_values kinds (value ∷ values) some again are =
    let shown : record_fields (record_text (value ∷ values)) ≡ map field_of (value ∷ values) = record_fields-record_of (field_of value) (map field_of values) (all_inner (record_text (value ∷ values)) (printable_record_text (value ∷ values) are)) in
    let width : (length (map field_of (value ∷ values)) == length kinds) ≡ true = eq-eqb (length (map field_of (value ∷ values))) (length kinds) (length-map (value ∷ values) field_of ∙ again.width) in
    ap (fields_read kinds) shown ∙ ap (λ t. cond t (values_from 1 kinds (map field_of (value ∷ values))) (Err fault.Width)) width ∙ again.read

-- what fields show is shown by the record that prints it
pub read_again : (kinds : List Kind) (fields : List (List ℕ)) (values : List Value) → 0 < length kinds → fields_read kinds fields ≡ Ok values → fields_read kinds (record_fields (record_text values)) ≡ Ok values
read_again kinds fields values some e = some_values kinds values some (by (length fields == length kinds) refl e) (are_values-fields_read kinds fields values e)
  where
    by : (t : Bool) → (length fields == length kinds) ≡ t → cond t (values_from 1 kinds fields) (Err fault.Width) ≡ Ok values → Again 1 kinds values
    by true d f = again_from 1 kinds fields values (eqb-true (length fields) (length kinds) d) f
    by false d f = absurd (cc)

-- a record that is shown again, and is printable
pub record IsShown (shows : List ℕ → Option (List Value)) (values : List Value) : Type 0 where
  pub again : shows (record_text values) ≡ Some values
  pub printable : list_all is_printable (record_text values) ≡ true

ok_is : {A E : Type 0} (r : Result A E) (x : A) → result_ok r ≡ Some x → r ≡ Ok x
ok_is (Ok y) x e = ap Ok (cc)
ok_is (Err f) x e = absurd (cc)

shown : (kinds : List Kind) (text : List ℕ) (values : List Value) → 0 < length kinds → cond (list_all is_printable text) (result_ok (fields_read kinds (record_fields text))) None ≡ Some values
    → IsShown (λ t. cond (list_all is_printable t) (result_ok (fields_read kinds (record_fields t))) None) values
shown kinds text values some e = by (list_all is_printable text) e
  where
    by : (t : Bool) → cond t (result_ok (fields_read kinds (record_fields text))) None ≡ Some values → IsShown (λ t. cond (list_all is_printable t) (result_ok (fields_read kinds (record_fields t))) None) values
    by true f =
        let read : fields_read kinds (record_fields text) ≡ Ok values = ok_is (fields_read kinds (record_fields text)) values f in
        let printable = printable_record_text values (are_values-fields_read kinds (record_fields text) values read) in
        record {
          again = ap (λ t. cond t (result_ok (fields_read kinds (record_fields (record_text values)))) None) printable ∙ ap result_ok (read_again kinds (record_fields text) values some read);
          printable = printable;
        }
    by false f = absurd (cc)

pub row_again : (layout : Layout) (text : List ℕ) (row : List Value) → IsLayout layout → row_shown layout text ≡ Some row → IsShown (row_shown layout) row
unfolding row_shown
row_again layout text row is e = let some = is.some_columns in shown (kinds_of layout.columns) text row (omega (arith, length-map layout.columns (λ (c : Column). c.kind))) e

pub key_again : (layout : Layout) (text : List ℕ) (key : List Value) → IsLayout layout → key_shown layout text ≡ Some key → IsShown (key_shown layout) key
unfolding key_shown
key_again layout text key is e = let some = is.some_key in shown (kinds_of (key_columns layout)) text key (omega (arith, length-key_columns layout is, length-map (key_columns layout) (λ (c : Column). c.kind))) e
