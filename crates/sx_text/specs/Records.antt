-- The fields of a CSV record, and the values that they show.
use Rattle.std.specs.Prelude.{◌≡◌, ◌==◌, ◌++◌, Bool, true, false, length, ℕ, ℤ, pos, negsuc, List, [], ◌∷◌, map, nat_lt, Option, Some, None, if◌then◌else◌}
use Rattle.std.specs.List.{list_all}
use Rattle.std.specs.Fmt.{signed_decimal}
use Rattle.csv.specs.Machine.{Read, next_record}
use Rattle.csv.specs.Reading.{default_config}
use Rattle.csv.specs.Writing.{default_writer, is_blank, needs_quotes, row_body}
use Rattle.csv.specs.declared.parser.State.TheVariants as st
use Rattle.sx_values.specs.Texts.{is_text, null_word}
use Rattle.sx_values.specs.declared.value.Value.{Value}
use Rattle.sx_values.specs.declared.value.Value.TheVariants.{Null, Int, Text}

-- the fields that a reader gave
abbrev pub fields_given : Option Read → List (List ℕ)
fields_given None = []
fields_given (Some given) = given.0

-- the fields of a text's one record, as csv's reader gives it without a header; an empty text has none
abbrev pub record_fields : List ℕ → List (List ℕ)
record_fields text = fields_given (next_record default_config st.StartRecord [] [] text)

-- a record of these fields, as csv's writer writes it, without the line's end
abbrev pub record_of : List (List ℕ) → List ℕ
record_of fields = row_body default_writer fields ++ (if is_blank default_writer fields then 34 ∷ 34 ∷ [] else [])

-- the field that shows a value
abbrev pub field_of : Value → List ℕ
field_of Null = null_word
field_of (Int i) = signed_decimal i
field_of (Text t) = t

-- the record that shows values
abbrev pub record_text : List Value → List ℕ
record_text values = record_of (map field_of values)

-- within 64 bits with a sign
abbrev pub is_int64 : ℤ → Bool
is_int64 (pos n) = nat_lt n 0x8000_0000_0000_0000
is_int64 (negsuc n) = nat_lt n 0x8000_0000_0000_0000

-- what the program's values are: numbers within 64 bits, and texts
abbrev pub is_value : Value → Bool
is_value Null = true
is_value (Int i) = is_int64 i
is_value (Text t) = is_text t

abbrev pub are_values : List Value → Bool
are_values values = list_all is_value values

-- a field that csv's writer writes as it is, and that shows some byte
pub record IsPlain (field : List ℕ) : Type 0 where
  pub unquoted : needs_quotes default_writer field ≡ false
  pub shown : (length field == 0) ≡ false

-- bytes that begin with others
abbrev pub BeginsWith : List ℕ → List ℕ → Type 0
BeginsWith front bytes = (more : List ℕ) × (bytes ≡ front ++ more)
