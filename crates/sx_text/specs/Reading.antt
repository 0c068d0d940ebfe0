-- How fields are read in columns, with the first fault.
use Rattle.std.specs.Prelude.{◌≡◌, ◌+◌, ◌==◌, ⊤, ℕ, List, [], ◌∷◌, length, map, Option, Some, None, Result, Ok, Err, option_map, if◌then◌else◌}
use Rattle.std.specs.Cmp.Lexicographic.{pointwise}
use Rattle.sx_values.specs.Texts.{is_text, null_word}
use Rattle.sx_values.specs.Layouts.{Layout, key_columns}
use Rattle.sx_values.specs.declared.value.Value.{Value}
use Rattle.sx_values.specs.declared.value.Value.TheVariants.{Null, Int, Text}
use Rattle.sx_values.specs.declared.schema.Kind.{Kind}
use Rattle.sx_values.specs.declared.schema.Kind.TheVariants as kind
use Rattle.sx_values.specs.declared.schema.Column.{Column}
use Rattle.sx_text.specs.Numbers.{int_of}
use Rattle.sx_text.specs.Records.{record_fields}
use Rattle.sx_text.specs.declared.fault.FieldFault.{FieldFault}
use Rattle.sx_text.specs.declared.fault.FieldFault.TheVariants as fault

-- the value that a field other than the word for Null shows in a column of a kind
abbrev pub plain_value : Kind → List ℕ → Option Value
plain_value kind.Int field = option_map Int (int_of field)
plain_value kind.Text field = if is_text field then Some (Text field) else None

-- the value that a field shows in a column of a kind
abbrev pub value_of : Kind → List ℕ → Option Value
value_of kind field = if pointwise ◌==◌ field null_word then Some Null else plain_value kind field

-- a column's value before those behind it; a column that has none is at fault
abbrev pub value_before : ℕ → Option Value → Result (List Value) FieldFault → Result (List Value) FieldFault
value_before number None behind = Err (fault.Value number)
value_before number (Some value) (Ok values) = Ok (value ∷ values)
value_before number (Some value) (Err fault) = Err fault

-- the values that fields show in columns of these kinds, the first of which has this number; the first fault counts
abbrev pub values_from : ℕ → List Kind → List (List ℕ) → Result (List Value) FieldFault
values_from number [] fields = Ok []
values_from number (kind ∷ kinds) [] = Ok []
values_from number (kind ∷ kinds) (field ∷ fields) = value_before number (value_of kind field) (values_from (number + 1) kinds fields)

-- the values of a record's fields: as many as columns, each of its column's kind
abbrev pub fields_read : List Kind → List (List ℕ) → Result (List Value) FieldFault
fields_read kinds fields = if length fields == length kinds then values_from 1 kinds fields else Err fault.Width

abbrev pub kinds_of : List Column → List Kind
kinds_of columns = map (λ (column : Column). column.kind) columns

-- the row that a text shows
abbrev pub row_read : Layout → List ℕ → Result (List Value) FieldFault
row_read layout text = fields_read (kinds_of layout.columns) (record_fields text)

-- the key that a text shows, in key order
abbrev pub key_read : Layout → List ℕ → Result (List Value) FieldFault
key_read layout text = fields_read (kinds_of (key_columns layout)) (record_fields text)

-- the answer is what was read, or want of memory
abbrev pub Gives : {T : Type 0} → Result T FieldFault → Result T FieldFault → Type 0
Gives (Ok values) read = read ≡ Ok values
Gives (Err fault.Memory) read = ⊤
Gives (Err fault.Width) read = read ≡ Err fault.Width
Gives (Err (fault.Value column)) read = read ≡ Err (fault.Value column)
