-- What the parts of a line show.
use Rattle.std.specs.Prelude.{ℕ, List, Option, None, if◌then◌else◌}
use Rattle.std.specs.List.{list_all}
use Rattle.std.specs.Result.{result_ok}
use Rattle.sx_values.specs.declared.value.Value.{Value}
use Rattle.sx_values.specs.Texts.{is_printable}
use Rattle.sx_values.specs.Layouts.{Layout}
use Rattle.sx_ops.specs.declared.spec.Spec.{Spec}
use Rattle.sx_text.specs.Reading.{row_read, key_read}
use Rattle.sx_lang.specs.Reading.{spec_read}

-- the row that a record of printable bytes shows, if it shows one
unfoldable pub row_shown : Layout → List ℕ → Option (List Value)
row_shown layout text = if list_all is_printable text then result_ok (row_read layout text) else None

-- the key that a record of printable bytes shows, if it shows one
unfoldable pub key_shown : Layout → List ℕ → Option (List Value)
key_shown layout text = if list_all is_printable text then result_ok (key_read layout text) else None

-- the transformation that a text of printable bytes shows, if it shows one
unfoldable pub spec_shown : List ℕ → Option Spec
spec_shown text = if list_all is_printable text then spec_read text else None
