-- Why bytes are no text, by cases in order.
use Rattle.std.specs.Prelude.{◌+◌, ◌==◌, not, ℕ, List, length, nat_lt, if◌then◌else◌, Option, Some, None, position}
use Rattle.std.specs.Cmp.Lexicographic.{pointwise}
use Rattle.sx_values.specs.Texts.{is_printable, null_word}
use Rattle.sx_values.specs.declared.text.TextFault.{TextFault}
use Rattle.sx_values.specs.declared.text.TextFault.TheVariants.{TooLong, BadByte, IsNull}

-- the fault of a byte that isn't printable, else that of the word for Null
abbrev pub byte_fault : List ℕ → Option ℕ → Option TextFault
byte_fault bytes (Some index) = Some (BadByte (index + 1))
byte_fault bytes None = if pointwise ◌==◌ bytes null_word then Some IsNull else None

-- the first fault of bytes as a text
abbrev pub text_fault : List ℕ → Option TextFault
text_fault bytes = if nat_lt 64 (length bytes) then Some (TooLong (length bytes)) else byte_fault bytes (position (λ b. not (is_printable b)) bytes)
