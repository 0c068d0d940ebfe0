-- How the text of a transformation is read, from left to right.
use Rattle.std.specs.Prelude.{◌≡◌, ◌==◌, ◌||◌, ⊤, Bool, ℕ, zero, suc, List, [], ◌∷◌, Option, Some, None, Result, Ok, Err, codes, if◌then◌else◌}
use Rattle.sx_values.specs.Texts.{is_digit, is_name_byte, is_text}
use Rattle.sx_values.specs.declared.value.Value.{Value}
use Rattle.sx_values.specs.declared.value.Value.TheVariants.{Int, Text}
use Rattle.sx_ops.specs.declared.spec.Spec.{Spec}
use Rattle.sx_ops.specs.declared.spec.Spec.TheVariants.{Part}
use Rattle.sx_ops.specs.declared.spec.Test.{Test}
use Rattle.sx_ops.specs.declared.spec.Cmp.{Cmp}
use Rattle.sx_ops.specs.declared.spec.Cmp.TheVariants as cmp
use Rattle.sx_text.specs.Numbers.{int_of}
use Rattle.sx_lang.specs.Parts.{◌>>=◌, back, behind_word, front, is_short_name}
use Rattle.sx_lang.specs.declared.fault.LangFault.{LangFault}
use Rattle.sx_lang.specs.declared.fault.LangFault.TheVariants as fault

-- a name, and what stands behind it
unfoldable pub name_at : List ℕ → Option (List ℕ × List ℕ)
name_at text = if is_short_name (front is_name_byte text) then Some (front is_name_byte text, back is_name_byte text) else None

-- a comparison that begins with a less sign, behind it
abbrev pub less_at : List ℕ → Cmp × List ℕ
less_at [] = (cmp.Lt, [])
less_at (b ∷ rest) = if b == 62 then (cmp.Ne, rest) else if b == 61 then (cmp.Le, rest) else (cmp.Lt, b ∷ rest)

-- one that begins with a greater sign
abbrev pub greater_at : List ℕ → Cmp × List ℕ
greater_at [] = (cmp.Gt, [])
greater_at (b ∷ rest) = if b == 61 then (cmp.Ge, rest) else (cmp.Gt, b ∷ rest)

-- a comparison, and what stands behind it
unfoldable pub cmp_at : List ℕ → Option (Cmp × List ℕ)
cmp_at [] = None
cmp_at (b ∷ rest) =
    if b == 61 then Some (cmp.Eq, rest) else if b == 60 then Some (less_at rest) else if b == 62 then Some (greater_at rest) else None

-- a byte before those that were read behind it
abbrev pub with_byte : ℕ → Option (List ℕ × List ℕ) → Option (List ℕ × List ℕ)
with_byte b None = None
with_byte b (Some read) = Some (b ∷ read.0, read.1)

-- the bytes up to the closing quote, of two quotes one, and what stands behind it
unfoldable pub quoted_at : List ℕ → Option (List ℕ × List ℕ)
quoted_at [] = None
quoted_at (b ∷ []) = if b == 39 then Some ([], []) else None
quoted_at (b ∷ c ∷ rest) =
    if b == 39 then (if c == 39 then with_byte 39 (quoted_at rest) else Some ([], c ∷ rest))
    else with_byte b (quoted_at (c ∷ rest))

-- the next byte between quotes, and what stands behind it; none at the closing quote and at the end
abbrev pub quoted_byte : List ℕ → Option (ℕ × List ℕ)
quoted_byte [] = None
quoted_byte (b ∷ []) = if b == 39 then None else Some (b, [])
quoted_byte (b ∷ c ∷ rest) = if b == 39 then (if c == 39 then Some (39, rest) else None) else Some (b, c ∷ rest)

-- what stands behind a closing quote
abbrev pub closed : List ℕ → Option (List ℕ)
closed [] = None
closed (b ∷ rest) = if b == 39 then Some rest else None

-- bytes as a text of the program
abbrev pub text_of_bytes : List ℕ → Option Value
text_of_bytes bytes = if is_text bytes then Some (Text bytes) else None

-- a text between quotes, behind the first
unfoldable pub text_at : List ℕ → Option (Value × List ℕ)
text_at text = do
  bytes ← quoted_at text
  value ← text_of_bytes bytes.0
  Some (value, bytes.1)

abbrev pub is_int_byte : ℕ → Bool
is_int_byte b = is_digit b || (b == 45)

-- a number, and what stands behind it
unfoldable pub int_at : List ℕ → Option (Value × List ℕ)
int_at text = do
  number ← int_of (front is_int_byte text)
  Some (Int number, back is_int_byte text)

-- a constant, and what stands behind it
unfoldable pub constant_at : List ℕ → Option (Value × List ℕ)
constant_at [] = int_at []
constant_at (b ∷ rest) = if b == 39 then text_at rest else int_at (b ∷ rest)

-- a test, and what stands behind it
unfoldable pub test_at : List ℕ → Option (Test × List ℕ)
test_at text = do
  column ← name_at text
  cmp ← cmp_at column.1
  value ← constant_at cmp.1
  Some (record { column = column.0; cmp = cmp.0; value = value.0 }, value.1)

-- a test before those that were read behind it
abbrev pub with_test : Test → Option (List Test × List ℕ) → Option (List Test × List ℕ)
with_test test None = None
with_test test (Some read) = Some (test ∷ read.0, read.1)

-- a test alone, or before those that the next reading gives of what stands behind ` and `
abbrev pub tests_behind : Test × List ℕ → Option (List ℕ) → (List ℕ → Option (List Test × List ℕ)) → Option (List Test × List ℕ)
tests_behind read None next = Some (read.0 ∷ [], read.1)
tests_behind read (Some rest) next = with_test read.0 (next rest)

-- up to so many tests, parted by ` and `, and what stands behind them
unfoldable pub tests_at : ℕ → List ℕ → Option (List Test × List ℕ)
tests_at zero text = None
tests_at (suc more) text = do
  read ← test_at text
  tests_behind read (behind_word (codes " and ") read.1) (tests_at more)

-- a name that ends the text
unfoldable pub last_name : List ℕ → Option (List ℕ)
last_name text = if is_short_name text then Some text else None

-- a horizontal split, behind its first word
unfoldable pub part_read : List ℕ → Option Spec
part_read text = do
  table ← name_at text
  tests ← behind_word (codes " if ") table.1
  read ← tests_at 4 tests
  targets ← behind_word (codes " into ") read.1
  passing ← name_at targets
  failing ← behind_word (codes " ") passing.1
  last ← last_name failing
  Some (Part table.0 read.0 passing.0 last)

-- the transformation that a text spells, if it spells one
unfoldable pub spec_read : List ℕ → Option Spec
spec_read text = do
  part ← behind_word (codes "part ") text
  part_read part

-- the answer is what was read, as seen by view, or want of memory
abbrev pub Gives : {X Y : Type 0} → (X → Y) → Result X LangFault → Option Y → Type 0
Gives view (Ok x) read = read ≡ Some (view x)
Gives view (Err fault.Memory) read = ⊤
Gives view (Err fault.NotText) read = read ≡ None
