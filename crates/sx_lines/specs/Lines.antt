-- The lines of a text, and their parts.
use Rattle.std.specs.Prelude.{◌==◌, ◌&&◌, Bool, true, ℕ, List, [], ◌∷◌, length, take, drop, nat_le, Option, Some, None, option_map, option_and_then, if◌then◌else◌}
use Rattle.std.specs.Cmp.Lexicographic.{pointwise}
use Rattle.sx_values.specs.Texts.{is_name}

-- what comes of a value where there is one
infixl 10 ◌>>=◌
abbrev pub ◌>>=◌ : {A B : Type 0} → Option A → (A → Option B) → Option B
o >>= f = option_and_then f o

-- a value where a test holds
abbrev pub when : {A : Type 0} → Bool → A → Option A
when test value = if test then Some value else None

-- whether two texts have the same bytes
abbrev pub same_bytes : List ℕ → List ℕ → Bool
same_bytes one other = pointwise ◌==◌ one other

-- what stands before the first mark and what stands behind it, where there is a mark
abbrev pub parted : ℕ → List ℕ → Option (List ℕ × List ℕ)
parted mark [] = None
parted mark (b ∷ rest) = if b == mark then Some ([], rest) else option_map (λ parts. (b ∷ parts.0, parts.1)) (parted mark rest)

-- what stands behind these bytes in a text that begins with them
abbrev pub behind : List ℕ → List ℕ → Option (List ℕ)
behind front text = if same_bytes (take (length front) text) front then Some (drop (length front) text) else None

-- lists with a byte more at the front of the first one
abbrev pub with_byte : ℕ → List (List ℕ) → List (List ℕ)
with_byte b [] = (b ∷ []) ∷ []
with_byte b (line ∷ lines) = (b ∷ line) ∷ lines

-- the lines of a text, each ended by a line feed, which the last may lack
abbrev pub text_lines : List ℕ → List (List ℕ)
text_lines [] = []
text_lines (b ∷ rest) = if b == 10 then [] ∷ text_lines rest else with_byte b (text_lines rest)

-- a text's parts at its first line feed, or the whole with nothing behind it
abbrev pub line_or : List ℕ → Option (List ℕ × List ℕ) → List ℕ × List ℕ
line_or text None = (text, [])
line_or text (Some parts) = parts

-- the first line of a text and what stands behind it; none where the text is empty
abbrev pub next_line : List ℕ → Option (List ℕ × List ℕ)
next_line [] = None
next_line (b ∷ rest) = Some (line_or (b ∷ rest) (parted 10 (b ∷ rest)))

-- the words of a text, parted by single spaces
abbrev pub words : List ℕ → List (List ℕ)
words [] = [] ∷ []
words (b ∷ rest) = if b == 32 then [] ∷ words rest else with_byte b (words rest)

-- a line without meaning: an empty one, or a comment
abbrev pub is_passed_over : List ℕ → Bool
is_passed_over [] = true
is_passed_over (b ∷ rest) = b == 35

-- a name of up to 16 bytes
abbrev pub is_short_name : List ℕ → Bool
is_short_name bytes = is_name bytes && nat_le (length bytes) 16

-- a name and what stands behind it and its space
abbrev pub named : List ℕ → Option (List ℕ × List ℕ)
named text = parted 32 text >>= λ parts. when (is_short_name parts.0) parts
