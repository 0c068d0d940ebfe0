-- The bytes of texts and of names.
use Rattle.std.specs.Prelude.{◌&&◌, ◌||◌, ◌==◌, Bool, false, not, ℕ, List, [], ◌∷◌, length, nat_le, codes}
use Rattle.std.specs.List.{list_all}
use Rattle.std.specs.Cmp.Lexicographic.{pointwise}

-- a printable byte, from the space to the tilde
abbrev pub is_printable : ℕ → Bool
is_printable b = nat_le 0x20 b && nat_le b 0x7E

-- the word that stands for the value Null
abbrev pub null_word : List ℕ
null_word = codes "NULL"

-- up to 64 printable bytes that aren't the word for Null
abbrev pub is_text : List ℕ → Bool
is_text bytes = nat_le (length bytes) 64 && list_all is_printable bytes && not (pointwise ◌==◌ bytes null_word)

abbrev pub is_lower : ℕ → Bool
is_lower b = nat_le 97 b && nat_le b 122

abbrev pub is_digit : ℕ → Bool
is_digit b = nat_le 48 b && nat_le b 57

-- a byte of a name behind the first: a lower-case letter, a digit or the underscore
abbrev pub is_name_byte : ℕ → Bool
is_name_byte b = is_lower b || is_digit b || (b == 95)

-- a lower-case letter followed by up to `more` lower-case letters, digits and underscores
abbrev pub is_name_within : ℕ → List ℕ → Bool
is_name_within more [] = false
is_name_within more (b ∷ rest) = is_lower b && nat_le (length rest) more && list_all is_name_byte rest

-- a name: up to 32 bytes
abbrev pub is_name : List ℕ → Bool
is_name bytes = is_name_within 31 bytes
