-- The words of a line, parted by one space.
use Rattle.std.specs.Prelude.{◌==◌, ℕ, List, [], ◌∷◌, Option, Some, None, option_and_then, if◌then◌else◌}
use Rattle.sx_text.specs.Numbers.{number_of}

-- what stands before the first byte of this kind, or all where there is none
abbrev pub before : ℕ → List ℕ → List ℕ
before mark [] = []
before mark (b ∷ rest) = if b == mark then [] else b ∷ before mark rest

-- what stands behind it, or nothing where there is none
abbrev pub behind : ℕ → List ℕ → List ℕ
behind mark [] = []
behind mark (b ∷ rest) = if b == mark then rest else behind mark rest

-- the next word of what is left of a line: none at its end, and none before a space
abbrev pub next_word : List ℕ → Option (List ℕ)
next_word [] = None
next_word (b ∷ rest) = if b == 32 then None else Some (b ∷ before 32 rest)

-- the number that the next word stands for
abbrev pub next_number : List ℕ → Option ℕ
next_number left = option_and_then number_of (next_word left)

-- what is left behind a word and its space, where there was one to take
abbrev pub left_after : {T : Type 0} → Option T → List ℕ → List ℕ
left_after None left = left
left_after (Some taken) left = behind 32 left
