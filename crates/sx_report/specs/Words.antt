-- Words, numbers and lines of a report.
use Rattle.std.specs.Prelude.{◌==◌, ◌++◌, ℕ, zero, suc, List, [], ◌∷◌, length, codes, decimal, Option, Some, None, if◌then◌else◌}
use Rattle.sx_lists.specs.Places.{numbered}
use Rattle.sx_values.specs.declared.value.Value.{Value}
use Rattle.sx_text.specs.Records.{record_text}

-- numbers, each after a space
abbrev pub numbers_text : List ℕ → List ℕ
numbers_text [] = []
numbers_text (n ∷ rest) = 32 ∷ decimal n ++ numbers_text rest

-- the values that end a line, after a space
unfoldable pub ending_text : Option (List Value) → List ℕ
ending_text None = []
ending_text (Some values) = 32 ∷ record_text values

-- who acts: the propagator, or a client by its number
unfoldable pub actor_text : ℕ → List ℕ
actor_text actor = if actor == 0 then codes "p" else codes "c" ++ decimal actor

-- the line of an item under its number, if there is one
abbrev pub line_of : {T : Type 0} → (ℕ → T → List ℕ) → ℕ → Option T → List ℕ
line_of line number None = []
line_of line number (Some item) = line number item

-- the lines of the items with the numbers from 1 to this one
abbrev pub lines_to : {T : Type 0} → (ℕ → T → List ℕ) → List T → ℕ → List ℕ
lines_to line newest zero = []
lines_to line newest (suc below) = lines_to line newest below ++ line_of line (suc below) (numbered newest (suc below))

-- the lines of the items of a list that is seen newest first, each under its number
abbrev pub lines_of : {T : Type 0} → (ℕ → T → List ℕ) → List T → List ℕ
lines_of line newest = lines_to line newest (length newest)
