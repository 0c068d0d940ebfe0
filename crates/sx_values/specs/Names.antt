-- Names in lists.
use Rattle.std.specs.Prelude.{◌==◌, ◌++◌, Bool, ℕ, List, [], ◌∷◌, Option, Some, None, if◌then◌else◌}
use Rattle.std.specs.List.{list_any}
use Rattle.std.specs.Cmp.Lexicographic.{pointwise}

-- whether two names have the same bytes
abbrev pub same_name : List ℕ → List ℕ → Bool
same_name one other = pointwise ◌==◌ one other

-- whether a name is among these
abbrev pub has_name : List (List ℕ) → List ℕ → Bool
has_name names name = list_any (same_name name) names

-- the first name that stands among these or earlier in the list
abbrev pub repeated_after : List (List ℕ) → List (List ℕ) → Option (List ℕ)
repeated_after earlier [] = None
repeated_after earlier (name ∷ names) = if has_name earlier name then Some name else repeated_after (earlier ++ name ∷ []) names

-- the first name that repeats an earlier one
abbrev pub repeated_name : List (List ℕ) → Option (List ℕ)
repeated_name names = repeated_after [] names
