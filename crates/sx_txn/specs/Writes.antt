-- Lists of LSNs, the last one first.
use Rattle.std.specs.Prelude.{ℕ, List, [], ◌∷◌, Option, Some, None}

-- the last of these LSNs, if there is one
abbrev pub first_of : List ℕ → Option ℕ
first_of [] = None
first_of (lsn ∷ lsns) = Some lsn

-- these without it
abbrev pub rest_of : List ℕ → List ℕ
rest_of [] = []
rest_of (lsn ∷ lsns) = lsns
