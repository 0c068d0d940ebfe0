-- Fronts of texts, and what stands behind them.
use Rattle.std.specs.Prelude.{◌==◌, Bool, ℕ, List, [], ◌∷◌, Option, Some, None, if◌then◌else◌}
use Rattle.sx_values.specs.Texts.{is_name_within}

-- what comes of a value where there is one
infixl 10 ◌>>=◌
abbrev pub ◌>>=◌ : {A B : Type 0} → Option A → (A → Option B) → Option B
None >>= f = None
(Some x) >>= f = f x

-- what stands behind these bytes in a text that begins with them
abbrev pub behind_word : List ℕ → List ℕ → Option (List ℕ)
behind_word [] text = Some text
behind_word (c ∷ word) [] = None
behind_word (c ∷ word) (b ∷ text) = if b == c then behind_word word text else None

-- the bytes at the front that pass a test, as many as there are
abbrev pub front : (ℕ → Bool) → List ℕ → List ℕ
front p [] = []
front p (b ∷ rest) = if p b then b ∷ front p rest else []

-- what stands behind them
abbrev pub back : (ℕ → Bool) → List ℕ → List ℕ
back p [] = []
back p (b ∷ rest) = if p b then back p rest else b ∷ rest

-- a name as a text has it: up to 16 bytes
abbrev pub is_short_name : List ℕ → Bool
is_short_name name = is_name_within 15 name
