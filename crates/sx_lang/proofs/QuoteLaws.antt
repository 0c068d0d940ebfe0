-- Bytes between quotes.
use Rattle.std.proofs.Common.{◌≡◌, ◌==◌, ◌++◌, ℕ, List, [], ◌∷◌, Option, Some, None, refl, sym, ap, ◌∙◌, inl, inr}
use Rattle.std.proofs.lemmas.Bool.{cases_Bool}
use Rattle.std.proofs.lemmas.List.{append-nil, append_assoc}
use Rattle.sx_lang.specs.Reading.{closed, quoted_at, quoted_byte, with_byte}

-- bytes before those that were read behind them
abbrev pub with_front : List ℕ → Option (List ℕ × List ℕ) → Option (List ℕ × List ℕ)
with_front front None = None
with_front front (Some read) = Some (front ++ read.0, read.1)

pub front_byte : (front : List ℕ) (b : ℕ) (read : Option (List ℕ × List ℕ)) → with_front front (with_byte b read) ≡ with_front (front ++ b ∷ []) read
front_byte front b None = refl
front_byte front b (Some read) = ap (λ l. Some (l, read.1)) (sym (append_assoc front (b ∷ []) read.0))

abbrev read_on : Option (ℕ × List ℕ) → Option (List ℕ × List ℕ)
read_on None = None
read_on (Some read) = with_byte read.0 (quoted_at read.1)

abbrev pub read_is : ℕ → List ℕ → Option (ℕ × List ℕ)
read_is b rest = Some (b, rest)

pair_is : (x y : ℕ) (xs ys : List ℕ) → read_is x xs ≡ read_is y ys → with_byte x (quoted_at xs) ≡ with_byte y (quoted_at ys)
pair_is x y xs ys e = ap read_on e

next_byte : (left : List ℕ) (b : ℕ) (rest : List ℕ) → quoted_byte left ≡ read_is b rest → quoted_at left ≡ with_byte b (quoted_at rest)
unfolding quoted_at
next_byte [] b rest e = absurd (cc)
next_byte (x ∷ []) b rest e = elim (cases_Bool (x == 39)) [
  | inl quote ↦ let f = rw quote at e in absurd (cc)
  | inr other ↦ let f = rw other at e in rw other (pair_is x b [] rest f)
]
next_byte (x ∷ y ∷ more) b rest e = elim (cases_Bool (x == 39)) [
  | inl quote ↦ elim (cases_Bool (y == 39)) [
    | inl twice ↦ let f = rw (quote, twice) at e in rw (quote, twice) (pair_is 39 b more rest f)
    | inr once ↦ let f = rw (quote, once) at e in absurd (cc)
  ]
  | inr other ↦ let f = rw other at e in rw other (pair_is x b (y ∷ more) rest f)
]

-- one more byte is read from the front
pub byte_taken : (front left : List ℕ) (b : ℕ) (rest : List ℕ) → quoted_byte left ≡ read_is b rest → with_front (front ++ b ∷ []) (quoted_at rest) ≡ with_front front (quoted_at left)
byte_taken front left b rest e = sym (front_byte front b (quoted_at rest)) ∙ ap (with_front front) (sym (next_byte left b rest e))

abbrev pub with_rest : List ℕ → Option (List ℕ) → Option (List ℕ × List ℕ)
with_rest front None = None
with_rest front (Some rest) = Some (front, rest)

-- no further byte is read
pub bytes_end : (front left : List ℕ) → quoted_byte left ≡ None → with_front front (quoted_at left) ≡ with_rest front (closed left)
unfolding quoted_at
bytes_end front [] e = refl
bytes_end front (x ∷ []) e = elim (cases_Bool (x == 39)) [
  | inl quote ↦ rw quote (ap (λ (l : List ℕ). Some (l, [])) (append-nil front))
  | inr other ↦ let f = rw other at e in absurd (cc)
]
bytes_end front (x ∷ y ∷ more) e = elim (cases_Bool (x == 39)) [
  | inl quote ↦ elim (cases_Bool (y == 39)) [
    | inl twice ↦ let f = rw (quote, twice) at e in absurd (cc)
    | inr once ↦ rw (quote, once) (ap (λ (l : List ℕ). Some (l, y ∷ more)) (append-nil front))
  ]
  | inr other ↦ let f = rw other at e in absurd (cc)
]
