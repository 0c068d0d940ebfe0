-- Digits and the numbers that they stand for.
use Rattle.std.proofs.Common.{◌≡◌, ◌≤◌, ◌+◌, ◌-◌, ◌*◌, ℕ, ◌<◌, Bool, true, false, nat_lt, suc, List, [], ◌∷◌, length, get_or, drop, drop-cons, None, cond, Some, refl, arith}
use Rattle.std.proofs.lemmas.Bool.Decides.{nat_tests}
use Rattle.sx_text.specs.Numbers.{digits_behind, value_within}

-- further digits make no number less
pub le-digits_behind : (n : ℕ) (bytes : List ℕ) → n ≤ digits_behind n bytes
le-digits_behind n [] = omega arith
le-digits_behind n (b ∷ rest) = omega (arith, le-digits_behind (10 * n + (b - 48)) rest)

-- a number past the limit stays there
pub too_large : (limit n : ℕ) (bytes : List ℕ) → value_within limit n ≡ None → value_within limit (digits_behind n bytes) ≡ None
too_large limit n bytes e = grown limit n (digits_behind n bytes) (le-digits_behind n bytes) e
  where
    none_is : (limit n : ℕ) → value_within limit n ≡ None → limit ≤ n
    none_is limit n e = by (nat_lt n limit) refl e
      where
        by : (t : Bool) → nat_lt n limit ≡ t → cond t (Some n) None ≡ None → limit ≤ n
        by true d f = absurd (cc)
        by false d f = grind (arith, nat_tests)

    none_from : (limit n : ℕ) → limit ≤ n → value_within limit n ≡ None
    none_from limit n h = let t : nat_lt n limit ≡ false = grind (arith, nat_tests) in rw t refl

    grown : (limit n m : ℕ) → n ≤ m → value_within limit n ≡ None → value_within limit m ≡ None
    grown limit n m le e = none_from limit m (let h = none_is limit n e in omega arith)

pub within : (limit n : ℕ) → n < limit → value_within limit n ≡ Some n
within limit n h = let t : nat_lt n limit ≡ true = grind (arith, nat_tests) in rw t refl

pub within_is : (limit n m : ℕ) → value_within limit n ≡ Some m → (n ≡ m) × (n < limit)
within_is limit n m e = by (nat_lt n limit) refl e
  where
    by : (t : Bool) → nat_lt n limit ≡ t → cond t (Some n) None ≡ Some m → (n ≡ m) × (n < limit)
    by true d f = let h : n < limit = grind (arith, nat_tests) in (cc, h)
    by false d f = absurd (cc)

-- one more digit is too much, so all are
pub too_large_at : (limit : ℕ) (digits : List ℕ) (n i : ℕ) → i < length digits → value_within limit (10 * n + (get_or digits i 0 - 48)) ≡ None → value_within limit (digits_behind n (drop i digits)) ≡ None
too_large_at limit digits n i h e = rw (drop-cons digits i 0) (too_large limit (10 * n + (get_or digits i 0 - 48)) (drop (suc i) digits) e)
