-- Bytes without a fault are a text.
use Rattle.std.proofs.Common.{◌≡◌, ◌≤◌, ◌&&◌, ◌+◌, ◌==◌, ℕ, suc, Bool, true, false, not, cond, nat_lt, nat_le, List, [], ◌∷◌, length, Option, Some, None, IsTrue, refl, arith, position}
use Rattle.std.specs.List.{list_all, prefix_len}
use Rattle.std.specs.Cmp.Lexicographic.{pointwise}
use Rattle.std.proofs.lemmas.Bool.Decides.{nat_tests}
use Rattle.sx_values.specs.declared.text.TextFault.{TextFault}
use Rattle.sx_values.specs.declared.text.TextFault.TheVariants.{TooLong, BadByte, IsNull}
use Rattle.sx_values.specs.Texts.{is_text, is_printable, null_word}
use Rattle.sx_values.specs.TextFaults.{text_fault, byte_fault}

all_step : (b : Bool) (n m : ℕ) (rest : Bool) → suc m ≤ cond (not (not b)) (1 + n) 0 → (m ≤ n → rest ≡ true) → (b && rest) ≡ true
all_step true n m rest h more = more (omega arith)
all_step false n m rest h more = absurd (omega arith)

-- a list whose front of passing items is all of it
all_from_prefix : (p : ℕ → Bool) (xs : List ℕ) → length xs ≤ prefix_len (λ x. not (not (p x))) xs → list_all p xs ≡ true
all_from_prefix p [] h = refl
all_from_prefix p (x ∷ xs) h = all_step (p x) (prefix_len (λ y. not (not (p y))) xs) (length xs) (list_all p xs) h (all_from_prefix p xs)

no_place : (a b : ℕ) → cond (nat_lt a b) (Some a) None ≡ None → b ≤ a
no_place a b e = by (nat_lt a b) refl e
  where
    by : (t : Bool) → nat_lt a b ≡ t → cond t (Some a) None ≡ None → b ≤ a
    by true d f = absurd (cc)
    by false d f = grind (arith, nat_tests)

-- each item passes where none is the first that fails
all_from_no_position : (p : ℕ → Bool) (xs : List ℕ) → position (λ x. not (p x)) xs ≡ None → list_all p xs ≡ true
all_from_no_position p xs e = all_from_prefix p xs (no_place (prefix_len (λ x. not (not (p x))) xs) (length xs) e)

-- no fault in the end is no fault at each step
record Faultless (long : Bool) (place : Option ℕ) (null : Bool) : Type 0 where
  short : long ≡ false
  printable : place ≡ None
  other : null ≡ false

each_faultless : (long null : Bool) (len : ℕ) (place : Option ℕ) (rest : Option ℕ → Option TextFault) → ((index : ℕ) → rest (Some index) ≡ Some (BadByte (index + 1))) → rest None ≡ cond null (Some IsNull) None → cond long (Some (TooLong len)) (rest place) ≡ None → Faultless long place null
each_faultless true null len place rest bad last e = absurd (cc)
each_faultless false null len (Some index) rest bad last e = let b = bad index in absurd (cc)
each_faultless false true len None rest bad last e = absurd (cc)
each_faultless false false len None rest bad last e = record { short = refl; printable = refl; other = refl }

all_three : (a b c : Bool) → a ≡ true → b ≡ true → c ≡ false → (a && b && not c) ≡ true
all_three a b c d e f = grind arith

pub is_text-from_no_fault : (bytes : List ℕ) → text_fault bytes ≡ None → IsTrue (is_text bytes)
is_text-from_no_fault bytes e =
    let null = pointwise ◌==◌ bytes null_word in
    let f : Faultless (nat_lt 64 (length bytes)) (position (λ b. not (is_printable b)) bytes) null = each_faultless (nat_lt 64 (length bytes)) null (length bytes) (position (λ b. not (is_printable b)) bytes) (byte_fault bytes) (λ index. refl) refl e in
    let short : nat_le (length bytes) 64 ≡ true = (let s = f.short in grind (arith, nat_tests)) in
    all_three (nat_le (length bytes) 64) (list_all is_printable bytes) null short (all_from_no_position is_printable bytes f.printable) f.other
