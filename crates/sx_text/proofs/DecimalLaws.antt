-- What a number's digits are is what is read from them, and the other way round.
use Rattle.std.proofs.Common.{◌≡◌, ◌<◌, ◌==◌, ◌&&◌, ◌^◌, ℕ, zero, suc, Bool, true, false, not, cond, nat_lt, nat_le, List, [], ◌∷◌, length, get_or, Option, Some, None, option_and_then, refl, sym, ap, ◌∙◌, subst, arith, eqb-true, eq-eqb}
use Rattle.std.specs.Prelude.{ℤ, pos, negsuc}
use Rattle.std.specs.List.{list_all}
use Rattle.std.specs.Fmt.{decimal, signed_decimal}
use Rattle.std.proofs.lemmas.Bool.Decides.{nat_tests}
use Rattle.std.proofs.lemmas.Fmt.{decimal-digits_value, decimal_nonempty, digits_decimal, digits_value-decimal, first_decimal, decimal_digit}
use Rattle.std.proofs.lemmas.Str.Parse.{IsNumeralModel, IsDigitsTest, FoldsDigits, numerals_by_fold}
use Rattle.sx_values.specs.Texts.{is_digit}
use Rattle.sx_text.specs.Numbers.{digits_behind, int_of, is_decimal, negative_of, number_of, positive_of, value_within}
use Rattle.sx_text.specs.Records.{is_int64}
use Rattle.sx_text.proofs.NumberLaws.{within, within_is}

abbrev AreDigits : List ℕ → Type 0
AreDigits ds = list_all is_digit ds ≡ true

and_left : (a b : Bool) → (a && b) ≡ true → (a ≡ true) × (b ≡ true)
and_left true true e = (refl, refl)
and_left true false e = absurd (cc)
and_left false b e = absurd (cc)

and_both : (a b : Bool) → a ≡ true → b ≡ true → (a && b) ≡ true
and_both true true p q = refl
and_both true false p q = q
and_both false b p q = p

tells : IsDigitsTest AreDigits
tells = record {
  empty = refl;
  parts = λ c cs e. (let p = and_left (is_digit c) (list_all is_digit cs) e in let q = and_left (nat_le 48 c) (nat_le c 57) p.0 in let low = q.0 in let high = q.1 in (grind (arith, nat_tests), grind (arith, nat_tests)), (and_left (is_digit c) (list_all is_digit cs) e).1);
  more = λ c cs range rest. (let low : nat_le 48 c ≡ true = grind (arith, nat_tests) in let high : nat_le c 57 ≡ true = grind (arith, nat_tests) in and_both (is_digit c) (list_all is_digit cs) (and_both (nat_le 48 c) (nat_le c 57) low high) rest);
}

folds : FoldsDigits digits_behind
folds = record {
  empty = λ n. refl;
  more = λ n c cs range. ap (λ m. digits_behind m cs) (omega arith);
}

own : IsNumeralModel AreDigits (digits_behind 0)
own = numerals_by_fold AreDigits tells digits_behind folds

-- digits, the first 0 only where it is alone
record Decimal (ds : List ℕ) : Type 0 where
  digits : AreDigits ds
  some : 0 < length ds
  lead : get_or ds 0 0 ≡ 48 → length ds ≡ 1

is_decimal_from : (ds : List ℕ) → Decimal ds → is_decimal ds ≡ true
is_decimal_from [] d = absurd (let s = d.some in omega arith)
is_decimal_from (b ∷ []) d = (and_left (is_digit b) true d.digits).0
is_decimal_from (b ∷ c ∷ rest) d = by (b == 48) refl
  where
    by : (t : Bool) → (b == 48) ≡ t → is_decimal (b ∷ c ∷ rest) ≡ true
    by true e = absurd (let one = d.lead (eqb-true b 48 e) in omega arith)
    by false e = rw e d.digits

decimal_parts : (ds : List ℕ) → is_decimal ds ≡ true → Decimal ds
decimal_parts [] e = absurd (cc)
decimal_parts (b ∷ []) e = record { digits = and_both (is_digit b) true e refl; some = omega arith; lead = λ h. refl }
decimal_parts (b ∷ c ∷ rest) e =
    let p = and_left (not (b == 48)) (list_all is_digit (b ∷ c ∷ rest)) e in
    record { digits = p.1; some = omega arith; lead = λ h. absurd (let t = eq-eqb b 48 h in cc (rw t at p.0)) }

decimal_is : (n : ℕ) → n < 2 ^ 64 → Decimal (decimal n)
decimal_is n h = record { digits = digits_decimal own n h; some = decimal_nonempty n h; lead = leads n h }
  where
    leads : (n : ℕ) → n < 2 ^ 64 → get_or (decimal n) 0 0 ≡ 48 → length (decimal n) ≡ 1
    leads zero h e = ap length (decimal_digit 0 (omega arith))
    leads (suc m) h e = absurd (let f = first_decimal (suc m) (omega arith) h in omega arith)

pub number_of-decimal : (n : ℕ) → n < 2 ^ 64 → number_of (decimal n) ≡ Some n
number_of-decimal n h = rw (is_decimal_from (decimal n) (decimal_is n h), digits_value-decimal own n h) (within (2 ^ 64) n h)

-- bytes that stand for a number are its decimal text
pub record Read (bytes : List ℕ) (n : ℕ) : Type 0 where
  pub text : decimal n ≡ bytes
  pub small : n < 2 ^ 64

pub decimal-number_of : (bytes : List ℕ) (n : ℕ) → number_of bytes ≡ Some n → Read bytes n
decimal-number_of bytes n e = by (is_decimal bytes) refl e
  where
    by : (t : Bool) → is_decimal bytes ≡ t → cond t (value_within (2 ^ 64) (digits_behind 0 bytes)) None ≡ Some n → Read bytes n
    by false d f = absurd (cc)
    by true d f =
        let w = within_is (2 ^ 64) (digits_behind 0 bytes) n f in
        let p = decimal_parts bytes d in
        record { text = ap decimal (sym w.0) ∙ decimal-digits_value own bytes p.digits p.some p.lead w.1; small = subst (λ m. m < 2 ^ 64) w.0 w.1 }

-- ---- with a sign

minus_no_digit : (b : ℕ) → is_digit b ≡ true → (b == 45) ≡ false
minus_no_digit b e =
    let p = and_left (nat_le 48 b) (nat_le b 57) e in
    let low = p.0 in
    grind (arith, nat_tests)

positive : (n : ℕ) → is_int64 (pos n) ≡ true → positive_of n ≡ Some (pos n)
positive n e = rw e refl

negative : (n : ℕ) → is_int64 (negsuc n) ≡ true → negative_of (suc n) ≡ Some (negsuc n)
negative n e = rw e refl

int_below : (n : ℕ) → is_int64 (pos n) ≡ true → n < 2 ^ 63
int_below n e = grind (arith, nat_tests)

-- digits are read without a sign
unsigned : (ds : List ℕ) → Decimal ds → int_of ds ≡ option_and_then positive_of (number_of ds)
unsigned [] d = refl
unsigned (b ∷ rest) d =
    let p = and_left (is_digit b) (list_all is_digit rest) d.digits in
    rw (minus_no_digit b p.0) refl

pub int_of-signed : (z : ℤ) → is_int64 z ≡ true → int_of (signed_decimal z) ≡ Some z
int_of-signed (pos n) e =
    let small = int_below n e in
    let wide : n < 2 ^ 64 = omega arith in
    unsigned (decimal n) (decimal_is n wide) ∙ ap (option_and_then positive_of) (number_of-decimal n wide) ∙ positive n e
int_of-signed (negsuc n) e =
    let small = int_below n e in
    let wide : suc n < 2 ^ 64 = omega arith in
    ap (option_and_then negative_of) (number_of-decimal (suc n) wide) ∙ negative n e

-- bytes that stand for a number with a sign are its decimal text
pub record ReadInt (bytes : List ℕ) (z : ℤ) : Type 0 where
  pub text : signed_decimal z ≡ bytes
  pub fits : is_int64 z ≡ true

positive_is : (bytes : List ℕ) (o : Option ℕ) (z : ℤ) → ((n : ℕ) → o ≡ Some n → decimal n ≡ bytes) → option_and_then positive_of o ≡ Some z → ReadInt bytes z
positive_is bytes None z text e = absurd (cc)
positive_is bytes (Some n) z text e = by (nat_lt n (2 ^ 63)) refl e
  where
    by : (t : Bool) → nat_lt n (2 ^ 63) ≡ t → cond t (Some (pos n)) None ≡ Some z → ReadInt bytes z
    by true d f = let same : pos n ≡ z = cc in subst (ReadInt bytes) same (record { text = text n refl; fits = d })
    by false d f = absurd (cc)

negative_is : (bytes : List ℕ) (o : Option ℕ) (z : ℤ) → ((n : ℕ) → o ≡ Some n → decimal n ≡ bytes) → option_and_then negative_of o ≡ Some z → ReadInt (45 ∷ bytes) z
negative_is bytes None z text e = absurd (cc)
negative_is bytes (Some zero) z text e = absurd (cc)
negative_is bytes (Some (suc n)) z text e = by (nat_lt n (2 ^ 63)) refl e
  where
    by : (t : Bool) → nat_lt n (2 ^ 63) ≡ t → cond t (Some (negsuc n)) None ≡ Some z → ReadInt (45 ∷ bytes) z
    by true d f = let same : negsuc n ≡ z = cc in subst (ReadInt (45 ∷ bytes)) same (record { text = ap (λ ds. 45 ∷ ds) (text (suc n) refl); fits = d })
    by false d f = absurd (cc)

pub signed-int_of : (bytes : List ℕ) (z : ℤ) → int_of bytes ≡ Some z → ReadInt bytes z
signed-int_of [] z e = absurd (cc)
signed-int_of (b ∷ rest) z e = by (b == 45) refl e
  where
    by : (t : Bool) → (b == 45) ≡ t → cond t (option_and_then negative_of (number_of rest)) (option_and_then positive_of (number_of (b ∷ rest))) ≡ Some z → ReadInt (b ∷ rest) z
    by true d f = subst (λ c. ReadInt (c ∷ rest) z) (sym (eqb-true b 45 d)) (negative_is rest (number_of rest) z (λ n h. (decimal-number_of rest n h).text) f)
    by false d f = positive_is (b ∷ rest) (number_of (b ∷ rest)) z (λ n h. (decimal-number_of (b ∷ rest) n h).text) f

pub digits_of_decimal : (n : ℕ) → n < 2 ^ 64 → list_all is_digit (decimal n) ≡ true
digits_of_decimal n h = digits_decimal own n h
