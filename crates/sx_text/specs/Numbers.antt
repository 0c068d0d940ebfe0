-- Numbers in decimal, without leading zeros.
use Rattle.std.specs.Prelude.{◌+◌, ◌-◌, ◌*◌, ◌^◌, ◌==◌, ◌&&◌, Bool, false, not, ℕ, zero, suc, ℤ, pos, negsuc, List, [], ◌∷◌, nat_lt, Option, Some, None, option_and_then, if◌then◌else◌}
use Rattle.std.specs.List.{list_all}
use Rattle.sx_values.specs.Texts.{is_digit}

-- the number that digits stand for behind those of n
abbrev pub digits_behind : ℕ → List ℕ → ℕ
digits_behind n [] = n
digits_behind n (b ∷ rest) = digits_behind (10 * n + (b - 48)) rest

-- one digit or more; the first is 0 only where it is alone
abbrev pub is_decimal : List ℕ → Bool
is_decimal [] = false
is_decimal (b ∷ []) = is_digit b
is_decimal (b ∷ c ∷ rest) = not (b == 48) && list_all is_digit (b ∷ c ∷ rest)

-- a number that is below a limit
abbrev pub value_within : ℕ → ℕ → Option ℕ
value_within limit n = if nat_lt n limit then Some n else None

-- the number within 64 bits that bytes stand for, without sign
abbrev pub number_of : List ℕ → Option ℕ
number_of bytes = if is_decimal bytes then value_within (2 ^ 64) (digits_behind 0 bytes) else None

-- a number of this size from 0 on, within 64 bits with a sign
abbrev pub positive_of : ℕ → Option ℤ
positive_of n = if nat_lt n (2 ^ 63) then Some (pos n) else None

-- the number of this size below 0, within 64 bits with a sign
abbrev pub negative_of : ℕ → Option ℤ
negative_of zero = None
negative_of (suc n) = if nat_lt n (2 ^ 63) then Some (negsuc n) else None

-- the number that bytes stand for, with a minus where it is below 0
abbrev pub int_of : List ℕ → Option ℤ
int_of [] = None
int_of (b ∷ rest) = if b == 45 then option_and_then negative_of (number_of rest) else option_and_then positive_of (number_of (b ∷ rest))
