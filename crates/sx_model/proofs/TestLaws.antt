-- Tests that pass or fail, alone and in pairs.
use Rattle.std.proofs.Common.{◌≡◌, ◌==◌, ◌&&◌, ◌||◌, ℕ, Bool, true, false, arith, refl, if◌then◌else◌}
use Rattle.std.proofs.lemmas.Bool.Decides.{nat_tests}

-- a test passes or it doesn't
pub by_cases : {P : Type 0} (b : Bool) → (b ≡ true → P) → (b ≡ false → P) → P
by_cases true passing failing = passing refl
by_cases false passing failing = failing refl

pub chosen : {T : Type 0} (b : Bool) (x y : T) → b ≡ true → (if b then x else y) ≡ x
chosen true x y e = refl
chosen false x y e = absurd (cc)

pub passed : {T : Type 0} (b : Bool) (x y : T) → b ≡ false → (if b then x else y) ≡ y
passed true x y e = absurd (cc)
passed false x y e = refl

pub and_false_first : (a b : Bool) → a ≡ false → (a && b) ≡ false
and_false_first a b e = rw e refl

pub and_false_second : (a b : Bool) → b ≡ false → (a && b) ≡ false
and_false_second true b e = e
and_false_second false b e = refl

pub and_both : (a b : Bool) → a ≡ true → b ≡ true → (a && b) ≡ true
and_both a b d e = rw d e

pub and_second : (a b : Bool) → (a && b) ≡ true → b ≡ true
and_second true b e = e
and_second false b e = absurd (cc)

pub or_rest : (a b : Bool) → a ≡ false → (a || b) ≡ true → b ≡ true
or_rest true b d e = absurd (cc)
or_rest false b d e = e

pub or_false_first : (a b : Bool) → (a || b) ≡ false → a ≡ false
or_false_first true b e = absurd (cc)
or_false_first false b e = refl

pub or_false_second : (a b : Bool) → (a || b) ≡ false → b ≡ false
or_false_second true b e = absurd (cc)
or_false_second false b e = e

pub neither : (a b : Bool) → a ≡ false → b ≡ false → (a || b) ≡ false
neither a b d e = rw (d, e) refl

pub and_first : (a b : Bool) → (a && b) ≡ true → a ≡ true
and_first true b e = refl
and_first false b e = absurd (cc)

-- two numbers that differ do so either way round
pub turned : (a b : ℕ) → (a == b) ≡ false → (b == a) ≡ false
turned a b e = grind (arith, nat_tests)
