-- Tests that are read one by one.
use Rattle.std.proofs.Common.{◌≡◌, ◌<◌, ◌≤◌, ◌+◌, ◌-◌, ◌++◌, ℕ, suc, List, [], ◌∷◌, Option, Some, None, refl, sym, ap, arith}
use Rattle.std.specs.Prelude.{codes}
use Rattle.std.proofs.lemmas.List.{append_assoc}
use Rattle.sx_ops.specs.declared.spec.Test.{Test}
use Rattle.sx_lang.specs.Parts.{behind_word}
use Rattle.sx_lang.specs.Reading.{test_at, tests_at, with_test}

-- tests before those that were read behind them
abbrev pub with_tests : List Test → Option (List Test × List ℕ) → Option (List Test × List ℕ)
with_tests front None = None
with_tests front (Some read) = Some (front ++ read.0, read.1)

abbrev pub read_is : Test → List ℕ → Option (Test × List ℕ)
read_is test rest = Some (test, rest)

front_test : (front : List Test) (test : Test) (read : Option (List Test × List ℕ)) → with_tests front (with_test test read) ≡ with_tests (front ++ test ∷ []) read
front_test front test None = refl
front_test front test (Some read) = ap (λ (l : List Test). Some (l, read.1)) (sym (append_assoc front (test ∷ []) read.0))

-- a test with ` and ` behind it
pub more_tests : (front : List Test) (i : ℕ) (left : List ℕ) (test : Test) (rest next : List ℕ) → i < 4 → test_at left ≡ read_is test rest → behind_word (codes " and ") rest ≡ Some next
    → with_tests (front ++ test ∷ []) (tests_at (4 - (i + 1)) next) ≡ with_tests front (tests_at (4 - i) left)
unfolding tests_at
more_tests front i left test rest next h e f =
    let count : 4 - i ≡ suc (4 - (i + 1)) = omega arith in
    rw (count, e, f) (sym (front_test front test (tests_at (4 - (i + 1)) next)))

-- a test without
pub last_test : (front : List Test) (i : ℕ) (left : List ℕ) (test : Test) (rest : List ℕ) → i < 4 → test_at left ≡ read_is test rest → behind_word (codes " and ") rest ≡ None
    → with_tests front (tests_at (4 - i) left) ≡ Some (front ++ test ∷ [], rest)
unfolding tests_at
last_test front i left test rest h e f =
    let count : 4 - i ≡ suc (4 - (i + 1)) = omega arith in
    rw (count, e, f) refl

pub no_test : (front : List Test) (i : ℕ) (left : List ℕ) → i < 4 → test_at left ≡ None → with_tests front (tests_at (4 - i) left) ≡ None
unfolding tests_at
no_test front i left h e =
    let count : 4 - i ≡ suc (4 - (i + 1)) = omega arith in
    rw (count, e) refl

-- a fifth test is too many
pub past_four : (front : List Test) (i : ℕ) (left : List ℕ) → 4 ≤ i → with_tests front (tests_at (4 - i) left) ≡ None
unfolding tests_at
past_four front i left h = let none : 4 - i ≡ 0 = omega arith in rw none refl
