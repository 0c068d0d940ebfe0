-- Where a line is parted.
use Rattle.std.proofs.Common.{◌≡◌, ◌≤◌, ◌<◌, ◌+◌, ◌==◌, ℕ, suc, Bool, true, false, not, cond, nat_lt, List, [], ◌∷◌, length, Some, None, refl, sym, ap, ◌∙◌, arith, position, take, drop}
use Rattle.std.specs.List.{prefix_len}
use Rattle.std.proofs.lemmas.Bool.Decides.{nat_tests}
use Rattle.std.proofs.lemmas.List.{take_all, drop-drop}
use Rattle.std.proofs.Math.Seq.{drop-length}
use Rattle.std.proofs.Math.ListN.{drop_of_length-le}
use Rattle.sx_text.specs.Words.{before, behind}

-- how many bytes stand before the first mark
abbrev pub place : ℕ → List ℕ → ℕ
place mark xs = prefix_len (λ b. not (b == mark)) xs

front_step : (t : Bool) (b n : ℕ) (rest front : List ℕ) → take n rest ≡ front → take (cond (not t) (1 + n) 0) (b ∷ rest) ≡ cond t [] (b ∷ front)
front_step true b n rest front e = refl
front_step false b n rest front e = let one : 1 + n ≡ suc n = omega arith in rw one (ap (λ l. b ∷ l) e)

pub take_place : (mark : ℕ) (xs : List ℕ) → take (place mark xs) xs ≡ before mark xs
take_place mark [] = refl
take_place mark (b ∷ rest) = front_step (b == mark) b (place mark rest) rest (before mark rest) (take_place mark rest)

back_step : (t : Bool) (b n : ℕ) (rest back : List ℕ) → drop (suc n) rest ≡ back → drop (suc (cond (not t) (1 + n) 0)) (b ∷ rest) ≡ cond t rest back
back_step true b n rest back e = refl
back_step false b n rest back e = let one : 1 + n ≡ suc n = omega arith in rw one e

pub drop_place : (mark : ℕ) (xs : List ℕ) → drop (suc (place mark xs)) xs ≡ behind mark xs
drop_place mark [] = refl
drop_place mark (b ∷ rest) = back_step (b == mark) b (place mark rest) rest (behind mark rest) (drop_place mark rest)

pub some_place : (a b k : ℕ) → cond (nat_lt a b) (Some a) None ≡ Some k → a ≡ k
some_place a b k e = by (nat_lt a b) e
  where
    by : (t : Bool) → cond t (Some a) None ≡ Some k → a ≡ k
    by true f = cc
    by false f = absurd (cc)

pub no_place : (a b : ℕ) → cond (nat_lt a b) (Some a) None ≡ None → b ≤ a
no_place a b e = by (nat_lt a b) refl e
  where
    by : (t : Bool) → nat_lt a b ≡ t → cond t (Some a) None ≡ None → b ≤ a
    by true d f = absurd (cc)
    by false d f = grind (arith, nat_tests)

-- a line is parted at its first mark
pub record PartedAt (mark : ℕ) (xs : List ℕ) (k : ℕ) : Type 0 where
  pub front : take k xs ≡ before mark xs
  pub back : drop 1 (drop k xs) ≡ behind mark xs

pub parted_at : (mark : ℕ) (xs : List ℕ) (k : ℕ) → position (λ b. b == mark) xs ≡ Some k → PartedAt mark xs k
parted_at mark xs k e =
    let p : place mark xs ≡ k = some_place (place mark xs) (length xs) k e in
    let after : k + 1 ≡ suc (place mark xs) = omega arith in
    record { front = rw (← p) (take_place mark xs); back = drop-drop 1 k xs ∙ ap (λ n. drop n xs) after ∙ drop_place mark xs }

-- a line without a mark is one part
pub record Whole (mark : ℕ) (xs : List ℕ) : Type 0 where
  pub front : xs ≡ before mark xs
  pub back : drop (length xs) xs ≡ behind mark xs

pub whole_line : (mark : ℕ) (xs : List ℕ) → position (λ b. b == mark) xs ≡ None → Whole mark xs
whole_line mark xs e =
    let long : length xs ≤ place mark xs = no_place (place mark xs) (length xs) e in
    let past : length xs ≤ suc (place mark xs) = omega arith in
    record {
      front = sym (take_all (place mark xs) xs long) ∙ take_place mark xs;
      back = drop-length xs ∙ sym (drop_of_length-le xs past) ∙ drop_place mark xs;
    }

-- a mark that was found stands within the line
pub placed : (mark : ℕ) (xs : List ℕ) (k : ℕ) → position (λ b. b == mark) xs ≡ Some k → place mark xs < length xs
placed mark xs k e = by (nat_lt (place mark xs) (length xs)) refl e
  where
    by : (t : Bool) → nat_lt (place mark xs) (length xs) ≡ t → cond t (Some (place mark xs)) None ≡ Some k → place mark xs < length xs
    by true d f = grind (arith, nat_tests)
    by false d f = absurd (cc)

-- one that wasn't found doesn't
pub unplaced : (mark : ℕ) (xs : List ℕ) → position (λ b. b == mark) xs ≡ None → length xs ≤ place mark xs
unplaced mark xs e = no_place (place mark xs) (length xs) e
