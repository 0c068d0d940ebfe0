-- The steps of a loop that takes entries one by one.
use Rattle.std.proofs.Common.{◌↔◌, Bool, true, false, not, IsTrue, Option, Some, None, is_some, true≢false, ◌≡◌, ◌∷◌, ◌++◌, [], ◌+◌, ◌≤◌, ℕ, zero, suc, List, refl, sym, ap, ◌∙◌, take, drop, length, arith, add-one}
use Rattle.std.specs.Map.Iter.{TakesFirst}
use Rattle.std.proofs.lemmas.Bool.{false≢true}
use Rattle.std.proofs.lemmas.List.{length-drop, take_all, drop_all}

take_next-suc : {X : Type 0} (i : ℕ) (xs : List X) (x : X) (rest : List X) → drop i xs ≡ x ∷ rest → take (suc i) xs ≡ take i xs ++ x ∷ []
take_next-suc zero [] x rest e = cc
take_next-suc zero (y ∷ xs) x rest e = cc
take_next-suc (suc i) [] x rest e = cc
take_next-suc (suc i) (y ∷ xs) x rest e = ap (λ l. y ∷ l) (take_next-suc i xs x rest e)

drop_next-suc : {X : Type 0} (i : ℕ) (xs : List X) (x : X) (rest : List X) → drop i xs ≡ x ∷ rest → drop (suc i) xs ≡ rest
drop_next-suc zero [] x rest e = cc
drop_next-suc zero (y ∷ xs) x rest e = cc
drop_next-suc (suc i) [] x rest e = cc
drop_next-suc (suc i) (y ∷ xs) x rest e = drop_next-suc i xs x rest e

-- with the first of what is left, one item more is taken
pub take_next : {X : Type 0} (i : ℕ) (xs : List X) (x : X) (rest : List X) → drop i xs ≡ x ∷ rest → take (i + 1) xs ≡ take i xs ++ x ∷ []
take_next i xs x rest e = rw add-one (take_next-suc i xs x rest e)

pub drop_next : {X : Type 0} (i : ℕ) (xs : List X) (x : X) (rest : List X) → drop i xs ≡ x ∷ rest → drop (i + 1) xs ≡ rest
drop_next i xs x rest e = rw add-one (drop_next-suc i xs x rest e)

length_from_end : {X : Type 0} (i : ℕ) (xs : List X) → drop i xs ≡ [] → length xs ≤ i
length_from_end i xs e = let left = sym (length-drop i xs) ∙ ap length e in omega arith

-- where nothing is left, any longer part is the whole
pub take_ended : {X : Type 0} (i n : ℕ) (xs : List X) → drop i xs ≡ [] → i ≤ n → take i xs ≡ take n xs
take_ended i n xs e le =
    let short = length_from_end i xs e in
    take_all i xs short ∙ sym (take_all n xs (omega arith))

pub drop_ended : {X : Type 0} (i n : ℕ) (xs : List X) → drop i xs ≡ [] → i ≤ n → drop n xs ≡ []
drop_ended i n xs e le = let short = length_from_end i xs e in drop_all n xs (omega arith)

-- where a further item is asked for, none comes exactly if none is left
pub none_left : {A X : Type 0} (shows : A → X) (left rest : List X) (next : Option A) (over : Bool) → TakesFirst shows left next rest → is_some next ≡ not over → IsTrue over ↔ (left ≡ [])
none_left shows left rest None true taken e = (λ _. taken.0, λ _. refl)
none_left shows left rest None false taken e = absurd (false≢true e)
none_left shows left rest (Some x) true taken e = absurd (true≢false e)
none_left shows left rest (Some x) false taken e = (λ t. absurd (false≢true t), λ none. absurd (filled (sym taken ∙ none)))
  where
    filled : shows x ∷ rest ≡ [] → ⊥
    filled h = cc
