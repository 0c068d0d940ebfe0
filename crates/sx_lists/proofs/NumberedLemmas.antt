-- The places of a list that is seen newest first are those of the list turned round.
use Rattle.std.proofs.Common.{◌≡◌, ◌==◌, ◌∷◌, ◌++◌, [], ℕ, suc, zero, List, length, Some, None, refl, ◌∙◌, ap, arith, reverse, if◌then◌else◌}
use Rattle.std.specs.List.{slice_get}
use Rattle.std.proofs.lemmas.List.{reverse-reverse, length-reverse, reverse-append}
use Rattle.std.proofs.lemmas.Bool.Decides.{nat_tests}
use Rattle.sx_lists.specs.Places.{numbered, at_place}

-- the item behind a front of k items
slice_get-seam : {T : Type 0} → (xs : List T) (x : T) (k : ℕ) → slice_get (xs ++ x ∷ []) k ≡ (if k == length xs then Some x else slice_get xs k)
slice_get-seam [] x zero = refl
slice_get-seam [] x (suc k) = grind (arith, nat_tests)
slice_get-seam (y ∷ xs) x zero = grind (arith, nat_tests)
slice_get-seam (y ∷ xs) x (suc k) = let e = slice_get-seam xs x k in grind (arith, nat_tests)

numbered-zero : {T : Type 0} → (newest : List T) → numbered newest 0 ≡ None
numbered-zero [] = refl
numbered-zero (x ∷ past) = let e = numbered-zero past in grind (arith, nat_tests)

-- the item with the number k + 1 stands behind k older ones
numbered-suc : {T : Type 0} → (newest : List T) (k : ℕ) → numbered newest (suc k) ≡ slice_get (reverse newest) k
numbered-suc [] k = refl
numbered-suc (x ∷ past) k =
    let e = numbered-suc past k in
    let s = slice_get-seam (reverse past) x k in
    let l = length-reverse past in
    let r = ap (λ xs. slice_get xs k) (reverse-append (x ∷ []) past) in
    grind (arith, nat_tests)

-- the item that came as number n is the one at place n, the oldest first
pub numbered-at : {T : Type 0} → (items : List T) (n : ℕ) → numbered (reverse items) n ≡ at_place items n
numbered-at items zero = numbered-zero (reverse items)
numbered-at items (suc k) = numbered-suc (reverse items) k ∙ ap (λ l. slice_get l k) (reverse-reverse items)
