-- The lines of a list that is seen newest first, made from the oldest on.
use Rattle.std.proofs.Common.{◌≡◌, ◌≤◌, ◌+◌, ◌++◌, ℕ, zero, suc, List, [], ◌∷◌, length, reverse, Some, refl, sym, ap, ◌∙◌, arith}
use Rattle.std.proofs.lemmas.Bool.Decides.{nat_tests}
use Rattle.std.proofs.lemmas.List.{append_assoc, append-nil}
use mathlib.Core.List.{reverse_aux}
use Rattle.sx_lists.specs.Places.{numbered}
use Rattle.sx_report.specs.Words.{line_of, lines_to, lines_of}

-- the lines of items from the oldest on, the first of which has this number
abbrev pub lines_from : {T : Type 0} → (ℕ → T → List ℕ) → ℕ → List T → List ℕ
lines_from line number [] = []
lines_from line number (item ∷ rest) = line number item ++ lines_from line (number + 1) rest

-- an item that comes later leaves the numbers of those before it
numbered_before : {T : Type 0} (item : T) (past : List T) (number : ℕ) → number ≤ length past → numbered (item ∷ past) number ≡ numbered past number
numbered_before item past number within = grind (arith, nat_tests)

numbered_last : {T : Type 0} (item : T) (past : List T) → numbered (item ∷ past) (suc (length past)) ≡ Some item
numbered_last item past = grind (arith, nat_tests)

lines_to_before : {T : Type 0} (line : ℕ → T → List ℕ) (item : T) (past : List T) (number : ℕ) → number ≤ length past → lines_to line (item ∷ past) number ≡ lines_to line past number
lines_to_before line item past zero within = refl
lines_to_before line item past (suc below) within =
    let earlier = lines_to_before line item past below (omega arith) in
    let here = numbered_before item past (suc below) within in
    λ i. earlier i ++ line_of line (suc below) (here i)

-- the newest item has the last line
lines_of_newest : {T : Type 0} (line : ℕ → T → List ℕ) (item : T) (past : List T) → lines_of line (item ∷ past) ≡ lines_of line past ++ line (length past + 1) item
lines_of_newest line item past =
    let earlier = lines_to_before line item past (length past) (omega arith) in
    let here = numbered_last item past in
    let number : suc (length past) ≡ length past + 1 = omega arith in
    λ i. earlier i ++ line_of line (number i) (here i)

-- the lines of earlier items, and then those of later ones
lines_of_onto : {T : Type 0} (line : ℕ → T → List ℕ) → (items past : List T) → lines_of line (reverse_aux items past) ≡ lines_of line past ++ lines_from line (length past + 1) items
lines_of_onto line [] past = sym (append-nil (lines_of line past))
lines_of_onto line (item ∷ items) past =
    let next : length (item ∷ past) + 1 ≡ length past + 1 + 1 = omega arith in
    lines_of_onto line items (item ∷ past)
    ∙ ap (λ (l : List ℕ). l ++ lines_from line (length (item ∷ past) + 1) items) (lines_of_newest line item past)
    ∙ append_assoc (lines_of line past) (line (length past + 1) item) (lines_from line (length (item ∷ past) + 1) items)
    ∙ ap (λ (n : ℕ). lines_of line past ++ (line (length past + 1) item ++ lines_from line n items)) next

pub lines_of_reverse : {T : Type 0} (line : ℕ → T → List ℕ) → (items : List T) → lines_of line (reverse items) ≡ lines_from line 1 items
lines_of_reverse line items = lines_of_onto line items []
