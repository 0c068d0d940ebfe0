-- The order of values is a total order: it compares ranks, then numbers, then texts. Values that tie are one value.
use Rattle.std.specs.Prelude.{◌≡◌, ℕ, ℤ, List, [], ◌∷◌, IsTrue, Some, true, refl, pos, nat_eq}
use Rattle.std.proofs.Common.{ap, sym, ◌∙◌, true≢false}
use Rattle.std.specs.Cmp.{IsTotalOrder, IsEquivalence, IsPartialEquivalence, IsPartialOrder, partial_equiv_from_equiv, partial_order_from_total, signed_Decides, total, unsigned_Decides, unsigned_tied}
use Rattle.std.specs.Ordering.{int_cmp, is_eq, nat_cmp, on, then_cmp, ordering_then}
use Rattle.std.specs.Cmp.Lexicographic.{slice_cmp, pointwise, same_text}
use Rattle.std.specs.Hash as fed
use Rattle.std.specs.Hash.{items_Alike}
use Rattle.std.proofs.lemmas.Cmp.{nat_cmp_total, int_cmp_total, nat_list_cmp_total, on_total, then_total, eq_by_cmp_equiv}
use Rattle.std.specs.declared.cmp.Ordering.{Ordering}
use Rattle.std.specs.declared.cmp.Ordering.TheVariants.{Less, Equal, Greater}
use Rattle.sx_values.specs.declared.value.Value.{Value}
use Rattle.sx_values.specs.declared.value.Value.TheVariants.{Null, Int, Text}
use Rattle.sx_values.specs.Values.{value_cmp, value_eq, value_fed, value_partial_cmp, values_fed}

abbrev rank : Value → ℕ
rank Null = 0
rank (Int i) = 1
rank (Text t) = 2

abbrev number : Value → ℤ
number Null = pos 0
number (Int i) = i
number (Text t) = pos 0

abbrev bytes : Value → List ℕ
bytes Null = []
bytes (Int i) = []
bytes (Text t) = t

abbrev ranked_cmp : Value → Value → Ordering
ranked_cmp = then_cmp (on rank nat_cmp) (then_cmp (on number int_cmp) (on bytes (slice_cmp nat_cmp)))

ranked_cmp_total : IsTotalOrder ranked_cmp
ranked_cmp_total = then_total (on_total rank nat_cmp_total) (then_total (on_total number int_cmp_total) (on_total bytes nat_list_cmp_total))

then-Equal : (r : Ordering) → ordering_then r Equal ≡ r
then-Equal Less = refl
then-Equal Equal = refl
then-Equal Greater = refl

-- both orders answer the same
ranked_cmp-value : (v w : Value) → ranked_cmp v w ≡ value_cmp v w
ranked_cmp-value Null Null = refl
ranked_cmp-value Null (Int j) = refl
ranked_cmp-value Null (Text t) = refl
ranked_cmp-value (Int i) Null = refl
ranked_cmp-value (Int i) (Int j) = then-Equal (int_cmp i j)
ranked_cmp-value (Int i) (Text t) = refl
ranked_cmp-value (Text s) Null = refl
ranked_cmp-value (Text s) (Int j) = refl
ranked_cmp-value (Text s) (Text t) = refl

pub value_cmp_total : IsTotalOrder value_cmp
value_cmp_total = total (partial_order_from_total ranked_cmp_total) (λ v w. ap Some (ranked_cmp-value v w))

pub value_eq_equivalence : IsEquivalence value_eq
value_eq_equivalence = eq_by_cmp_equiv value_cmp_total

pub value_eq_partial : IsPartialEquivalence value_eq
value_eq_partial = partial_equiv_from_equiv value_eq_equivalence

pub value_cmp_partial : IsPartialOrder value_eq value_partial_cmp
value_cmp_partial = partial_order_from_total value_cmp_total

-- a tie of two answers in a row is a tie of each
tied_first : (r s : Ordering) → ordering_then r s ≡ Equal → r ≡ Equal
tied_first Less s e = e
tied_first Equal s e = refl
tied_first Greater s e = e

tied_rest : (r s : Ordering) → ordering_then r s ≡ Equal → s ≡ Equal
tied_rest Less s e = absurd (true≢false (ap is_eq (sym e)))
tied_rest Equal s e = e
tied_rest Greater s e = absurd (true≢false (ap is_eq (sym e)))

-- lists tie only where they are equal, if items do
pub same_from_ties : {T : Type 0} (R : T → T → Ordering) → ((x y : T) → R x y ≡ Equal → x ≡ y) → (xs ys : List T) → slice_cmp R xs ys ≡ Equal → xs ≡ ys
same_from_ties R each [] [] e = refl
same_from_ties R each [] (y ∷ ys) e = absurd (true≢false (ap is_eq (sym e)))
same_from_ties R each (x ∷ xs) [] e = absurd (true≢false (ap is_eq (sym e)))
same_from_ties R each (x ∷ xs) (y ∷ ys) e =
    let head = each x y (tied_first (R x y) (slice_cmp R xs ys) e) in
    let tail = same_from_ties R each xs ys (tied_rest (R x y) (slice_cmp R xs ys) e) in
    λ i. head i ∷ tail i

nat_tie : (a b : ℕ) → nat_cmp a b ≡ Equal → a ≡ b
nat_tie a b e = (unsigned_Decides a b).0 (sym (unsigned_tied a b) ∙ ap is_eq e)

int_tie : (a b : ℤ) → int_cmp a b ≡ Equal → a ≡ b
int_tie a b e = (signed_Decides a b).0 (ap is_eq e)

-- values that tie are one value
pub value_tie : (v w : Value) → value_cmp v w ≡ Equal → v ≡ w
value_tie Null Null e = refl
value_tie Null (Int j) e = absurd (true≢false (ap is_eq (sym e)))
value_tie Null (Text t) e = absurd (true≢false (ap is_eq (sym e)))
value_tie (Int i) Null e = absurd (true≢false (ap is_eq (sym e)))
value_tie (Int i) (Int j) e = ap Int (int_tie i j e)
value_tie (Int i) (Text t) e = absurd (true≢false (ap is_eq (sym e)))
value_tie (Text s) Null e = absurd (true≢false (ap is_eq (sym e)))
value_tie (Text s) (Int j) e = absurd (true≢false (ap is_eq (sym e)))
value_tie (Text s) (Text t) e = ap Text (same_from_ties nat_cmp nat_tie s t e)

tie_of : (r : Ordering) → is_eq r ≡ true → r ≡ Equal
tie_of Less e = absurd (true≢false (sym e))
tie_of Equal e = refl
tie_of Greater e = absurd (true≢false (sym e))

-- equal values have equal hashes
pub equal_values_fed : (v w : Value) → IsTrue (value_eq v w) → value_fed v ≡ value_fed w
equal_values_fed v w e = ap value_fed (value_tie v w (tie_of (value_cmp v w) e))

-- equal bytes have equal hashes
pub same_bytes_fed : (s t : List ℕ) → IsTrue (pointwise nat_eq s t) → fed.slice fed.u8 s ≡ fed.slice fed.u8 t
same_bytes_fed s t e = ap (fed.slice fed.u8) (same_text s t (sym e))

pub same_values_fed : (vs ws : List Value) → IsTrue (pointwise value_eq vs ws) → values_fed vs ≡ values_fed ws
same_values_fed vs ws e = (items_Alike (record { fed = equal_values_fed })).fed vs ws e
