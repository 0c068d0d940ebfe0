-- The numbers of the items of a range.
use Rattle.std.proofs.Common.{◌≡◌, ◌<◌, ◌+◌, ℕ, zero, suc, List, [], ◌∷◌, take, drop, Option, None, reverse, refl, sym, ap, ◌∙◌, arith, add-one}
use Rattle.std.specs.List.{slice_get}
use Rattle.std.proofs.lemmas.List.{reverse-reverse}
use Rattle.sx_lists.specs.Places.{following, numbered}
use Rattle.sx_lists.proofs.NumberedLemmas.{numbered-at}

get_taken : {T : Type 0} (items : List T) (n index : ℕ) → index < n → slice_get (take n items) index ≡ slice_get items index
get_taken [] zero index within = absurd (omega arith)
get_taken [] (suc n) index within = refl
get_taken (x ∷ items) zero index within = absurd (omega arith)
get_taken (x ∷ items) (suc n) zero within = refl
get_taken (x ∷ items) (suc n) (suc index) within = get_taken items n index (omega arith)

past_end : {T : Type 0} (place : ℕ) → ◌≡◌ {A = Option T} None (slice_get [] place)
past_end zero = refl
past_end (suc place) = refl

get_dropped : {T : Type 0} (items : List T) (from index : ℕ) → slice_get (drop from items) index ≡ slice_get items (from + index)
get_dropped items zero index = let e : index ≡ 0 + index = omega arith in ap (slice_get items) e
get_dropped [] (suc from) index = past_end (suc from + index)
get_dropped (x ∷ items) (suc from) index =
    let e : suc (from + index) ≡ suc from + index = omega arith in
    get_dropped items from index ∙ ap (slice_get (x ∷ items)) e

-- the item behind a number of others
numbered_behind : {T : Type 0} (newest : List T) (number : ℕ) → slice_get (reverse newest) number ≡ numbered newest (suc number)
numbered_behind newest number = sym (numbered-at (reverse newest) (suc number)) ∙ ap (λ l. numbered l (suc number)) (reverse-reverse newest)

pub following_numbered : {T : Type 0} (newest : List T) (from n index : ℕ) → index < n → slice_get (following newest from n) index ≡ numbered newest (from + index + 1)
following_numbered newest from n index within =
    get_taken (drop from (reverse newest)) n index within
    ∙ get_dropped (reverse newest) from index
    ∙ rw add-one (numbered_behind newest (from + index))
