-- A loop that changes each item of a list in turn.
use Rattle.std.proofs.Common.{◌≡◌, ◌<◌, ◌+◌, ◌∷◌, [], ℕ, zero, suc, List, length, map, get_or, arith, refl, sym, ap, subst}
use Rattle.std.specs.List.{AllByRecursion}
use Rattle.std.proofs.Math.ListN.{set}

-- the first i items became what they were to become, and the others stay
abbrev pub Turned : {T : Type 0} → (T → T → Type 0) → ℕ → List T → List T → Type 0
Turned R i [] [] = Unit {0}
Turned R i [] (y ∷ ys) = ⊥
Turned R i (x ∷ xs) [] = ⊥
Turned R zero (x ∷ xs) (y ∷ ys) = (y ≡ x) × Turned R zero xs ys
Turned R (suc i) (x ∷ xs) (y ∷ ys) = R x y × Turned R i xs ys

pub Turned-none : {T : Type 0} (R : T → T → Type 0) (xs : List T) → Turned R 0 xs xs
Turned-none R [] = tt
Turned-none R (x ∷ xs) = (refl, Turned-none R xs)

Turned-suc : {T : Type 0} (R : T → T → Type 0) (xs ys : List T) (i : ℕ) (z d : T) → i < length ys → Turned R i xs ys → R (get_or ys i d) z → Turned R (suc i) xs (set ys i z)
Turned-suc R [] [] i z d less turned here = tt
Turned-suc R [] (y ∷ ys) i z d less turned here = absurd turned
Turned-suc R (x ∷ xs) [] i z d less turned here = absurd turned
Turned-suc R (x ∷ xs) (y ∷ ys) zero z d less turned here = (subst (λ w. R w z) turned.0 here, turned.1)
Turned-suc R (x ∷ xs) (y ∷ ys) (suc i) z d less turned here = (turned.0, Turned-suc R xs ys i z d (omega arith) turned.1 here)

-- one more item became what it was to become
pub Turned-more : {T : Type 0} (R : T → T → Type 0) (xs ys : List T) (i : ℕ) (z d : T) → i < length ys → Turned R i xs ys → R (get_or ys i d) z → Turned R (i + 1) xs (set ys i z)
Turned-more R xs ys i z d less turned here = let e : suc i ≡ i + 1 = omega arith in subst (λ n. Turned R n xs (set ys i z)) e (Turned-suc R xs ys i z d less turned here)

-- what was to be of each item that isn't reached yet
pub Turned-ahead : {T : Type 0} (R : T → T → Type 0) (P : T → Type 0) (xs ys : List T) (i : ℕ) (d : T) → i < length ys → Turned R i xs ys → AllByRecursion P xs → P (get_or ys i d)
Turned-ahead R P [] [] i d less turned each = absurd (omega (arith, less))
Turned-ahead R P [] (y ∷ ys) i d less turned each = absurd turned
Turned-ahead R P (x ∷ xs) [] i d less turned each = absurd turned
Turned-ahead R P (x ∷ xs) (y ∷ ys) zero d less turned each = subst P (sym turned.0) each.0
Turned-ahead R P (x ∷ xs) (y ∷ ys) (suc i) d less turned each = Turned-ahead R P xs ys i d (omega arith) turned.1 each.1

-- what an item shows, where all have become what they were to become
pub Turned-map : {T U : Type 0} (R : T → T → Type 0) (g : T → U) (f : U → U) → ((x y : T) → R x y → g y ≡ f (g x)) → (xs ys : List T) → Turned R (length xs) xs ys → map g ys ≡ map f (map g xs)
Turned-map R g f shows [] [] turned = refl
Turned-map R g f shows [] (y ∷ ys) turned = absurd turned
Turned-map R g f shows (x ∷ xs) [] turned = absurd turned
Turned-map R g f shows (x ∷ xs) (y ∷ ys) turned = λ j. shows x y turned.0 j ∷ Turned-map R g f shows xs ys turned.1 j

-- what an item shows, where an item shows the same in either case
pub Turned-same : {T U : Type 0} (R : T → T → Type 0) (g : T → U) → ((x y : T) → R x y → g y ≡ g x) → (xs ys : List T) (i : ℕ) → Turned R i xs ys → map g ys ≡ map g xs
Turned-same R g shows [] [] i turned = refl
Turned-same R g shows [] (y ∷ ys) i turned = absurd turned
Turned-same R g shows (x ∷ xs) [] i turned = absurd turned
Turned-same R g shows (x ∷ xs) (y ∷ ys) zero turned = λ j. ap g turned.0 j ∷ Turned-same R g shows xs ys zero turned.1 j
Turned-same R g shows (x ∷ xs) (y ∷ ys) (suc i) turned = λ j. shows x y turned.0 j ∷ Turned-same R g shows xs ys i turned.1 j

pub Turned-all : {T : Type 0} (R : T → T → Type 0) (P : T → Type 0) → ((x y : T) → R x y → P y) → (xs ys : List T) → Turned R (length xs) xs ys → AllByRecursion P ys
Turned-all R P is [] [] turned = tt
Turned-all R P is [] (y ∷ ys) turned = absurd turned
Turned-all R P is (x ∷ xs) [] turned = absurd turned
Turned-all R P is (x ∷ xs) (y ∷ ys) turned = (is x y turned.0, Turned-all R P is xs ys turned.1)

-- an item that shows the same in the place of another
pub map-set_same : {T U : Type 0} (g : T → U) (ys : List T) (i : ℕ) (z d : T) → i < length ys → g z ≡ g (get_or ys i d) → map g (set ys i z) ≡ map g ys
map-set_same g [] i z d less same = absurd (omega (arith, less))
map-set_same g (y ∷ ys) zero z d less same = λ j. same j ∷ map g ys
map-set_same g (y ∷ ys) (suc i) z d less same = λ j. g y ∷ map-set_same g ys i z d (omega arith) same j
