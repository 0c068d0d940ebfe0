-- What holds of each item of a list, through maps, filters, joins and turns of the list.
use Rattle.std.proofs.Common.{◌≡◌, ◌++◌, Bool, true, List, [], ◌∷◌, map, reverse, refl, sym, ap, subst}
use Rattle.std.specs.Prelude.{filter}
use Rattle.std.specs.List.{AllByRecursion}
use Rattle.std.proofs.lemmas.List.{reverse-append}
use Rattle.sx_model.proofs.TestLaws.{by_cases}

-- what holds of each item holds of each that passes
pub all_filter : {T : Type 0} (P : T → Type 0) (p : T → Bool) (xs : List T) → AllByRecursion P xs → AllByRecursion P (filter p xs)
all_filter P p [] all = tt
all_filter P p (x ∷ xs) all =
    let rest = all_filter P p xs all.1 in
    by_cases (p x) (λ t. rw t (all.0, rest)) (λ f. rw f rest)

-- and of each image
pub all_map_filter : {T S : Type 0} (P : S → Type 0) (f : T → S) (p : T → Bool) (xs : List T) → AllByRecursion P (map f xs) → AllByRecursion P (map f (filter p xs))
all_map_filter P f p [] all = tt
all_map_filter P f p (x ∷ xs) all =
    let rest = all_map_filter P f p xs all.1 in
    by_cases (p x) (λ t. rw t (all.0, rest)) (λ f. rw f rest)

-- what follows from what holds of each item
pub all_each : {T : Type 0} (P Q : T → Type 0) → ((x : T) → P x → Q x) → (xs : List T) → AllByRecursion P xs → AllByRecursion Q xs
all_each P Q each [] all = tt
all_each P Q each (x ∷ xs) all = (each x all.0, all_each P Q each xs all.1)

-- and of its image
pub all_images : {T S : Type 0} (P : T → Type 0) (Q : S → Type 0) (f : T → S) → ((x : T) → P x → Q (f x)) → (xs : List T) → AllByRecursion P xs → AllByRecursion Q (map f xs)
all_images P Q f each [] all = tt
all_images P Q f each (x ∷ xs) all = (each x all.0, all_images P Q f each xs all.1)

-- what holds of each item of two lists holds of each of both in a row
pub all_append : {T : Type 0} (P : T → Type 0) (xs ys : List T) → AllByRecursion P xs → AllByRecursion P ys → AllByRecursion P (xs ++ ys)
all_append P [] ys a b = b
all_append P (x ∷ xs) ys a b = (a.0, all_append P xs ys a.1 b)

-- and in turn
pub all_reverse : {T : Type 0} (P : T → Type 0) (xs : List T) → AllByRecursion P xs → AllByRecursion P (reverse xs)
all_reverse P [] a = tt
all_reverse P (x ∷ xs) a = subst (AllByRecursion P) (sym (reverse-append (x ∷ []) xs)) (all_append P (reverse xs) (x ∷ []) (all_reverse P xs a.1) (a.0, tt))

-- where all items pass a test, all are left
pub filter_all : {T : Type 0} (p : T → Bool) (xs : List T) → AllByRecursion (λ x. p x ≡ true) xs → filter p xs ≡ xs
filter_all p [] all = refl
filter_all p (x ∷ xs) all = rw all.0 (ap (λ rest. x ∷ rest) (filter_all p xs all.1))
