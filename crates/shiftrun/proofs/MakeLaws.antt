-- Rows that may be loaded have no fault, so that a machine is made of them.
use Rattle.std.proofs.Common.{◌≡◌, ◌≤◌, ◌++◌, ◌+◌, ◌⊎◌, ℕ, Bool, true, false, not, List, [], ◌∷◌, length, Some, None, refl, ap, ◌∙◌, inl, inr, arith}
use Rattle.std.specs.Prelude.{nat_lt, option_map}
use Rattle.std.specs.List.{list_any, AllByRecursion}
use Rattle.std.proofs.lemmas.Bool.Decides.{nat_tests}
use Rattle.sx_lists.specs.Answers.{or_later}
use Rattle.sx_values.specs.declared.catalog.Declared.{Declared}
use Rattle.sx_values.specs.Catalogs.{schema_of}
use Rattle.sx_log.specs.declared.record.Load.{Load}
use Rattle.sx_model.specs.Loads.{IsAdmitted, is_repeated, AreApart, loaded_into, AreLoads}
use Rattle.sx_model.proofs.TestLaws.{by_cases}
use Rattle.sx_core.specs.declared.make.MakeFault.{MakeFault}
use Rattle.sx_core.specs.declared.make.MakeFault.TheVariants.{Memory, TooManyRows, BadRow as Bad}
use Rattle.sx_core.specs.Loading.{crowded, repeated_at, load_fault, first_load_fault, make_fault}

-- no table is crowded
uncrowded : (catalog : List Declared) (loads : List Load) → ((table : List ℕ) → length (loaded_into table loads) ≤ 100000) → crowded catalog loads ≡ None
uncrowded [] loads few = refl
uncrowded (declared ∷ catalog) loads few =
    let h = few declared.name in
    let more : nat_lt 100000 (length (loaded_into declared.name loads)) ≡ false = grind (arith, nat_tests) in
    rw more (uncrowded catalog loads few)

-- none of these rows has the key of an earlier one
abbrev AreNew : List Declared → (earlier loads : List Load) → Type 0
AreNew catalog earlier loads = AllByRecursion (λ (load : Load). list_any (λ other. is_repeated catalog other load) earlier ≡ false) loads

any_later : {T : Type 0} (p : T → Bool) (xs : List T) (x : T) → list_any p xs ≡ false → p x ≡ false → list_any p (xs ++ x ∷ []) ≡ false
any_later p [] x none here = rw here refl
any_later p (y ∷ ys) x none here =
    by_cases (p y) (λ t. absurd (let found : list_any p (y ∷ ys) ≡ true = rw t refl in cc)) (λ f. rw f (any_later p ys x (rw f at none) here))

new_behind : (catalog : List Declared) (load : Load) (earlier loads : List Load) → list_any (is_repeated catalog load) loads ≡ false → AreNew catalog earlier loads → AreNew catalog (earlier ++ load ∷ []) loads
new_behind catalog load earlier [] none all = tt
new_behind catalog load earlier (l ∷ loads) none all =
    by_cases (is_repeated catalog load l)
    (λ t. absurd (let found : list_any (is_repeated catalog load) (l ∷ loads) ≡ true = rw t refl in cc))
    (λ f. (any_later (λ other. is_repeated catalog other l) earlier load all.0 f, new_behind catalog load earlier loads (rw f at none) all.1))

all_new : (catalog : List Declared) (loads : List Load) → AreNew catalog [] loads
all_new catalog [] = tt
all_new catalog (load ∷ loads) = (refl, all_new catalog loads)

not_true : (b : Bool) → not b ≡ true → b ≡ false
not_true true e = absurd (cc)
not_true false e = refl

admitted_fault : (catalog : List Declared) (earlier : List Load) (place : ℕ) (load : Load) → IsAdmitted catalog load → list_any (λ other. is_repeated catalog other load) earlier ≡ false → load_fault catalog earlier place load (schema_of catalog load.table) ≡ None
admitted_fault catalog earlier place load a new =
    ap (load_fault catalog earlier place load) a.declared
    ∙ (ap (λ bad. or_later (option_map (Bad place) bad) (repeated_at place (list_any (λ other. is_repeated catalog other load) earlier))) a.admitted
    ∙ ap (repeated_at place) new)

faultless : (catalog : List Declared) (earlier loads : List Load) → AllByRecursion (IsAdmitted catalog) loads → AreApart catalog loads → AreNew catalog earlier loads → first_load_fault catalog earlier loads ≡ None
faultless catalog earlier [] all apart new = refl
faultless catalog earlier (load ∷ loads) all apart new =
    ap (λ fault. or_later fault (first_load_fault catalog (earlier ++ load ∷ []) loads)) (admitted_fault catalog earlier (length earlier + 1) load all.0 new.0)
    ∙ faultless catalog (earlier ++ load ∷ []) loads all.1 apart.1 (new_behind catalog load earlier loads (not_true (list_any (is_repeated catalog load) loads) apart.0) new.1)

pub no_make_fault : (catalog : List Declared) (loads : List Load) → AreLoads catalog loads → make_fault catalog loads ≡ None
no_make_fault catalog loads are =
    ap (λ table. or_later (option_map TooManyRows table) (first_load_fault catalog [] loads)) (uncrowded catalog loads are.few)
    ∙ faultless catalog [] loads are.admitted are.apart (all_new catalog loads)

-- so only memory can be wanting
pub only_memory : (catalog : List Declared) (loads : List Load) (fault : MakeFault) → AreLoads catalog loads → (fault ≡ Memory) ⊎ (make_fault catalog loads ≡ Some fault) → fault ≡ Memory
only_memory catalog loads fault are (inl memory) = memory
only_memory catalog loads fault are (inr found) = absurd (let none = no_make_fault catalog loads are in cc)
