-- Who lives, by the journal and by the manager.
use Rattle.std.proofs.Common.{◌≡◌, ◌≤◌, ◌+◌, ◌==◌, ◌&&◌, ◌||◌, not, ℕ, Bool, true, false, List, [], ◌∷◌, length, map, Some, refl, sym, ap, ◌∙◌, subst, arith}
use Rattle.std.specs.Prelude.{filter, nat_eq}
use Rattle.std.specs.List.{IsDistinct, AllByRecursion, list_any}
use Rattle.std.proofs.lemmas.Bool.Decides.{nat_tests}
use Rattle.sx_txn.specs.Managed.{Alive, is_live, is_ending as ends_in, without as alive_without, with_ending, ending_if}
use Rattle.sx_model.specs.Leaves.{Living, txn_among, without}
use Rattle.sx_model.specs.Clients.{IsLiving}
use Rattle.sx_model.proofs.TestLaws.{by_cases}

-- the numbers of live transactions
abbrev pub numbers : List Living → List ℕ
numbers living = map (λ (l : Living). l.txn) living

abbrev pub alive_numbers : List Alive → List ℕ
alive_numbers living = map (λ (a : Alive). a.txn) living

-- whether a number is among these
abbrev pub among : List ℕ → ℕ → Bool
among ns n = list_any (λ m. m == n) ns

-- these numbers without one
abbrev pub but : ℕ → List ℕ → List ℕ
but n ns = filter (λ m. not (m == n)) ns

pub live_among : (ms : List Alive) (t : ℕ) → is_live ms t ≡ among (alive_numbers ms) t
live_among [] t = refl
live_among (a ∷ ms) t = ap (λ b. (a.txn == t) || b) (live_among ms t)

-- the numbers of the items that pass a test of their numbers
pub map_filter : {T : Type 0} (f : T → ℕ) (p : ℕ → Bool) (xs : List T) → map f (filter (λ x. p (f x)) xs) ≡ filter p (map f xs)
map_filter f p [] = refl
map_filter f p (x ∷ xs) = by_cases (p (f x)) (λ t. rw t (ap (λ l. f x ∷ l) (map_filter f p xs))) (λ e. rw e (map_filter f p xs))

-- a number that differs from all of these is none of them
keep_others : (ns : List ℕ) (n k : ℕ) → (k == n) ≡ true → AllByRecursion (λ y. nat_eq k y ≡ false) ns → but n ns ≡ ns
keep_others [] n k same all = refl
keep_others (m ∷ ns) n k same all =
    let apart : (m == n) ≡ false = (let h = all.0 in grind (arith, nat_tests)) in
    rw apart (ap (λ l. m ∷ l) (keep_others ns n k same all.1))

keep_clients : (xs : List Living) (client k : ℕ) → (k == client) ≡ true → AllByRecursion (λ y. nat_eq k y ≡ false) (map (λ (l : Living). l.client) xs) → without client xs ≡ xs
keep_clients [] client k same all = refl
keep_clients (x ∷ xs) client k same all =
    let apart : (x.client == client) ≡ false = (let h = all.0 in grind (arith, nat_tests)) in
    rw apart (ap (λ l. x ∷ l) (keep_clients xs client k same all.1))

-- a number that none of these has isn't that of a client among them
txn_apart : (xs : List Living) (client txn k : ℕ) → txn_among xs client ≡ Some txn → AllByRecursion (λ y. nat_eq k y ≡ false) (numbers xs) → (k == txn) ≡ false
txn_apart [] client txn k is all = absurd (cc)
txn_apart (x ∷ xs) client txn k is all =
    by_cases (x.client == client)
    (λ t. let shown : Some x.txn ≡ Some txn = rw t at is in let same : x.txn ≡ txn = cc in subst (λ n. nat_eq k n ≡ false) same all.0)
    (λ f. txn_apart xs client txn k (rw f at is) all.1)

-- taking out the client takes out its transaction
pub ended_same : (xs : List Living) (client txn : ℕ) → IsDistinct nat_eq (map (λ (l : Living). l.client) xs) → IsDistinct nat_eq (numbers xs) → txn_among xs client ≡ Some txn
    → numbers (without client xs) ≡ but txn (numbers xs)
unfolding IsDistinct
ended_same [] client txn clients txns is = absurd (cc)
ended_same (x ∷ xs) client txn clients txns is = by_cases (x.client == client) here (there (λ rest. ended_same xs client txn clients.1 txns.1 rest))
  where
    here : (x.client == client) ≡ true → numbers (without client (x ∷ xs)) ≡ but txn (numbers (x ∷ xs))
    here t =
        let shown : Some x.txn ≡ Some txn = rw t at is in
        let same : x.txn ≡ txn = cc in
        let this : (x.txn == txn) ≡ true = grind (arith, nat_tests) in
        rw (t, this) (ap numbers (keep_clients xs client x.client t clients.0) ∙ sym (keep_others (numbers xs) txn x.txn this txns.0))

    there : (txn_among xs client ≡ Some txn → numbers (without client xs) ≡ but txn (numbers xs)) → (x.client == client) ≡ false → numbers (without client (x ∷ xs)) ≡ but txn (numbers (x ∷ xs))
    there again f =
        let rest : txn_among xs client ≡ Some txn = rw f at is in
        let other : (x.txn == txn) ≡ false = txn_apart xs client txn x.txn rest txns.0 in
        rw (f, other) (ap (λ l. x.txn ∷ l) (again rest))

-- the transaction of a client is among them
pub txn_is_among : (xs : List Living) (client txn : ℕ) → txn_among xs client ≡ Some txn → among (numbers xs) txn ≡ true
txn_is_among [] client txn is = absurd (cc)
txn_is_among (x ∷ xs) client txn is =
    by_cases (x.client == client)
    (λ t. let shown : Some x.txn ≡ Some txn = rw t at is in let same : x.txn ≡ txn = cc in let this : (x.txn == txn) ≡ true = grind (arith, nat_tests) in rw this refl)
    (λ f. or_rest (x.txn == txn) (txn_is_among xs client txn (rw f at is)))
  where
    or_rest : (a : Bool) → among (numbers xs) txn ≡ true → (a || among (numbers xs) txn) ≡ true
    or_rest true e = refl
    or_rest false e = e

without_fewer : (xs : List Living) (client : ℕ) → length (without client xs) ≤ length xs
without_fewer [] client = omega arith
without_fewer (x ∷ xs) client = let rest = without_fewer xs client in by_cases (x.client == client) (λ t. rw t (omega arith)) (λ f. rw f (omega arith))

-- one less lives where a client's transaction has ended
pub one_fewer : (xs : List Living) (client txn : ℕ) → txn_among xs client ≡ Some txn → length (without client xs) + 1 ≤ length xs
one_fewer [] client txn is = absurd (cc)
one_fewer (x ∷ xs) client txn is =
    let rest = without_fewer xs client in
    by_cases (x.client == client) (λ t. rw t (omega arith)) (λ f. let more = one_fewer xs client txn (rw f at is) in rw f (omega arith))

-- each of them was begun
pub among_begun : (n : ℕ) (xs : List Living) (t : ℕ) → AllByRecursion (IsLiving n) xs → among (numbers xs) t ≡ true → t ≤ n
among_begun n [] t all is = absurd (cc)
among_begun n (x ∷ xs) t all is =
    by_cases (x.txn == t)
    (λ same. let h = all.0.to_begun in let e : x.txn ≡ t = grind (arith, nat_tests) in omega arith)
    (λ other. among_begun n xs t all.1 (rw other at is))

-- another number stays among the rest
pub among_but : (ns : List ℕ) (n t : ℕ) → (n == t) ≡ false → among ns t ≡ true → among (but n ns) t ≡ true
among_but [] n t apart is = absurd (cc)
among_but (m ∷ ns) n t apart is = by_cases (m == n) (out (λ rest. among_but ns n t apart rest)) (stays (λ rest. among_but ns n t apart rest))
  where
    out : (among ns t ≡ true → among (but n ns) t ≡ true) → (m == n) ≡ true → among (but n (m ∷ ns)) t ≡ true
    out again same =
        let other : (m == t) ≡ false = grind (arith, nat_tests) in
        let rest : among ns t ≡ true = rw other at is in
        rw same (again rest)

    stays : (among ns t ≡ true → among (but n ns) t ≡ true) → (m == n) ≡ false → among (but n (m ∷ ns)) t ≡ true
    stays again differ = rw differ (by_cases (m == t) (λ here. rw here refl) (λ other. rw other (again (rw other at is))))

-- ** a manager's transactions without one, or with one that is ending **

pub numbers-without : (txn : ℕ) (ms : List Alive) → alive_numbers (alive_without txn ms) ≡ but txn (alive_numbers ms)
numbers-without txn ms = map_filter (λ (a : Alive). a.txn) (λ n. not (n == txn)) ms

pub ends-without : (ms : List Alive) (txn t : ℕ) → (txn == t) ≡ false → ends_in (alive_without txn ms) t ≡ ends_in ms t
ends-without [] txn t apart = refl
ends-without (a ∷ ms) txn t apart = by_cases (a.txn == txn) (out (ends-without ms txn t apart)) (stays (ends-without ms txn t apart))
  where
    out : ends_in (alive_without txn ms) t ≡ ends_in ms t → (a.txn == txn) ≡ true → ends_in (alive_without txn (a ∷ ms)) t ≡ ends_in (a ∷ ms) t
    out again same = let other : (a.txn == t) ≡ false = grind (arith, nat_tests) in rw (same, other) again

    stays : ends_in (alive_without txn ms) t ≡ ends_in ms t → (a.txn == txn) ≡ false → ends_in (alive_without txn (a ∷ ms)) t ≡ ends_in (a ∷ ms) t
    stays again differ = rw differ (ap (λ b. (a.txn == t && a.ending) || b) again)

-- who lives without it is another, that lived
pub live_without : (ms : List Alive) (txn t : ℕ) → is_live (alive_without txn ms) t ≡ true → ((txn == t) ≡ false) × (is_live ms t ≡ true)
live_without [] txn t live = absurd (cc)
live_without (a ∷ ms) txn t live = by_cases (a.txn == txn) (out (λ rest. live_without ms txn t rest)) (stays (λ rest. live_without ms txn t rest))
  where
    or_true : (b c : Bool) → c ≡ true → (b || c) ≡ true
    or_true true c e = refl
    or_true false c e = e

    out : (is_live (alive_without txn ms) t ≡ true → ((txn == t) ≡ false) × (is_live ms t ≡ true)) → (a.txn == txn) ≡ true → ((txn == t) ≡ false) × (is_live (a ∷ ms) t ≡ true)
    out again same =
        let rest = again (rw same at live) in
        (rest.0, or_true (a.txn == t) (is_live ms t) rest.1)

    stays : (is_live (alive_without txn ms) t ≡ true → ((txn == t) ≡ false) × (is_live ms t ≡ true)) → (a.txn == txn) ≡ false → ((txn == t) ≡ false) × (is_live (a ∷ ms) t ≡ true)
    stays again differ =
        let kept : ((a.txn == t) || is_live (alive_without txn ms) t) ≡ true = rw differ at live in
        by_cases (a.txn == t)
        (λ here. let apart : (txn == t) ≡ false = grind (arith, nat_tests) in (apart, rw here refl))
        (λ other. let rest = again (rw other at kept) in (rest.0, or_true (a.txn == t) (is_live ms t) rest.1))

same_number : (txn : ℕ) (a : Alive) → (ending_if txn a).txn ≡ a.txn
same_number txn a = by_cases (a.txn == txn) (λ t. rw t refl) (λ f. rw f refl)

pub numbers-with_ending : (txn : ℕ) (ms : List Alive) → alive_numbers (with_ending txn ms) ≡ alive_numbers ms
numbers-with_ending txn [] = refl
numbers-with_ending txn (a ∷ ms) = λ i. same_number txn a i ∷ numbers-with_ending txn ms i

pub ends-with_ending : (ms : List Alive) (txn t : ℕ) → (txn == t) ≡ false → ends_in (with_ending txn ms) t ≡ ends_in ms t
ends-with_ending [] txn t apart = refl
ends-with_ending (a ∷ ms) txn t apart = by_cases (a.txn == txn) (this (ends-with_ending ms txn t apart)) (other (ends-with_ending ms txn t apart))
  where
    this : ends_in (with_ending txn ms) t ≡ ends_in ms t → (a.txn == txn) ≡ true → ends_in (with_ending txn (a ∷ ms)) t ≡ ends_in (a ∷ ms) t
    this again same = let differ : (a.txn == t) ≡ false = grind (arith, nat_tests) in rw (same, differ) again

    other : ends_in (with_ending txn ms) t ≡ ends_in ms t → (a.txn == txn) ≡ false → ends_in (with_ending txn (a ∷ ms)) t ≡ ends_in (a ∷ ms) t
    other again differ = rw differ (ap (λ b. (a.txn == t && a.ending) || b) again)

pub ends-this : (ms : List Alive) (txn t : ℕ) → (txn == t) ≡ true → is_live ms t ≡ true → ends_in (with_ending txn ms) t ≡ true
ends-this [] txn t same live = absurd (cc)
ends-this (a ∷ ms) txn t same live = by_cases (a.txn == txn) this (other (λ rest. ends-this ms txn t same rest))
  where
    this : (a.txn == txn) ≡ true → ends_in (with_ending txn (a ∷ ms)) t ≡ true
    this e = let here : (a.txn == t) ≡ true = grind (arith, nat_tests) in rw (e, here) refl

    other : (is_live ms t ≡ true → ends_in (with_ending txn ms) t ≡ true) → (a.txn == txn) ≡ false → ends_in (with_ending txn (a ∷ ms)) t ≡ true
    other again e =
        let differ : (a.txn == t) ≡ false = grind (arith, nat_tests) in
        rw (e, differ) (again (rw differ at live))

-- who is ending lives
pub ends_live : (ms : List Alive) (t : ℕ) → is_live ms t ≡ false → ends_in ms t ≡ false
ends_live [] t dead = refl
ends_live (a ∷ ms) t dead = by_cases (a.txn == t) (λ here. let no : true ≡ false = rw here at dead in absurd (cc)) (λ other. rw other (ends_live ms t (rw other at dead)))
