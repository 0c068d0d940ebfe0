-- A manager's fields, from one turn to the next: over plain variables.
use Rattle.std.proofs.Common.{◌≡◌, ◌==◌, ◌||◌, ◌<◌, ◌≤◌, ◌+◌, ◌∷◌, [], not, ℕ, suc, List, length, map, Bool, true, false, cond, Option, arith, refl, sym, ◌∙◌, ap, subst}
use Rattle.std.specs.List.{AllByRecursion}
use Rattle.std.proofs.lemmas.Bool.{false≢true}
use Rattle.std.proofs.lemmas.Bool.Decides.{nat_tests}
use Rattle.sx_values.specs.declared.value.Value.{Value}
use Rattle.sx_log.specs.declared.record.Rec.{Rec}
use Rattle.sx_log.specs.declared.record.Body.TheVariants.{Write, Undo}
use Rattle.sx_log.specs.Undoing.{writes_left}
use Rattle.sx_txn.specs.Managed.{is_live, without, with_ending}
use Rattle.sx_txn.specs.Writes.{rest_of}
use Rattle.sx_txn.specs.declared.lives.Live.{Live}
use Rattle.sx_txn.specs.Lives.{Kept, kept_all, alive_of, alive_all, with_write, with_undo, kept_without, writes_of}
use Rattle.sx_txn.specs.Kept.{AreBelow, KeepsWrites}
use Rattle.sx_txn.proofs.LogLemmas.{left_other, left_write, left_undo}

-- ** live transactions **

pub length-kept : (living : List Live) → length (kept_all living) ≡ length living
length-kept [] = refl
length-kept (live ∷ living) = ap suc (length-kept living)

pub AreBelow-more : (limit more : ℕ) (kept : List Kept) → limit ≤ more → AreBelow limit kept → AreBelow more kept
AreBelow-more limit more [] le below = tt
AreBelow-more limit more (k ∷ kept) le below = (below.0, omega (arith, below.1), below.2)

pub AreBelow-without : (limit txn : ℕ) (kept : List Kept) → AreBelow limit kept → AreBelow limit (kept_without txn kept)
AreBelow-without limit txn [] below = tt
AreBelow-without limit txn (k ∷ kept) below = by (k.txn == txn) (AreBelow-without k.txn txn kept below.2)
  where
    by : (b : Bool) → AreBelow k.txn (kept_without txn kept) → AreBelow limit (cond (not b) (k ∷ kept_without txn kept) (kept_without txn kept))
    by true rest = let le : k.txn ≤ limit = omega (arith, below.1) in AreBelow-more k.txn limit (kept_without txn kept) le rest
    by false rest = (below.0, below.1, rest)

-- an equal number of the same transactions, in order
pub AreBelow-map : (f : Kept → Kept) → ((k : Kept) → (f k).txn ≡ k.txn) → (limit : ℕ) (kept : List Kept) → AreBelow limit kept → AreBelow limit (map f kept)
AreBelow-map f same limit [] below = tt
AreBelow-map f same limit (k ∷ kept) below = (
  subst (λ (n : ℕ). 0 < n) (sym (same k)) below.0,
  subst (λ (n : ℕ). n < limit) (sym (same k)) below.1,
  subst (λ (n : ℕ). AreBelow n (map f kept)) (sym (same k)) (AreBelow-map f same k.txn kept below.2),
)

pub length-map_kept : (f : Kept → Kept) (kept : List Kept) → length (map f kept) ≡ length kept
length-map_kept f [] = refl
length-map_kept f (k ∷ kept) = ap suc (length-map_kept f kept)

-- a transaction below all of these is none of them
absent_below : (txn limit : ℕ) (kept : List Kept) → limit ≤ txn → AreBelow limit kept → kept_without txn kept ≡ kept
absent_below txn limit [] le below = refl
absent_below txn limit (k ∷ kept) le below =
    let apart : (k.txn == txn) ≡ false = grind (arith, nat_tests) in
    let le' : k.txn ≤ txn = omega (arith, below.1) in
    rw apart (ap (λ rest. k ∷ rest) (absent_below txn k.txn kept le' below.2))

-- a live transaction is taken out once
pub length-without : (txn limit : ℕ) (kept : List Kept) → AreBelow limit kept → is_live (alive_all kept) txn ≡ true → length (kept_without txn kept) + 1 ≡ length kept
length-without txn limit [] below live = absurd (false≢true live)
length-without txn limit (k ∷ kept) below live = by (k.txn == txn) refl (λ h. length-without txn k.txn kept below.2 h) live
  where
    by : (b : Bool) → (k.txn == txn) ≡ b → (is_live (alive_all kept) txn ≡ true → length (kept_without txn kept) + 1 ≡ length kept) → (b || is_live (alive_all kept) txn) ≡ true → length (cond (not b) (k ∷ kept_without txn kept) (kept_without txn kept)) + 1 ≡ suc (length kept)
    by true e again h =
        let le : k.txn ≤ txn = grind (arith, nat_tests) in
        let same = ap length (absent_below txn k.txn kept le below.2) in
        omega (arith, same)
    by false e again h = let rest = again h in omega (arith, rest)

-- what a contract sees of the transactions without one
pub alive-without : (txn : ℕ) (kept : List Kept) → alive_all (kept_without txn kept) ≡ without txn (alive_all kept)
alive-without txn [] = refl
alive-without txn (k ∷ kept) = by (k.txn == txn) (alive-without txn kept)
  where
    by : (b : Bool) → alive_all (kept_without txn kept) ≡ without txn (alive_all kept)
        → alive_all (cond (not b) (k ∷ kept_without txn kept) (kept_without txn kept)) ≡ cond (not b) (alive_of k ∷ without txn (alive_all kept)) (without txn (alive_all kept))
    by true rest = rest
    by false rest = ap (λ living. alive_of k ∷ living) rest

-- a write leaves what a contract sees of the transactions
pub alive-write : (txn lsn : ℕ) (kept : List Kept) → alive_all (map (with_write txn lsn) kept) ≡ alive_all kept
alive-write txn lsn [] = refl
alive-write txn lsn (k ∷ kept) = λ i. by (k.txn == txn) i ∷ alive-write txn lsn kept i
  where
    by : (b : Bool) → alive_of (cond b (record { txn = k.txn; ending = k.ending; writes = lsn ∷ k.writes }) k) ≡ alive_of k
    by true = refl
    by false = refl

-- an undo makes its transaction an ending one
pub alive-undo : (txn : ℕ) (kept : List Kept) → alive_all (map (with_undo txn) kept) ≡ with_ending txn (alive_all kept)
alive-undo txn [] = refl
alive-undo txn (k ∷ kept) = λ i. by (k.txn == txn) i ∷ alive-undo txn kept i
  where
    by : (b : Bool) → alive_of (cond b (record { txn = k.txn; ending = true; writes = rest_of k.writes }) k) ≡ cond b (record { txn = k.txn; ending = true }) (alive_of k)
    by true = refl
    by false = refl

pub same-write : (txn lsn : ℕ) (k : Kept) → (with_write txn lsn k).txn ≡ k.txn
same-write txn lsn k = by (k.txn == txn)
  where
    by : (b : Bool) → (cond b (record { txn = k.txn; ending = k.ending; writes = lsn ∷ k.writes }) k).txn ≡ k.txn
    by true = refl
    by false = refl

pub same-undo : (txn : ℕ) (k : Kept) → (with_undo txn k).txn ≡ k.txn
same-undo txn k = by (k.txn == txn)
  where
    by : (b : Bool) → (cond b (record { txn = k.txn; ending = true; writes = rest_of k.writes }) k).txn ≡ k.txn
    by true = refl
    by false = refl

-- ** writes **

keeps-other : (r : Rec) (log : List Rec) (k : Kept) → (r.txn ≡ k.txn → ⊥) → KeepsWrites log k → KeepsWrites (r ∷ log) k
keeps-other r log k apart keeps = keeps ∙ sym (left_other k.txn r log apart)

-- a record of a transaction that is none of these
pub keep-others : (r : Rec) (log : List Rec) (kept : List Kept) → AllByRecursion (λ (k : Kept). r.txn ≡ k.txn → ⊥) kept → AllByRecursion (KeepsWrites log) kept → AllByRecursion (KeepsWrites (r ∷ log)) kept
keep-others r log [] apart each = tt
keep-others r log (k ∷ kept) apart each = (keeps-other r log k apart.0 each.0, keep-others r log kept apart.1 each.1)

pub apart-zero : (limit : ℕ) (kept : List Kept) → AreBelow limit kept → AllByRecursion (λ (k : Kept). 0 ≡ k.txn → ⊥) kept
apart-zero limit [] below = tt
apart-zero limit (k ∷ kept) below = (λ same. omega (arith, same, below.0), apart-zero k.txn kept below.2)

pub apart-without : (txn : ℕ) (kept : List Kept) → AllByRecursion (λ (k : Kept). txn ≡ k.txn → ⊥) (kept_without txn kept)
apart-without txn [] = tt
apart-without txn (k ∷ kept) = by (k.txn == txn) refl (apart-without txn kept)
  where
    by : (b : Bool) → (k.txn == txn) ≡ b → AllByRecursion (λ (j : Kept). txn ≡ j.txn → ⊥) (kept_without txn kept) → AllByRecursion (λ (j : Kept). txn ≡ j.txn → ⊥) (cond (not b) (k ∷ kept_without txn kept) (kept_without txn kept))
    by true e rest = rest
    by false e rest = (λ same. grind (arith, nat_tests), rest)

pub keep-without : (txn : ℕ) (log : List Rec) (kept : List Kept) → AllByRecursion (KeepsWrites log) kept → AllByRecursion (KeepsWrites log) (kept_without txn kept)
keep-without txn log [] each = tt
keep-without txn log (k ∷ kept) each = by (k.txn == txn) (keep-without txn log kept each.1)
  where
    by : (b : Bool) → AllByRecursion (KeepsWrites log) (kept_without txn kept) → AllByRecursion (KeepsWrites log) (cond (not b) (k ∷ kept_without txn kept) (kept_without txn kept))
    by true rest = rest
    by false rest = (each.0, rest)

-- a write of this record is left to its transaction
pub keep-write : (txn : ℕ) (table : List ℕ) (key : List Value) (before after : Option (List Value)) (log : List Rec) (kept : List Kept)
    → AllByRecursion (KeepsWrites log) kept
    → AllByRecursion (KeepsWrites (record { txn = txn; body = Write table key before after } ∷ log)) (map (with_write txn (length log + 1)) kept)
keep-write txn table key before after log [] each = tt
keep-write txn table key before after log (k ∷ kept) each = (by (k.txn == txn) refl, keep-write txn table key before after log kept each.1)
  where
    r : Rec
    r = record { txn = txn; body = Write table key before after }

    by : (b : Bool) → (k.txn == txn) ≡ b → KeepsWrites (r ∷ log) (cond b (record { txn = k.txn; ending = k.ending; writes = (length log + 1) ∷ k.writes }) k)
    by true e =
        let same : txn ≡ k.txn = grind (arith, nat_tests) in
        ap (λ left. (length log + 1) ∷ left) each.0 ∙ sym (left_write k.txn table key before after log) ∙ ap (λ (n : ℕ). writes_left k.txn (record { txn = n; body = Write table key before after } ∷ log)) (sym same)
    by false e = let apart : txn ≡ k.txn → ⊥ = λ same. grind (arith, nat_tests) in keeps-other r log k apart each.0

-- an undo of a transaction's last write takes it away
pub keep-undo : (txn lsn : ℕ) (left : List ℕ) (table : List ℕ) (key : List Value) (before after : Option (List Value)) (log : List Rec) (kept : List Kept)
    → writes_left txn log ≡ lsn ∷ left
    → AllByRecursion (KeepsWrites log) kept
    → AllByRecursion (KeepsWrites (record { txn = txn; body = Undo lsn table key before after } ∷ log)) (map (with_undo txn) kept)
keep-undo txn lsn left table key before after log [] is each = tt
keep-undo txn lsn left table key before after log (k ∷ kept) is each = (by (k.txn == txn) refl, keep-undo txn lsn left table key before after log kept is each.1)
  where
    r : Rec
    r = record { txn = txn; body = Undo lsn table key before after }

    by : (b : Bool) → (k.txn == txn) ≡ b → KeepsWrites (r ∷ log) (cond b (record { txn = k.txn; ending = true; writes = rest_of k.writes }) k)
    by true e =
        let same : txn ≡ k.txn = grind (arith, nat_tests) in
        let mine : writes_left k.txn log ≡ lsn ∷ left = ap (λ (n : ℕ). writes_left n log) (sym same) ∙ is in
        ap rest_of (each.0 ∙ mine) ∙ sym (left_undo k.txn lsn table key before after log left mine) ∙ ap (λ (n : ℕ). writes_left k.txn (record { txn = n; body = Undo lsn table key before after } ∷ log)) (sym same)
    by false e = let apart : txn ≡ k.txn → ⊥ = λ same. grind (arith, nat_tests) in keeps-other r log k apart each.0

-- the writes that a live transaction keeps are those that are left
pub writes_kept : (txn : ℕ) (log : List Rec) (kept : List Kept) → is_live (alive_all kept) txn ≡ true → AllByRecursion (KeepsWrites log) kept → writes_of kept txn ≡ writes_left txn log
writes_kept txn log [] live each = absurd (false≢true live)
writes_kept txn log (k ∷ kept) live each = by (k.txn == txn) refl (λ h. writes_kept txn log kept h each.1) live
  where
    by : (b : Bool) → (k.txn == txn) ≡ b → (is_live (alive_all kept) txn ≡ true → writes_of kept txn ≡ writes_left txn log) → (b || is_live (alive_all kept) txn) ≡ true → cond b k.writes (writes_of kept txn) ≡ writes_left txn log
    by true e again h = let same : k.txn ≡ txn = grind (arith, nat_tests) in each.0 ∙ ap (λ (n : ℕ). writes_left n log) same
    by false e again h = again h

-- a live transaction's number is among those that were begun
pub live-begun : (txn limit : ℕ) (kept : List Kept) → AreBelow limit kept → is_live (alive_all kept) txn ≡ true → txn < limit
live-begun txn limit [] below live = absurd (false≢true live)
live-begun txn limit (k ∷ kept) below live = by (k.txn == txn) refl (λ h. live-begun txn k.txn kept below.2 h) live
  where
    by : (b : Bool) → (k.txn == txn) ≡ b → (is_live (alive_all kept) txn ≡ true → txn < k.txn) → (b || is_live (alive_all kept) txn) ≡ true → txn < limit
    by true e again h = let less = below.1 in grind (arith, nat_tests)
    by false e again h = let less = again h in omega (arith, below.1)
