-- The writes that are left to undo, as a log grows.
use Rattle.std.proofs.Common.{◌≡◌, ◌==◌, ◌<◌, ◌≤◌, ◌+◌, ◌∷◌, [], not, ℕ, suc, List, length, Bool, true, false, cond, Option, Some, arith, refl, ◌∙◌, ap, subst, eq-eqb}
use Rattle.std.specs.List.{AllByRecursion}
use Rattle.std.proofs.lemmas.Bool.Decides.{nat_tests}
use Rattle.sx_lists.specs.Places.{numbered}
use Rattle.sx_values.specs.declared.value.Value.{Value}
use Rattle.sx_log.specs.declared.record.Rec.{Rec}
use Rattle.sx_log.specs.declared.record.Body.{Body}
use Rattle.sx_log.specs.declared.record.Body.TheVariants.{Write, Undo, Commit, Abort, Mark, Check, Switch}
use Rattle.sx_log.specs.Undoing.{writes_left, left_after, without_lsn}

-- LSNs that fall strictly, from below a limit
abbrev pub FallBelow : ℕ → List ℕ → Type 0
FallBelow limit [] = Unit {0}
FallBelow limit (lsn ∷ lsns) = (lsn < limit) × FallBelow lsn lsns

FallBelow-more : (limit more : ℕ) (lsns : List ℕ) → limit ≤ more → FallBelow limit lsns → FallBelow more lsns
FallBelow-more limit more [] le falls = tt
FallBelow-more limit more (lsn ∷ lsns) le falls = (omega (arith, falls.0), falls.1)

FallBelow-without : (limit out : ℕ) (lsns : List ℕ) → FallBelow limit lsns → FallBelow limit (without_lsn out lsns)
FallBelow-without limit out [] falls = tt
FallBelow-without limit out (lsn ∷ lsns) falls = by (lsn == out) (FallBelow-without lsn out lsns falls.1)
  where
    by : (b : Bool) → FallBelow lsn (without_lsn out lsns) → FallBelow limit (cond (not b) (lsn ∷ without_lsn out lsns) (without_lsn out lsns))
    by true rest = let le : lsn ≤ limit = omega (arith, falls.0) in FallBelow-more lsn limit (without_lsn out lsns) le rest
    by false rest = (falls.0, rest)

falls_after : (n : ℕ) (body : Body) (left : List ℕ) → FallBelow (n + 1) left → FallBelow (suc n + 1) (left_after (n + 1) body left)
unfolding left_after
falls_after n (Write table key before after) left falls = (omega arith, falls)
falls_after n (Undo undoes table key before after) left falls = FallBelow-more (n + 1) (suc n + 1) (without_lsn undoes left) (omega arith) (FallBelow-without (n + 1) undoes left falls)
falls_after n Commit left falls = FallBelow-more (n + 1) (suc n + 1) left (omega arith) falls
falls_after n Abort left falls = FallBelow-more (n + 1) (suc n + 1) left (omega arith) falls
falls_after n Mark left falls = FallBelow-more (n + 1) (suc n + 1) left (omega arith) falls
falls_after n (Check group dep) left falls = FallBelow-more (n + 1) (suc n + 1) left (omega arith) falls
falls_after n Switch left falls = FallBelow-more (n + 1) (suc n + 1) left (omega arith) falls

-- the writes that are left fall strictly, and are records of the log
pub left_falls : (txn : ℕ) (log : List Rec) → FallBelow (length log + 1) (writes_left txn log)
left_falls txn [] = tt
left_falls txn (r ∷ past) = by (r.txn == txn) (left_falls txn past)
  where
    by : (b : Bool) → FallBelow (length past + 1) (writes_left txn past) → FallBelow (suc (length past) + 1) (cond b (left_after (length past + 1) r.body (writes_left txn past)) (writes_left txn past))
    by true falls = falls_after (length past) r.body (writes_left txn past) falls
    by false falls = FallBelow-more (length past + 1) (suc (length past) + 1) (writes_left txn past) (omega arith) falls

differs : (n m : ℕ) → (n ≡ m → ⊥) → (n == m) ≡ false
differs n m apart = grind (arith, nat_tests)

-- what falls from below an LSN lacks it
without-absent : (limit lsn : ℕ) (lsns : List ℕ) → limit ≤ lsn → FallBelow limit lsns → without_lsn lsn lsns ≡ lsns
without-absent limit lsn [] le falls = refl
without-absent limit lsn (first ∷ lsns) le falls =
    let apart : (first == lsn) ≡ false = differs first lsn (λ same. omega (arith, falls.0, same)) in
    let le' : first ≤ lsn = omega (arith, falls.0) in
    rw apart (ap (λ rest. first ∷ rest) (without-absent first lsn lsns le' falls.1))

same_number : (n : ℕ) → (n == n) ≡ true
same_number n = eq-eqb n n refl

-- the first of falling LSNs is the only one of its kind
without-first : (limit lsn : ℕ) (lsns : List ℕ) → FallBelow limit (lsn ∷ lsns) → without_lsn lsn (lsn ∷ lsns) ≡ lsns
without-first limit lsn lsns falls = rw (same_number lsn) (without-absent lsn lsn lsns (omega arith) falls.1)

-- another transaction's record leaves the writes
pub left_other : (txn : ℕ) (r : Rec) (log : List Rec) → (r.txn ≡ txn → ⊥) → writes_left txn (r ∷ log) ≡ writes_left txn log
left_other txn r log apart = let e : (r.txn == txn) ≡ false = differs r.txn txn apart in rw e refl

-- a write is left to undo
pub left_write : (txn : ℕ) (table : List ℕ) (key : List Value) (before after : Option (List Value)) (log : List Rec)
    → writes_left txn (record { txn = txn; body = Write table key before after } ∷ log) ≡ (length log + 1) ∷ writes_left txn log
unfolding left_after
left_write txn table key before after log = rw (same_number txn) refl

-- an undo takes the last of the writes away
pub left_undo : (txn lsn : ℕ) (table : List ℕ) (key : List Value) (before after : Option (List Value)) (log : List Rec) (left : List ℕ) → writes_left txn log ≡ lsn ∷ left
    → writes_left txn (record { txn = txn; body = Undo lsn table key before after } ∷ log) ≡ left
unfolding left_after
left_undo txn lsn table key before after log left is =
    rw (same_number txn) (ap (without_lsn lsn) is ∙ without-first (length log + 1) lsn left (subst (FallBelow (length log + 1)) is (left_falls txn log)))

-- a transaction whose number no record has, has no writes
pub left_none : (begun txn : ℕ) (log : List Rec) → begun < txn → AllByRecursion (λ (r : Rec). r.txn ≤ begun) log → writes_left txn log ≡ []
left_none begun txn [] less each = refl
left_none begun txn (r ∷ past) less each = left_other txn r past (λ same. omega (arith, same, each.0)) ∙ left_none begun txn past less each.1

-- a number that is there is that of a record
pub numbered_within : (log : List Rec) (n : ℕ) (r : Rec) → numbered log n ≡ Some r → n ≤ length log
numbered_within [] n r is = absurd (cc)
numbered_within (first ∷ past) n r is = by (n == length past + 1) refl (λ found. numbered_within past n r found) is
  where
    by : (b : Bool) → (n == length past + 1) ≡ b → (numbered past n ≡ Some r → n ≤ length past) → cond b (Some first) (numbered past n) ≡ Some r → n ≤ suc (length past)
    by true e rest found = grind (arith, nat_tests)
    by false e rest found = let le = rest found in omega arith

-- a record keeps its number as the log grows
pub numbered_more : (log : List Rec) (n : ℕ) (r first : Rec) → numbered log n ≡ Some r → numbered (first ∷ log) n ≡ Some r
numbered_more log n r first is =
    let le = numbered_within log n r is in
    let apart : (n == length log + 1) ≡ false = differs n (length log + 1) (λ same. omega arith) in
    rw apart is

-- the newest record has the greatest number
pub numbered_newest : (log : List Rec) (r : Rec) → numbered (r ∷ log) (length log + 1) ≡ Some r
numbered_newest log r = rw (same_number (length log + 1)) refl
