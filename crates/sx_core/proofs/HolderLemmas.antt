-- The least transaction that stands in the way: by the locks of a manager, and by the journal.
use Rattle.std.proofs.Common.{◌≡◌, ◌≤◌, ◌<◌, ◌==◌, ◌&&◌, inl, inr, not, ℕ, Bool, true, false, List, [], ◌∷◌, min, Option, Some, None, refl, sym, ap, ◌∙◌, subst, arith}
use Rattle.std.specs.Prelude.{filter}
use Rattle.std.proofs.lemmas.Bool.{cases_lt}
use Rattle.std.proofs.lemmas.Bool.Decides.{nat_tests}
use Rattle.sx_values.specs.declared.value.Value.{Value}
use Rattle.sx_locks.specs.declared.mode.Mode.{Mode}
use Rattle.sx_locks.specs.Modes.{is_against, is_other_against}
use Rattle.sx_locks.specs.Locks.{mode_held, IsLeastOther}
use Rattle.sx_txn.specs.Managed.{Managed}
use Rattle.sx_journal.specs.declared.entry.Entry.{Entry}
use Rattle.sx_model.specs.Openings.{Opening}
use Rattle.sx_model.specs.Leaves.{Living, living}
use Rattle.sx_model.specs.Held.{lock_of, holder}
use Rattle.sx_sync.specs.Ready.{lesser, least}
use Rattle.sx_model.specs.Legal.{Legal}
use Rattle.sx_model.proofs.TestLaws.{by_cases}
use Rattle.sx_core.specs.Kept.{ManagerMeets}
use Rattle.sx_core.proofs.LivingLemmas.{numbers, among, map_filter}
use Rattle.sx_core.proofs.LockLemmas.{locked_live}

-- none is least where none passes
pub least_none : (p : ℕ → Bool) (ns : List ℕ) → ((n : ℕ) → p n ≡ false) → least (filter p ns) ≡ None
least_none p [] none = refl
least_none p (n ∷ ns) none = rw (none n) (least_none p ns none)

lesser_above : (n by : ℕ) (rest : Option ℕ) → by ≤ n → ((k : ℕ) → rest ≡ Some k → by ≤ k) → by ≤ lesser n rest
lesser_above n by None first others = first
lesser_above n by (Some k) first others = let second = others k refl in omega arith

inside : (x y : ℕ) → Some x ≡ Some y → x ≡ y
inside x y e = cc

not_below : (p : ℕ → Bool) (by n : ℕ) → ((m : ℕ) → m < by → p m ≡ false) → p n ≡ true → by ≤ n
not_below p by n below passes = elim (cases_lt n by) [
  | inl less ↦ absurd (let no = below n less in cc)
  | inr above ↦ above
]

-- the least of those that pass isn't below one below which none passes
least_above : (p : ℕ → Bool) (ns : List ℕ) (by m : ℕ) → ((n : ℕ) → n < by → p n ≡ false) → least (filter p ns) ≡ Some m → by ≤ m
least_above p [] by m below is = absurd (cc)
least_above p (n ∷ ns) by m below is =
    by_cases (p n)
    (λ t.
    let shown : Some (lesser n (least (filter p ns))) ≡ Some m = rw t at is in
    subst (λ k. by ≤ k) (inside (lesser n (least (filter p ns))) m shown)
    (lesser_above n by (least (filter p ns)) (not_below p by n below t) (λ k e. least_above p ns by k below e)))
    (λ f. least_above p ns by m below (rw f at is))

lesser_first : (n by : ℕ) (rest : Option ℕ) → n ≡ by → ((k : ℕ) → rest ≡ Some k → by ≤ k) → lesser n rest ≡ by
lesser_first n by None same others = same
lesser_first n by (Some k) same others = let second = others k refl in omega arith

-- one that passes, below which none does, is the least of those that pass
pub least_some : (p : ℕ → Bool) (ns : List ℕ) (by : ℕ) → p by ≡ true → ((n : ℕ) → n < by → p n ≡ false) → among ns by ≡ true → least (filter p ns) ≡ Some by
least_some p [] by passes below is = absurd (cc)
least_some p (n ∷ ns) by passes below is = by_cases (n == by) this (other (λ rest. least_some p ns by passes below rest))
  where
    this : (n == by) ≡ true → least (filter p (n ∷ ns)) ≡ Some by
    this same =
        let e : n ≡ by = grind (arith, nat_tests) in
        let first : p n ≡ true = ap p e ∙ passes in
        rw first (ap Some (lesser_first n by (least (filter p ns)) e (λ k. least_above p ns by k below)))

    other : (among ns by ≡ true → least (filter p ns) ≡ Some by) → (n == by) ≡ false → least (filter p (n ∷ ns)) ≡ Some by
    other again differ =
        let rest = again (rw differ at is) in
        by_cases (p n)
        (λ t. let above = not_below p by n below t in rw (t, rest) (let e : min n by ≡ by = omega arith in ap Some e))
        (λ f. rw f rest)

-- ** the holders of a key **

-- whether another transaction stands against a request, by the journal
abbrev pub against : Opening → List Entry → ℕ → List ℕ → List Value → Mode → ℕ → Bool
against o past txn table key mode other = not (txn == other) && is_against (lock_of o past other table key) mode

pub holder-numbers : (o : Opening) (past : List Entry) (txn : ℕ) (table : List ℕ) (key : List Value) (mode : Mode)
    → holder o past txn table key mode ≡ least (filter (against o past txn table key mode) (numbers (living past)))
holder-numbers o past txn table key mode = ap least (map_filter (λ (l : Living). l.txn) (against o past txn table key mode) (living past))

against_is : (o : Opening) (past : List Entry) (m : Managed) (txn : ℕ) (table : List ℕ) (key : List Value) (mode : Mode) (other : ℕ) → ManagerMeets o past m
    → is_other_against (λ t. mode_held m.locks t table key) txn mode other ≡ against o past txn table key mode other
against_is o past m txn table key mode other meets = ap (λ held. not (txn == other) && is_against held mode) (meets.locks other table key)

-- who stands against a request has a lock
held_against : (held : Option Mode) (b : Bool) (mode : Mode) → (b && is_against held mode) ≡ true → (here : Mode) × (held ≡ Some here)
held_against None true mode is = absurd (cc)
held_against None false mode is = absurd (cc)
held_against (Some here) b mode is = (here, refl)

-- the holder that a manager names is the journal's
pub holder-named : (o : Opening) (past : List Entry) (m : Managed) (txn : ℕ) (table : List ℕ) (key : List Value) (mode : Mode) (by : ℕ) → Legal o past → ManagerMeets o past m
    → IsLeastOther m.locks txn table key mode (Some by) → holder o past txn table key mode ≡ Some by
holder-named o past m txn table key mode by legal meets named =
    let p = against o past txn table key mode in
    let passes : against o past txn table key mode by ≡ true = sym (against_is o past m txn table key mode by meets) ∙ named.against in
    let lock = held_against (lock_of o past by table key) (not (txn == by)) mode passes in
    let lives = locked_live o past by table key lock.0 legal lock.1 in
    holder-numbers o past txn table key mode
    ∙ least_some (against o past txn table key mode) (numbers (living past)) by passes (λ n below. sym (against_is o past m txn table key mode n meets) ∙ named.least n below) lives

-- and where it names none, there is none
pub holder-none : (o : Opening) (past : List Entry) (m : Managed) (txn : ℕ) (table : List ℕ) (key : List Value) (mode : Mode) → ManagerMeets o past m
    → IsLeastOther m.locks txn table key mode None → holder o past txn table key mode ≡ None
holder-none o past m txn table key mode meets none =
    holder-numbers o past txn table key mode
    ∙ least_none (against o past txn table key mode) (numbers (living past)) (λ n. sym (against_is o past m txn table key mode n meets) ∙ none n)
