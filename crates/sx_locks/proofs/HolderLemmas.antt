-- The holders of one key: at a transaction, and the least that stands against another.
use Rattle.std.proofs.Common.{◌≡◌, ◌≤◌, ◌<◌, ◌&&◌, ◌∷◌, [], ℕ, List, Bool, true, false, not, Option, Some, None, refl, sym, ap, ◌∙◌, cond, arith, subst}
use Rattle.std.specs.Bool.{◌==◌}
use Rattle.std.specs.Map.{lookup, keys_of}
use Rattle.std.specs.BTreeMap.{is_at}
use Rattle.std.specs.Ordering.{nat_cmp}
use Rattle.std.specs.Cmp.{unsigned_tied}
use Rattle.std.specs.declared.cmp.Ordering.TheVariants.{Less}
use Rattle.std.specs.List.{AllByRecursion}
use Rattle.std.specs.List.Sorted.{IsStrictlySortedBy}
use Rattle.std.proofs.lemmas.Cmp.{ranked}
use Rattle.std.proofs.lemmas.Bool.{ne_eqb, eq-eqb, eqb-true}
use Rattle.std.proofs.lemmas.Map.Keys.{sorted_head, sorted_tail}
use Rattle.sx_locks.specs.declared.mode.Mode.{Mode}
use Rattle.sx_locks.specs.Modes.{mode_of, do_conflict, is_against, is_other_against, IsLeastAgainst, IsLeastOf}

-- a look-up by a number finds what the test of that number finds
pub lookup_number : {X : Type 0} (es : List (ℕ × X)) (n : ℕ) → lookup (is_at (nat_cmp n)) es ≡ lookup (λ other. n == other) es
lookup_number [] n = refl
lookup_number {X} (e ∷ es) n = rw (unsigned_tied n e.0) (ap (cond (n == e.0) (Some e.1)) (lookup_number es n))

-- a map that has something else at one number
pub lookup_number-update : {X : Type 0} (old new : List (ℕ × X)) (n : ℕ) (image : Option X) → ((q : ℕ) → lookup (is_at (nat_cmp q)) new ≡ cond (is_at (nat_cmp n) q) image (lookup (is_at (nat_cmp q)) old)) → (q : ℕ) → lookup (λ other. q == other) new ≡ cond (n == q) image (lookup (λ other. q == other) old)
lookup_number-update old new n image h q =
    sym (lookup_number new q) ∙ h q ∙ rw (unsigned_tied n q) (ap (cond (n == q) image) (lookup_number old q))

-- the first of these that stands against what another transaction asks
abbrev pub first_other : ℕ → Mode → List (ℕ × Mode) → Option ℕ
first_other txn asked [] = None
first_other txn asked (e ∷ es) = cond (not (txn == e.0) && do_conflict e.1 asked) (Some e.0) (first_other txn asked es)

-- a number below another isn't it
differs : (a b : ℕ) → a < b → (a == b) ≡ false
differs a b less = ne_eqb a b (λ e. omega arith)

below : (a b : ℕ) → nat_cmp a b ≡ Less → a < b
below a b e = ranked a b Less (sym e)

-- a transaction below all of these holds nothing
none_below : (es : List (ℕ × Mode)) (first other : ℕ) → AllByRecursion (λ y. nat_cmp first y ≡ Less) (keys_of es) → other ≤ first → mode_of es other ≡ None
none_below [] first other h le = refl
none_below (e ∷ es) first other h le =
    let less : first < e.0 = below first e.0 h.0 in
    let apart : (other == e.0) ≡ false = differs other e.0 (omega arith) in
    rw apart (none_below es first other h.1 le)

-- where the same transactions stand against what is asked, the same is the least
least_same : (held now : ℕ → Option Mode) (txn : ℕ) (asked : Mode) (answer : Option ℕ) → ((other : ℕ) → is_other_against now txn asked other ≡ is_other_against held txn asked other) → IsLeastOf held txn asked answer → IsLeastOf now txn asked answer
least_same held now txn asked None same least = λ other. same other ∙ least other
least_same held now txn asked (Some by) same least = record { against = same by ∙ least.against; least = λ other less. same other ∙ least.least other less }

not_against : (b : Bool) (asked : Mode) (mode : Option Mode) → mode ≡ None → (b && is_against mode asked) ≡ false
not_against true asked mode e = ap (λ m. is_against m asked) e
not_against false asked mode e = refl

-- of holders in order, the first that stands against what is asked is the least
pub least_first : (txn : ℕ) (asked : Mode) (es : List (ℕ × Mode)) → IsStrictlySortedBy nat_cmp (keys_of es) → IsLeastOf (mode_of es) txn asked (first_other txn asked es)
least_first txn asked [] sorted = λ other. not_against (not (txn == other)) asked None refl
least_first txn asked (e ∷ es) sorted = by (not (txn == e.0) && do_conflict e.1 asked) refl (least_first txn asked es (sorted_tail nat_cmp e.0 (keys_of es) sorted))
  where
    above : AllByRecursion (λ y. nat_cmp e.0 y ≡ Less) (keys_of es)
    above = sorted_head nat_cmp e.0 (keys_of es) sorted

    at_first : mode_of (e ∷ es) e.0 ≡ Some e.1
    at_first = rw (eq-eqb e.0 e.0 refl) refl

    lesser : (other : ℕ) → other < e.0 → mode_of (e ∷ es) other ≡ None
    lesser other less = rw (differs other e.0 less) (none_below es e.0 other above (omega arith))

    skipped : (not (txn == e.0) && do_conflict e.1 asked) ≡ false → (other : ℕ) → is_other_against (mode_of (e ∷ es)) txn asked other ≡ is_other_against (mode_of es) txn asked other
    skipped passed other = at (other == e.0) refl
      where
        at : (b : Bool) → (other == e.0) ≡ b → (not (txn == other) && is_against (cond b (Some e.1) (mode_of es other)) asked) ≡ (not (txn == other) && is_against (mode_of es other) asked)
        at false k = refl
        at true k =
            let same : other ≡ e.0 = eqb-true other e.0 k in
            rw same (passed ∙ sym (not_against (not (txn == e.0)) asked (mode_of es e.0) (none_below es e.0 e.0 above (omega arith))))

    by : (b : Bool) → (not (txn == e.0) && do_conflict e.1 asked) ≡ b → IsLeastOf (mode_of es) txn asked (first_other txn asked es) → IsLeastOf (mode_of (e ∷ es)) txn asked (cond b (Some e.0) (first_other txn asked es))
    by true k rest = record {
      against = ap (λ mode. not (txn == e.0) && is_against mode asked) at_first ∙ k;
      least = λ other less. not_against (not (txn == other)) asked (mode_of (e ∷ es) other) (lesser other less);
    }
    by false k rest = least_same (mode_of es) (mode_of (e ∷ es)) txn asked (first_other txn asked es) (skipped k) rest

-- where nobody holds anything, nobody stands against what is asked
pub least_of_none : (txn : ℕ) (asked : Mode) → IsLeastOf (λ other. None) txn asked None
least_of_none txn asked = λ other. not_against (not (txn == other)) asked None refl

-- where the first of those that are left stands against what is asked, it is the least of all
pub least_found : (all left rest : List (ℕ × Mode)) (txn : ℕ) (asked : Mode) (other : ℕ) (held : Mode) → IsStrictlySortedBy nat_cmp (keys_of all) → first_other txn asked left ≡ first_other txn asked all → left ≡ (other, held) ∷ rest → (txn ≡ other → ⊥) → do_conflict held asked ≡ true → IsLeastAgainst (mode_of all) txn asked other
least_found all left rest txn asked other held sorted same is apart conflict =
    subst (IsLeastOf (mode_of all) txn asked) (sym same ∙ ap (first_other txn asked) is ∙ found) (least_first txn asked all sorted)
  where
    found : first_other txn asked ((other, held) ∷ rest) ≡ Some other
    found = rw (ne_eqb txn other apart, conflict) refl

-- where none is left, nobody stands against what is asked
pub least_ended : (all left : List (ℕ × Mode)) (txn : ℕ) (asked : Mode) → IsStrictlySortedBy nat_cmp (keys_of all) → first_other txn asked left ≡ first_other txn asked all → left ≡ [] → IsLeastOf (mode_of all) txn asked None
least_ended all left txn asked sorted same none =
    subst (IsLeastOf (mode_of all) txn asked) (sym same ∙ ap (first_other txn asked) none) (least_first txn asked all sorted)
