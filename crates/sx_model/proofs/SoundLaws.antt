-- What holds of live transactions, the log and the locks, and how each kind of entry keeps it.
use Rattle.std.proofs.Common.{◌≡◌, ◌≤◌, ◌<◌, ◌+◌, ◌==◌, ◌&&◌, ◌||◌, ◌⊎◌, inl, inr, ℕ, Bool, true, false, List, [], ◌∷◌, Option, Some, refl, sym, ap, ◌∙◌, subst, arith}
use Rattle.std.specs.List.{AllByRecursion}
use Rattle.std.proofs.lemmas.Bool.{eqb-true}
use Rattle.std.proofs.lemmas.Bool.Decides.{nat_tests}
use Rattle.sx_values.specs.declared.value.Value.{Value}
use Rattle.sx_log.specs.declared.record.Rec.{Rec}
use Rattle.sx_log.specs.declared.record.Body.{Body}
use Rattle.sx_log.specs.declared.record.Body.TheVariants.{Write, Undo, Commit, Abort, Mark, Check, Switch}
use Rattle.sx_log.specs.State.{is_place}
use Rattle.sx_log.specs.Undoing.{writes_left}
use Rattle.sx_log.specs.Committed.{is_write, is_commit, commits}
use Rattle.sx_locks.specs.declared.mode.Mode.{Mode}
use Rattle.sx_locks.specs.declared.mode.Mode.TheVariants.{Exclusive}
use Rattle.sx_model.specs.NewRows.{Firsts, row_from}
use Rattle.sx_model.specs.Leaves.{Living}
use Rattle.sx_model.specs.Logs.{write_record}
use Rattle.sx_model.specs.Undone.{is_undo, has_undone}
use Rattle.sx_model.proofs.AllLaws.{all_each}
use Rattle.sx_model.proofs.TestLaws.{by_cases, and_false_first, and_false_second, or_rest, neither, turned}
use Rattle.sx_model.proofs.RowLaws.{commits-later}
use Rattle.sx_model.proofs.LeftLaws.{is_silent, left-other, touches, touches-kept}
use Rattle.sx_model.proofs.RollbackLaws.{Lives, IsAlone, IsOpen, Stands, passes_by, written_passes, IsLastLeft, undone_passes, last_touches, by_place, written_stands, undone_stands}
use Rattle.sx_model.proofs.EndingLaws.{Ends, noted_passes, silent_left, IsUnknown, Begins, begun_stands}

-- live transactions of so many that were begun, their log, who is ending, and the locks
pub record Sound (f : Firsts) (living : List Living) (begun : ℕ) (log : List Rec) (ending : ℕ → Bool) (lock : ℕ → List ℕ → List Value → Option Mode) : Type 0 where
  -- each record's transaction has begun
  pub numbers : AllByRecursion (λ (r : Rec). r.txn ≤ begun) log
  -- no live transaction has committed
  pub unended : (txn : ℕ) → Lives living txn → commits log txn ≡ false
  -- those are ending that have undone something
  pub endings : (txn : ℕ) → ending txn ≡ has_undone log txn
  -- a committed transaction has undone nothing
  pub honest : (txn : ℕ) → commits log txn ≡ true → has_undone log txn ≡ false
  -- a live transaction has the exclusive lock on each key that it has a write left on
  pub locked : (txn : ℕ) → Lives living txn → (table : List ℕ) (key : List Value) → touches log (writes_left txn log) table key ≡ true → lock txn table key ≡ Some Exclusive
  pub keys : (table : List ℕ) (key : List Value) → Stands f living log table key

-- a number that has begun is another than one that has not
not_yet : (n begun txn : ℕ) → n ≤ begun → begun < txn → (n == txn) ≡ false
not_yet n begun txn h later = grind (arith, nat_tests)

-- a log knows nothing of a transaction that hasn't begun
pub unknown : (log : List Rec) (begun txn : ℕ) → AllByRecursion (λ (r : Rec). r.txn ≤ begun) log → begun < txn → IsUnknown log txn
unknown [] begun txn all later = record { none_left = refl; uncommitted = refl }
unknown (r ∷ log) begun txn all later =
    let rest = unknown log begun txn all.1 later in
    let other = not_yet r.txn begun txn all.0 later in
    record {
      none_left = left-other r log txn other ∙ rest.none_left;
      uncommitted = neither (is_commit r.body && (r.txn == txn)) (commits log txn) (and_false_second (is_commit r.body) (r.txn == txn) other) rest.uncommitted;
    }

-- an entry that makes no record and begins and ends nothing
pub idle_sound : (f : Firsts) (living : List Living) (begun : ℕ) (log : List Rec) (ending next : ℕ → Bool) (lock held : ℕ → List ℕ → List Value → Option Mode) → ((txn : ℕ) → next txn ≡ ending txn) → ((txn : ℕ) (table : List ℕ) (key : List Value) → lock txn table key ≡ Some Exclusive → held txn table key ≡ Some Exclusive) → Sound f living begun log ending lock → Sound f living begun log next held
idle_sound f living begun log ending next lock held same kept s = record {
  numbers = s.numbers;
  unended = s.unended;
  endings = λ txn. same txn ∙ s.endings txn;
  honest = s.honest;
  locked = λ txn lives table key touched. kept txn table key (s.locked txn lives table key touched);
  keys = s.keys;
}

-- a record that isn't a Commit
onward_sound : (f : Firsts) (living : List Living) (begun : ℕ) (log : List Rec) (x : Rec) (ending next : ℕ → Bool) (lock held : ℕ → List ℕ → List Value → Option Mode) → x.txn ≤ begun → is_commit x.body ≡ false → (is_undo x.body ≡ true → Lives living x.txn) → ((txn : ℕ) → next txn ≡ ((is_undo x.body && (x.txn == txn)) || ending txn)) → ((txn : ℕ) → Lives living txn → (table : List ℕ) (key : List Value) → touches (x ∷ log) (writes_left txn (x ∷ log)) table key ≡ true → held txn table key ≡ Some Exclusive) → ((table : List ℕ) (key : List Value) → Stands f living (x ∷ log) table key) → Sound f living begun log ending lock → Sound f living begun (x ∷ log) next held
onward_sound f living begun log x ending next lock held within uncommitting lives undone locked keys s = record {
  numbers = (within, s.numbers);
  unended = λ txn l. commits-later x log txn uncommitting ∙ s.unended txn l;
  endings = λ txn. undone txn ∙ ap (λ b. (is_undo x.body && (x.txn == txn)) || b) (s.endings txn);
  honest = λ txn c.
      let earlier : commits log txn ≡ true = sym (commits-later x log txn uncommitting) ∙ c in
      neither (is_undo x.body && (x.txn == txn)) (has_undone log txn)
      (by_cases (is_undo x.body)
      (λ undo. by_cases (x.txn == txn)
      (λ own. let open_yet = subst (λ n. commits log n ≡ false) (eqb-true x.txn txn own) (s.unended x.txn (lives undo)) in absurd (cc))
      (λ other. and_false_second (is_undo x.body) (x.txn == txn) other))
      (λ none. and_false_first (is_undo x.body) (x.txn == txn) none))
      (s.honest txn earlier);
  locked = locked;
  keys = keys;
}

-- a body that neither writes nor undoes is no Undo
silent_undo : (body : Body) → is_silent body ≡ true → is_undo body ≡ false
unfolding is_silent is_undo
silent_undo (Write table key before after) e = absurd (cc)
silent_undo (Undo undoes table key before after) e = absurd (cc)
silent_undo Commit e = refl
silent_undo Abort e = refl
silent_undo Mark e = refl
silent_undo (Check group dep) e = refl
silent_undo Switch e = refl

-- a record that is no Undo adds nothing to what was undone
undo_not : (undo own was : Bool) → undo ≡ false → was ≡ ((undo && own) || was)
undo_not true own was e = absurd (cc)
undo_not false own was e = refl

-- a record that notes something
pub noted_sound : (f : Firsts) (living : List Living) (begun : ℕ) (log : List Rec) (x : Rec) (ending next : ℕ → Bool) (lock held : ℕ → List ℕ → List Value → Option Mode) → x.txn ≤ begun → is_silent x.body ≡ true → is_commit x.body ≡ false → is_write x.body ≡ false → ((txn : ℕ) → next txn ≡ ending txn) → ((txn : ℕ) (table : List ℕ) (key : List Value) → lock txn table key ≡ Some Exclusive → held txn table key ≡ Some Exclusive) → Sound f living begun log ending lock → Sound f living begun (x ∷ log) next held
noted_sound f living begun log x ending next lock held within quiet uncommitting unwriting same kept s =
    let passes = λ (table : List ℕ) (key : List Value). noted_passes f log x table key quiet uncommitting unwriting in
    let silent = silent_undo x.body quiet in
    onward_sound f living begun log x ending next lock held within uncommitting (λ undo. absurd (cc)) (λ txn. same txn ∙ undo_not (is_undo x.body) (x.txn == txn) (ending txn) silent)
    (λ txn lives table key touched. kept txn table key (s.locked txn lives table key (sym ((passes table key).touch txn) ∙ touched)))
    (λ table key. passes_by f living log x table key (passes table key) (s.keys table key)) s

-- what another transaction has left, behind a record
other_touches : (log : List Rec) (x : Rec) (other : ℕ) (table : List ℕ) (key : List Value) → (other == x.txn) ≡ false → touches (x ∷ log) (writes_left other (x ∷ log)) table key ≡ true → touches log (writes_left other log) table key ≡ true
other_touches log x other table key differs e = sym (touches-kept x log other table key) ∙ (ap (λ lsns. touches (x ∷ log) lsns table key) (sym (left-other x log other (turned other x.txn differs))) ∙ e)

-- a number from 1 on is not that of nobody
positive : (txn : ℕ) → 1 ≤ txn → (txn == 0) ≡ false
positive txn h = grind (arith, nat_tests)

-- a Write of a key that no other live transaction has locked
pub written_sound : (f : Firsts) (living : List Living) (begun : ℕ) (log : List Rec) (txn : ℕ) (written : List ℕ) (at : List Value) (after : Option (List Value)) (ending next : ℕ → Bool) (lock held : ℕ → List ℕ → List Value → Option Mode) → Lives living txn → 1 ≤ txn → txn ≤ begun → ((other : ℕ) → next other ≡ ending other) → ((table : List ℕ) (key : List Value) → is_place written at table key ≡ true → held txn table key ≡ Some Exclusive) → ((other : ℕ) (table : List ℕ) (key : List Value) → lock other table key ≡ Some Exclusive → held other table key ≡ Some Exclusive) → ((other : ℕ) → Lives living other → (other == txn) ≡ false → lock other written at ≡ Some Exclusive → ⊥) → Sound f living begun log ending lock → Sound f living begun (write_record (row_from f log) txn written at after ∷ log) next held
unfolding is_undo is_commit
written_sound f living begun log txn written at after ending next lock held lives named within same own kept free s =
    let x : Rec = write_record (row_from f log) txn written at after in
    let alone : IsAlone living log txn written at = λ other l differs.
    by_cases (touches log (writes_left other log) written at) (λ t. absurd (free other l differs (s.locked other l written at t))) (λ f. f) in
    let open_yet : IsOpen log txn = record { named = positive txn named; uncommitted = s.unended txn lives } in
    onward_sound f living begun log x ending next lock held within refl (λ undo. absurd (cc)) same
    (λ other l table key touched. by_cases (is_place written at table key)
    (λ there. by_cases (other == txn)
    (λ it. subst (λ n. held n table key ≡ Some Exclusive) (sym (eqb-true other txn it)) (own table key there))
    (λ differs. kept other table key (s.locked other l table key (other_touches log x other table key differs touched))))
    (λ away. kept other table key (s.locked other l table key (sym ((written_passes f log txn written at (row_from f log written at) after table key open_yet away).touch other) ∙ touched))))
    (written_stands f living log txn written at after lives open_yet alone s.keys) s

-- an Undo of the last write that is left
pub undone_sound : (f : Firsts) (living : List Living) (begun : ℕ) (log : List Rec) (txn lsn : ℕ) (written : List ℕ) (at : List Value) (before found : Option (List Value)) (ending next : ℕ → Bool) (lock held : ℕ → List ℕ → List Value → Option Mode) → Lives living txn → txn ≤ begun → IsLastLeft log txn lsn written at found → ((other : ℕ) → next other ≡ ((txn == other) || ending other)) → ((other : ℕ) (table : List ℕ) (key : List Value) → lock other table key ≡ Some Exclusive → held other table key ≡ Some Exclusive) → Sound f living begun log ending lock → Sound f living begun (record { txn = txn; body = Undo lsn written at before found } ∷ log) next held
unfolding is_undo is_commit
undone_sound f living begun log txn lsn written at before found ending next lock held lives within w same kept s =
    let x : Rec = record { txn = txn; body = Undo lsn written at before found } in
    let mine : lock txn written at ≡ Some Exclusive = s.locked txn lives written at (last_touches log txn lsn written at found w) in
    onward_sound f living begun log x ending next lock held within refl (λ undo. lives) same
    (λ other l table key touched. by_cases (is_place written at table key)
    (λ there. by_cases (other == txn)
    (λ it. subst (λ n. held n table key ≡ Some Exclusive) (sym (eqb-true other txn it)) (kept txn table key (by_place (λ t k. lock txn t k ≡ Some Exclusive) written at table key there mine)))
    (λ differs. kept other table key (s.locked other l table key (other_touches log x other table key differs touched))))
    (λ away. kept other table key (s.locked other l table key (sym ((undone_passes f log txn lsn written at before found table key w away).touch other) ∙ touched))))
    (undone_stands f living log txn lsn written at before found lives w s.keys) s

-- a transaction ends, with a Commit only where it has undone nothing
pub ended_sound : (f : Firsts) (living after : List Living) (begun : ℕ) (log : List Rec) (txn : ℕ) (body : Body) (ending next : ℕ → Bool) (lock held : ℕ → List ℕ → List Value → Option Mode) → Ends living after txn → txn ≤ begun → is_silent body ≡ true → (is_commit body ≡ true → has_undone log txn ≡ false) → ((other : ℕ) → next other ≡ ending other) → ((other : ℕ) (table : List ℕ) (key : List Value) → (other == txn) ≡ false → lock other table key ≡ Some Exclusive → held other table key ≡ Some Exclusive) → ((table : List ℕ) (key : List Value) → Stands f after (record { txn = txn; body = body } ∷ log) table key) → Sound f living begun log ending lock → Sound f after begun (record { txn = txn; body = body } ∷ log) next held
ended_sound f living after begun log txn body ending next lock held ends within quiet honest same kept keys s =
    let x : Rec = record { txn = txn; body = body } in
    let silent = silent_undo body quiet in
    record {
      numbers = (within, s.numbers);
      unended = λ other l. neither (is_commit body && (txn == other)) (commits log other) (and_false_second (is_commit body) (txn == other) (turned other txn (ends.gone other l))) (s.unended other (ends.lived other l));
      endings = λ other. same other ∙ (s.endings other ∙ undo_not (is_undo body) (txn == other) (has_undone log other) silent);
      honest = λ other c. neither (is_undo body && (txn == other)) (has_undone log other) (and_false_first (is_undo body) (txn == other) silent)
          (by_cases (is_commit body)
          (λ commit. by_cases (txn == other)
          (λ own. subst (λ n. has_undone log n ≡ false) (eqb-true txn other own) (honest commit))
          (λ differs. s.honest other (or_rest (is_commit body && (txn == other)) (commits log other) (and_false_second (is_commit body) (txn == other) differs) c)))
          (λ abort. s.honest other (sym (commits-later x log other abort) ∙ c)));
      locked = λ other l table key touched. kept other table key (ends.gone other l) (s.locked other (ends.lived other l) table key (silent_left log x other table key quiet touched));
      keys = keys;
    }

-- who has begun has begun still when one more begins
more_numbers : (begun : ℕ) (r : Rec) → r.txn ≤ begun → r.txn ≤ begun + 1
more_numbers begun r h = omega arith

-- who has just begun has not committed
begun_unended : (log : List Rec) (other : ℕ) (L : Type 0) → (L → commits log other ≡ false) → L ⊎ IsUnknown log other → commits log other ≡ false
begun_unended log other L each (inl l) = each l
begun_unended log other L each (inr u) = u.uncommitted

-- who has just begun has no write left that would need a lock
begun_locked : (log : List Rec) (other : ℕ) (table : List ℕ) (key : List Value) (L P : Type 0) → (L → P) → touches log (writes_left other log) table key ≡ true → L ⊎ IsUnknown log other → P
begun_locked log other table key L P each touched (inl l) = each l
begun_locked log other table key L P each touched (inr u) = let none = ap (λ lsns. touches log lsns table key) u.none_left in absurd (cc)

-- a transaction begins
pub begun_sound : (f : Firsts) (living after : List Living) (begun : ℕ) (log : List Rec) (ending next : ℕ → Bool) (lock held : ℕ → List ℕ → List Value → Option Mode) → Begins living after log → ((other : ℕ) → next other ≡ ending other) → ((other : ℕ) (table : List ℕ) (key : List Value) → lock other table key ≡ Some Exclusive → held other table key ≡ Some Exclusive) → Sound f living begun log ending lock → Sound f after (begun + 1) log next held
begun_sound f living after begun log ending next lock held b same kept s = record {
  numbers = all_each (λ (r : Rec). r.txn ≤ begun) (λ (r : Rec). r.txn ≤ begun + 1) (more_numbers begun) log s.numbers;
  unended = λ other l. begun_unended log other (Lives living other) (s.unended other) (b.either other l);
  endings = λ other. same other ∙ s.endings other;
  honest = s.honest;
  locked = λ other l table key touched. begun_locked log other table key (Lives living other) (held other table key ≡ Some Exclusive) (λ lived. kept other table key (s.locked other lived table key touched)) touched (b.either other l);
  keys = λ table key. begun_stands f living after log table key b (s.keys table key);
}
