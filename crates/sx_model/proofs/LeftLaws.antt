-- The writes of a transaction that are left to undo, and the row that a key would have once they are undone. A log is seen newest first.
use Rattle.std.proofs.Common.{◌≡◌, ◌+◌, ◌==◌, ◌||◌, not, if◌then◌else◌, ℕ, Bool, true, false, List, [], ◌∷◌, length, Option, Some, None, refl, sym, ap, ◌∙◌, subst, arith, eq-eqb}
use Rattle.std.specs.Prelude.{filter, ⊤}
use Rattle.std.specs.List.{AllByRecursion}
use Rattle.std.proofs.lemmas.Bool.{eqb-true}
use Rattle.std.proofs.lemmas.Bool.Decides.{nat_tests}
use Rattle.sx_lists.specs.Places.{numbered}
use Rattle.sx_values.specs.declared.value.Value.{Value}
use Rattle.sx_log.specs.declared.record.Rec.{Rec}
use Rattle.sx_log.specs.declared.record.Body.{Body}
use Rattle.sx_log.specs.declared.record.Body.TheVariants.{Write, Undo, Commit, Abort, Mark, Check, Switch}
use Rattle.sx_log.specs.Undoing.{without_lsn, left_after, writes_left}
use Rattle.sx_model.specs.Scans.{is_about}
use Rattle.sx_model.proofs.AllLaws.{all_each, all_filter, filter_all}
use Rattle.sx_model.proofs.TestLaws.{by_cases, chosen, passed, or_false_first, or_false_second}
use Rattle.sx_model.proofs.LsnLaws.{numbered-here, numbered-earlier, numbered_within}

-- the record of a log with this LSN is a Write of the transaction
pub record IsWriteOf (log : List Rec) (txn lsn : ℕ) : Type 0 where
  pub table : List ℕ
  pub key : List Value
  pub before : Option (List Value)
  pub after : Option (List Value)
  pub is : numbered log lsn ≡ Some (record { txn = txn; body = Write table key before after })

-- each of these LSNs is that of a Write of the transaction
abbrev pub AreWritesOf : List Rec → ℕ → List ℕ → Type 0
AreWritesOf log txn lsns = AllByRecursion (IsWriteOf log txn) lsns

-- none of these LSNs is this one
abbrev pub AreOthers : ℕ → List ℕ → Type 0
AreOthers lsn lsns = AllByRecursion (λ other. (other == lsn) ≡ false) lsns

-- no LSN comes twice
abbrev pub AreDistinct : List ℕ → Type 0
AreDistinct [] = ⊤
AreDistinct (lsn ∷ lsns) = AreOthers lsn lsns × AreDistinct lsns

-- what is there under an LSN stays there when a record comes on top
pub numbered-kept : (x : Rec) (log : List Rec) (n : ℕ) (r : Rec) → numbered log n ≡ Some r → numbered (x ∷ log) n ≡ Some r
numbered-kept x log n r e = numbered-earlier x log n (numbered_within log n r e) ∙ e

-- a Write of the transaction is one still when a record comes on top
write_kept : (x : Rec) (log : List Rec) (txn lsn : ℕ) → IsWriteOf log txn lsn → IsWriteOf (x ∷ log) txn lsn
write_kept x log txn lsn w = record {
  table = w.table;
  key = w.key;
  before = w.before;
  after = w.after;
  is = numbered-kept x log lsn (record { txn = txn; body = Write w.table w.key w.before w.after }) w.is;
}

-- and so are several
writes_kept : (x : Rec) (log : List Rec) (txn : ℕ) (lsns : List ℕ) → AreWritesOf log txn lsns → AreWritesOf (x ∷ log) txn lsns
writes_kept x log txn lsns all = all_each (IsWriteOf log txn) (IsWriteOf (x ∷ log) txn) (write_kept x log txn) lsns all

-- what is left behind a record of the transaction are writes of it
left_are : (txn : ℕ) (body : Body) (log : List Rec) (left : List ℕ) → AreWritesOf log txn left → AreWritesOf (record { txn = txn; body = body } ∷ log) txn (left_after (length log + 1) body left)
unfolding left_after
left_are txn (Write table key before after) log left all =
    let r : Rec = record { txn = txn; body = Write table key before after } in
    (record { table = table; key = key; before = before; after = after; is = numbered-here r log (length log + 1) refl }, writes_kept r log txn left all)
left_are txn (Undo undoes table key before after) log left all =
    let r : Rec = record { txn = txn; body = Undo undoes table key before after } in
    all_filter (IsWriteOf (r ∷ log) txn) (λ other. not (other == undoes)) left (writes_kept r log txn left all)
left_are txn Commit log left all = writes_kept (record { txn = txn; body = Commit }) log txn left all
left_are txn Abort log left all = writes_kept (record { txn = txn; body = Abort }) log txn left all
left_are txn Mark log left all = writes_kept (record { txn = txn; body = Mark }) log txn left all
left_are txn (Check group dep) log left all = writes_kept (record { txn = txn; body = Check group dep }) log txn left all
left_are txn Switch log left all = writes_kept (record { txn = txn; body = Switch }) log txn left all

-- the writes that are left, behind a record of the transaction and behind one of another
pub left-own : (r : Rec) (log : List Rec) (txn : ℕ) → (r.txn == txn) ≡ true → writes_left txn (r ∷ log) ≡ left_after (length log + 1) r.body (writes_left txn log)
left-own r log txn own = chosen (r.txn == txn) (left_after (length log + 1) r.body (writes_left txn log)) (writes_left txn log) own

-- behind a record of another transaction
pub left-other : (r : Rec) (log : List Rec) (txn : ℕ) → (r.txn == txn) ≡ false → writes_left txn (r ∷ log) ≡ writes_left txn log
left-other r log txn other = passed (r.txn == txn) (left_after (length log + 1) r.body (writes_left txn log)) (writes_left txn log) other

-- the writes that are left are Writes of the transaction
pub writes_are : (txn : ℕ) (log : List Rec) → AreWritesOf log txn (writes_left txn log)
writes_are txn [] = tt
writes_are txn (r ∷ log) = by_cases (r.txn == txn)
    (λ own. subst (AreWritesOf (r ∷ log) txn) (sym (left-own r log txn own))
    (subst (λ t. AreWritesOf (record { txn = t; body = r.body } ∷ log) txn (left_after (length log + 1) r.body (writes_left txn log))) (sym (eqb-true r.txn txn own)) (left_are txn r.body log (writes_left txn log) (writes_are txn log))))
    (λ other. subst (AreWritesOf (r ∷ log) txn) (sym (left-other r log txn other)) (writes_kept r log txn (writes_left txn log) (writes_are txn log)))

-- a record that is there has another LSN than the next one
older : (log : List Rec) (txn lsn : ℕ) → IsWriteOf log txn lsn → (lsn == length log + 1) ≡ false
older log txn lsn w =
    let h = numbered_within log lsn (record { txn = txn; body = Write w.table w.key w.before w.after }) w.is in
    grind (arith, nat_tests)

-- distinct LSNs are distinct still where some are left out
distinct_filter : (p : ℕ → Bool) (lsns : List ℕ) → AreDistinct lsns → AreDistinct (filter p lsns)
distinct_filter p [] all = tt
distinct_filter p (lsn ∷ lsns) all =
    by_cases (p lsn) (λ t. rw t (all_filter (λ other. (other == lsn) ≡ false) p lsns all.0, distinct_filter p lsns all.1)) (λ f. rw f (distinct_filter p lsns all.1))

-- no write is left twice behind a record of the transaction
left_distinct : (txn : ℕ) (body : Body) (log : List Rec) (left : List ℕ) → AreWritesOf log txn left → AreDistinct left → AreDistinct (left_after (length log + 1) body left)
unfolding left_after
left_distinct txn (Write table key before after) log left all apart = (all_each (IsWriteOf log txn) (λ other. (other == length log + 1) ≡ false) (older log txn) left all, apart)
left_distinct txn (Undo undoes table key before after) log left all apart = distinct_filter (λ other. not (other == undoes)) left apart
left_distinct txn Commit log left all apart = apart
left_distinct txn Abort log left all apart = apart
left_distinct txn Mark log left all apart = apart
left_distinct txn (Check group dep) log left all apart = apart
left_distinct txn Switch log left all apart = apart

-- no write is left twice
pub writes_distinct : (txn : ℕ) (log : List Rec) → AreDistinct (writes_left txn log)
writes_distinct txn [] = tt
writes_distinct txn (r ∷ log) = by_cases (r.txn == txn)
    (λ own. subst AreDistinct (sym (left-own r log txn own)) (left_distinct txn r.body log (writes_left txn log) (writes_are txn log) (writes_distinct txn log)))
    (λ other. subst AreDistinct (sym (left-other r log txn other)) (writes_distinct txn log))

-- another LSN passes the test that leaves this one out
passes_not : (other lsn : ℕ) → (other == lsn) ≡ false → not (other == lsn) ≡ true
passes_not other lsn e = rw e refl

-- of distinct LSNs, those without the first are the rest
without_first : (lsn : ℕ) (left : List ℕ) → AreOthers lsn left → without_lsn lsn (lsn ∷ left) ≡ left
without_first lsn left all = rw (eq-eqb lsn lsn refl) (filter_all (λ other. not (other == lsn)) left (all_each (λ other. (other == lsn) ≡ false) (λ other. not (other == lsn) ≡ true) (λ other. passes_not other lsn) left all))

-- a Write of the transaction is left
pub left-written : (txn : ℕ) (table : List ℕ) (key : List Value) (before after : Option (List Value)) (log : List Rec) → writes_left txn (record { txn = txn; body = Write table key before after } ∷ log) ≡ (length log + 1) ∷ writes_left txn log
unfolding left_after
left-written txn table key before after log = left-own (record { txn = txn; body = Write table key before after }) log txn (eq-eqb txn txn refl)

-- an Undo of the last write that is left leaves the others
pub left-undone : (txn lsn : ℕ) (left : List ℕ) (table : List ℕ) (key : List Value) (before after : Option (List Value)) (log : List Rec) → writes_left txn log ≡ lsn ∷ left → writes_left txn (record { txn = txn; body = Undo lsn table key before after } ∷ log) ≡ left
unfolding left_after
left-undone txn lsn left table key before after log e =
    left-own (record { txn = txn; body = Undo lsn table key before after }) log txn (eq-eqb txn txn refl)
    ∙ (ap (without_lsn lsn) e ∙ without_first lsn left (subst AreDistinct e (writes_distinct txn log)).0)

-- whether a record neither writes nor undoes
unfoldable pub is_silent : Body → Bool
is_silent (Write table key before after) = false
is_silent (Undo undoes table key before after) = false
is_silent Commit = true
is_silent Abort = true
is_silent Mark = true
is_silent (Check group dep) = true
is_silent Switch = true

-- a body that neither writes nor undoes leaves them all
left_after-silent : (lsn : ℕ) (body : Body) (left : List ℕ) → is_silent body ≡ true → left_after lsn body left ≡ left
unfolding left_after is_silent
left_after-silent lsn (Write table key before after) left e = absurd (cc)
left_after-silent lsn (Undo undoes table key before after) left e = absurd (cc)
left_after-silent lsn Commit left e = refl
left_after-silent lsn Abort left e = refl
left_after-silent lsn Mark left e = refl
left_after-silent lsn (Check group dep) left e = refl
left_after-silent lsn Switch left e = refl

-- a record that neither writes nor undoes leaves them all
pub left-silent : (r : Rec) (log : List Rec) (txn : ℕ) → is_silent r.body ≡ true → writes_left txn (r ∷ log) ≡ writes_left txn log
left-silent r log txn quiet = by_cases (r.txn == txn)
    (λ own. left-own r log txn own ∙ left_after-silent (length log + 1) r.body (writes_left txn log) quiet)
    (λ other. left-other r log txn other)

-- whether a record is about a key
abbrev pub is_of : Option Rec → List ℕ → List Value → Bool
is_of None table key = false
is_of (Some r) table key = is_about r.body table key

-- whether one of these writes is of a key
abbrev pub touches : List Rec → List ℕ → List ℕ → List Value → Bool
touches log [] table key = false
touches log (lsn ∷ lsns) table key = is_of (numbered log lsn) table key || touches log lsns table key

-- what a body found
abbrev pub found_by : Body → Option (List Value)
found_by (Write table key before after) = before
found_by (Undo undoes table key before after) = before
found_by Commit = None
found_by Abort = None
found_by Mark = None
found_by (Check group dep) = None
found_by Switch = None

-- the row that a key has once a write is undone, from the row before that
abbrev pub undone_row : Option Rec → List ℕ → List Value → Option (List Value) → Option (List Value)
undone_row None table key row = row
undone_row (Some r) table key row = if is_about r.body table key then found_by r.body else row

-- the row that a key has once these writes are undone, one after another
abbrev pub rolled_back : List Rec → List ℕ → List ℕ → List Value → Option (List Value) → Option (List Value)
rolled_back log [] table key row = row
rolled_back log (lsn ∷ lsns) table key row = rolled_back log lsns table key (undone_row (numbered log lsn) table key row)

-- the record under the LSN of a write stays what it was
write_numbered : (x : Rec) (log : List Rec) (txn lsn : ℕ) → IsWriteOf log txn lsn → numbered (x ∷ log) lsn ≡ numbered log lsn
write_numbered x log txn lsn w = numbered-earlier x log lsn (numbered_within log lsn (record { txn = txn; body = Write w.table w.key w.before w.after }) w.is)

-- a record on top changes nothing of which keys are touched
pub touches-later : (x : Rec) (log : List Rec) (txn : ℕ) (lsns : List ℕ) (table : List ℕ) (key : List Value) → AreWritesOf log txn lsns → touches (x ∷ log) lsns table key ≡ touches log lsns table key
touches-later x log txn [] table key all = refl
touches-later x log txn (lsn ∷ lsns) table key all =
    ap (λ r. is_of r table key || touches (x ∷ log) lsns table key) (write_numbered x log txn lsn all.0)
    ∙ ap (λ b. is_of (numbered log lsn) table key || b) (touches-later x log txn lsns table key all.1)

-- nor of the row that undoing leaves
pub rolled_back-later : (x : Rec) (log : List Rec) (txn : ℕ) (lsns : List ℕ) (table : List ℕ) (key : List Value) (row : Option (List Value)) → AreWritesOf log txn lsns → rolled_back (x ∷ log) lsns table key row ≡ rolled_back log lsns table key row
rolled_back-later x log txn [] table key row all = refl
rolled_back-later x log txn (lsn ∷ lsns) table key row all =
    ap (λ r. rolled_back (x ∷ log) lsns table key (undone_row r table key row)) (write_numbered x log txn lsn all.0)
    ∙ rolled_back-later x log txn lsns table key (undone_row (numbered log lsn) table key row) all.1

-- undoing a write of another key leaves the row
pub undone_row-elsewhere : (r : Option Rec) (table : List ℕ) (key : List Value) (row : Option (List Value)) → is_of r table key ≡ false → undone_row r table key row ≡ row
undone_row-elsewhere None table key row e = refl
undone_row-elsewhere (Some r) table key row e = passed (is_about r.body table key) (found_by r.body) row e

-- where no write of a key is left, undoing leaves its row
pub rolled_back-untouched : (log : List Rec) (lsns : List ℕ) (table : List ℕ) (key : List Value) (row : Option (List Value)) → touches log lsns table key ≡ false → rolled_back log lsns table key row ≡ row
rolled_back-untouched log [] table key row e = refl
rolled_back-untouched log (lsn ∷ lsns) table key row e =
    ap (λ before. rolled_back log lsns table key before) (undone_row-elsewhere (numbered log lsn) table key row (or_false_first (is_of (numbered log lsn) table key) (touches log lsns table key) e))
    ∙ rolled_back-untouched log lsns table key row (or_false_second (is_of (numbered log lsn) table key) (touches log lsns table key) e)

-- a record on top, for the writes that were left before it
pub touches-kept : (x : Rec) (log : List Rec) (txn : ℕ) (table : List ℕ) (key : List Value) → touches (x ∷ log) (writes_left txn log) table key ≡ touches log (writes_left txn log) table key
touches-kept x log txn table key = touches-later x log txn (writes_left txn log) table key (writes_are txn log)

-- they roll back to the same row
pub rolled_back-kept : (x : Rec) (log : List Rec) (txn : ℕ) (table : List ℕ) (key : List Value) (row : Option (List Value)) → rolled_back (x ∷ log) (writes_left txn log) table key row ≡ rolled_back log (writes_left txn log) table key row
rolled_back-kept x log txn table key row = rolled_back-later x log txn (writes_left txn log) table key row (writes_are txn log)
