-- How keys stand when a transaction begins, commits or has rolled back, and where none lives.
use Rattle.std.proofs.Common.{◌≡◌, ◌+◌, ◌==◌, ◌&&◌, ◌||◌, ◌⊎◌, inl, inr, ℕ, Bool, true, false, List, [], ◌∷◌, length, refl, sym, ap, ◌∙◌, subst, eq-eqb}
use Rattle.std.specs.Prelude.{filter}
use Rattle.std.specs.List.{AllByRecursion}
use Rattle.std.proofs.lemmas.Bool.{eqb-true}
use Rattle.sx_values.specs.declared.value.Value.{Value}
use Rattle.sx_log.specs.declared.record.Rec.{Rec}
use Rattle.sx_log.specs.declared.record.Body.{Body}
use Rattle.sx_log.specs.declared.record.Body.TheVariants.{Write, Undo, Commit, Abort, Mark, Check, Switch}
use Rattle.sx_log.specs.Undoing.{writes_left}
use Rattle.sx_log.specs.Committed.{is_write, is_commit, commits, is_committed, committed}
use Rattle.sx_model.specs.NewRows.{Firsts, row_from}
use Rattle.sx_model.specs.LoadRecords.{IsLoaded}
use Rattle.sx_model.specs.Leaves.{Living}
use Rattle.sx_model.specs.Scans.{is_about}
use Rattle.sx_model.specs.Undone.{is_undo, has_undone}
use Rattle.sx_model.proofs.AllLaws.{all_each, filter_all}
use Rattle.sx_model.proofs.TestLaws.{by_cases, chosen, passed, or_false_first, or_false_second, turned}
use Rattle.sx_model.proofs.LsnLaws.{numbered-here}
use Rattle.sx_model.proofs.RowLaws.{row_there, row_elsewhere, filter_elsewhere, row_left-agreed, last_by, committed-later}
use Rattle.sx_model.proofs.LeftLaws.{is_silent, left-other, left-written, left-silent, is_of, touches, touches-kept, rolled_back-untouched}
use Rattle.sx_model.proofs.RollbackLaws.{Lives, RollsBack, Stands, clear, held, Passes, passes_by, silent_passes, silent_elsewhere, holds_it}

-- a transaction ends: the others live on
pub record Ends (living next : List Living) (txn : ℕ) : Type 0 where
  pub lived : (other : ℕ) → Lives next other → Lives living other
  pub gone : (other : ℕ) → Lives next other → (other == txn) ≡ false
  pub others : (other : ℕ) → Lives living other → (other == txn) ≡ false → Lives next other

-- a transaction that has no write left on a key may end
ended_stands : (f : Firsts) (living next : List Living) (log : List Rec) (txn : ℕ) (table : List ℕ) (key : List Value) → Ends living next txn → touches log (writes_left txn log) table key ≡ false → Stands f living log table key → Stands f next log table key
ended_stands f living next log txn table key ends none (clear each same) = clear (λ other lives. each other (ends.lived other lives)) same
ended_stands f living next log txn table key ends none (held h) = by_cases (h.txn == txn)
    (λ own.
    let is = eqb-true h.txn txn own in
    clear (λ other lives. h.alone other (ends.lived other lives) (ap (λ n. other == n) is ∙ ends.gone other lives))
    (sym (rolled_back-untouched log (writes_left txn log) table key (row_from f log table key) none) ∙ subst (λ n. RollsBack f log n table key) is h.back))
    (λ other. held (record {
      txn = h.txn;
      lives = ends.others h.txn h.lives other;
      last = h.last;
      back = h.back;
      alone = λ another lives differs. h.alone another (ends.lived another lives) differs;
    }))

-- what is left behind a record that neither writes nor undoes was left before it
pub silent_left : (log : List Rec) (x : Rec) (txn : ℕ) (table : List ℕ) (key : List Value) → is_silent x.body ≡ true → touches (x ∷ log) (writes_left txn (x ∷ log)) table key ≡ true → touches log (writes_left txn log) table key ≡ true
silent_left log x txn table key quiet e = sym (ap (λ lsns. touches (x ∷ log) lsns table key) (left-silent x log txn quiet) ∙ touches-kept x log txn table key) ∙ e

-- a record that notes something leaves each key as it stands
pub noted_passes : (f : Firsts) (log : List Rec) (x : Rec) (table : List ℕ) (key : List Value) → is_silent x.body ≡ true → is_commit x.body ≡ false → is_write x.body ≡ false → Passes f log x table key
noted_passes f log x table key quiet uncommitting unwriting =
    silent_passes f log x table key quiet (ap (λ rs. row_from f rs table key) (committed-later x log uncommitting (rw unwriting refl)))

-- behind an Abort of a transaction with no write left each key stands as it may
pub aborted_stands : (f : Firsts) (living next : List Living) (log : List Rec) (txn : ℕ) (table : List ℕ) (key : List Value) → Ends living next txn → writes_left txn log ≡ [] → Stands f living log table key → Stands f next (record { txn = txn; body = Abort } ∷ log) table key
unfolding is_silent is_commit is_write
aborted_stands f living next log txn table key ends empty at =
    let x : Rec = record { txn = txn; body = Abort } in
    let p = noted_passes f log x table key refl refl refl in
    ended_stands f living next (x ∷ log) txn table key ends (p.touch txn ∙ ap (λ lsns. touches log lsns table key) empty) (passes_by f living log x table key p at)

-- what has images and isn't an Undo is a Write
about_write : (body : Body) (table : List ℕ) (key : List Value) → is_about body table key ≡ true → is_undo body ≡ false → is_write body ≡ true
unfolding is_about is_undo is_write
about_write (Write written at before after) table key about e = refl
about_write (Undo undoes written at before after) table key about e = absurd (cc)
about_write Commit table key about e = absurd (cc)
about_write Abort table key about e = absurd (cc)
about_write Mark table key about e = absurd (cc)
about_write (Check group dep) table key about e = absurd (cc)
about_write Switch table key about e = absurd (cc)

-- a record of a transaction that has undone nothing is no Undo
not_undone : (undo own : Bool) → own ≡ true → (undo && own) ≡ false → undo ≡ false
not_undone true own t e = absurd (cc)
not_undone false own t e = refl

-- where a transaction that has undone nothing was the last to write a key, its writes leave the row there
last_committed : (f : Firsts) (p : Rec → Bool) (txn : ℕ) (log : List Rec) (table : List ℕ) (key : List Value) → ((r : Rec) → is_write r.body ≡ true → (r.txn == txn) ≡ true → p r ≡ true) → has_undone log txn ≡ false → last_by log txn table key ≡ true → row_from f (filter p log) table key ≡ row_from f log table key
last_committed f p txn [] table key each honest last = absurd (cc)
last_committed f p txn (r ∷ log) table key each honest last =
    let first = or_false_first (is_undo r.body && (r.txn == txn)) (has_undone log txn) honest in
    let more = or_false_second (is_undo r.body && (r.txn == txn)) (has_undone log txn) honest in
    by_cases (is_about r.body table key)
    (λ about.
    let own : (r.txn == txn) ≡ true = sym (chosen (is_about r.body table key) (r.txn == txn) (last_by log txn table key) about) ∙ last in
    let passes : p r ≡ true = each r (about_write r.body table key about (not_undone (is_undo r.body) (r.txn == txn) own first)) own in
    rw passes (row_there f r (filter p log) table key about ∙ sym (row_there f r log table key about)))
    (λ away.
    filter_elsewhere f p r log table key away
    ∙ (last_committed f p txn log table key each more (sym (passed (is_about r.body table key) (r.txn == txn) (last_by log txn table key) away) ∙ last)
    ∙ sym (row_elsewhere f r log table key away)))

-- what a record of the transaction and the log below it have to do with a key
record Untouched (body : Body) (log : List Rec) (txn : ℕ) (table : List ℕ) (key : List Value) : Type 0 where
  away : is_about body table key ≡ false
  below : touches log (writes_left txn log) table key ≡ false

-- a record that neither writes nor undoes has nothing to do with a key
silent_untouched : (txn : ℕ) (body : Body) (log : List Rec) (table : List ℕ) (key : List Value) → is_silent body ≡ true → touches (record { txn = txn; body = body } ∷ log) (writes_left txn (record { txn = txn; body = body } ∷ log)) table key ≡ false → Untouched body log txn table key
silent_untouched txn body log table key quiet e =
    let x : Rec = record { txn = txn; body = body } in
    record {
      away = silent_elsewhere body table key quiet;
      below = sym (touches-kept x log txn table key) ∙ (ap (λ lsns. touches (x ∷ log) lsns table key) (sym (left-silent x log txn quiet)) ∙ e);
    }

-- a transaction that has undone nothing, and has no write of a key left, never wrote it
own_untouched : (txn : ℕ) (body : Body) (log : List Rec) (table : List ℕ) (key : List Value) → is_undo body ≡ false → touches (record { txn = txn; body = body } ∷ log) (writes_left txn (record { txn = txn; body = body } ∷ log)) table key ≡ false → Untouched body log txn table key
unfolding is_undo is_silent
own_untouched txn (Write written at before after) log table key honest e =
    let x : Rec = record { txn = txn; body = Write written at before after } in
    let left = writes_left txn log in
    let both : (is_about x.body table key || touches (x ∷ log) left table key) ≡ false =
    sym (ap (λ lsns. touches (x ∷ log) lsns table key) (left-written txn written at before after log) ∙ ap (λ r. is_of r table key || touches (x ∷ log) left table key) (numbered-here x log (length log + 1) refl)) ∙ e in
    record {
      away = or_false_first (is_about x.body table key) (touches (x ∷ log) left table key) both;
      below = sym (touches-kept x log txn table key) ∙ or_false_second (is_about x.body table key) (touches (x ∷ log) left table key) both;
    }
own_untouched txn (Undo undoes written at before after) log table key honest e = absurd (cc)
own_untouched txn Commit log table key honest e = silent_untouched txn Commit log table key refl e
own_untouched txn Abort log table key honest e = silent_untouched txn Abort log table key refl e
own_untouched txn Mark log table key honest e = silent_untouched txn Mark log table key refl e
own_untouched txn (Check group dep) log table key honest e = silent_untouched txn (Check group dep) log table key refl e
own_untouched txn Switch log table key honest e = silent_untouched txn Switch log table key refl e

-- so each record about the key is of another transaction
unwritten : (txn : ℕ) (log : List Rec) (table : List ℕ) (key : List Value) → has_undone log txn ≡ false → touches log (writes_left txn log) table key ≡ false → AllByRecursion (λ (r : Rec). is_about r.body table key ≡ true → (txn == r.txn) ≡ false) log
unwritten txn [] table key honest none = tt
unwritten txn (r ∷ log) table key honest none =
    let first = or_false_first (is_undo r.body && (r.txn == txn)) (has_undone log txn) honest in
    let more = or_false_second (is_undo r.body && (r.txn == txn)) (has_undone log txn) honest in
    by_cases (r.txn == txn)
    (λ own.
    let is = eqb-true r.txn txn own in
    let u = own_untouched txn r.body log table key (not_undone (is_undo r.body) (r.txn == txn) own first) (subst (λ n. touches (record { txn = n; body = r.body } ∷ log) (writes_left txn (record { txn = n; body = r.body } ∷ log)) table key ≡ false) is none) in
    let away = u.away in
    (λ about. absurd (cc), unwritten txn log table key more u.below))
    (λ other. (
      λ about. turned r.txn txn other,
      unwritten txn log table key more (sym (touches-kept r log txn table key) ∙ (ap (λ lsns. touches (r ∷ log) lsns table key) (sym (left-other r log txn other)) ∙ none)),
    ))

-- a Commit makes no write of another transaction a committed one
commit_agrees : (txn : ℕ) (log : List Rec) (table : List ℕ) (key : List Value) (r : Rec) → (is_about r.body table key ≡ true → (txn == r.txn) ≡ false) → is_about r.body table key ≡ true → is_committed (record { txn = txn; body = Commit } ∷ log) r ≡ is_committed log r
unfolding is_commit
commit_agrees txn log table key r differs about = ap (λ b. is_write r.body && ((r.txn == 0) || (b || commits log r.txn))) (differs about)

-- and it makes those of its own transaction committed
commit_counts : (txn : ℕ) (log : List Rec) (r : Rec) → is_write r.body ≡ true → (r.txn == txn) ≡ true → is_committed (record { txn = txn; body = Commit } ∷ log) r ≡ true
unfolding is_commit
commit_counts txn log r written own = rw (written, eq-eqb txn r.txn (sym (eqb-true r.txn txn own))) (counted (r.txn == 0) (commits log r.txn))
  where
    counted : (a b : Bool) → (a || (true || b)) ≡ true
    counted true b = refl
    counted false b = refl

-- behind a Commit of a transaction that has undone nothing each key stands as it may
pub committed_stands : (f : Firsts) (living next : List Living) (log : List Rec) (txn : ℕ) (table : List ℕ) (key : List Value) → Lives living txn → Ends living next txn → has_undone log txn ≡ false → Stands f living log table key → Stands f next (record { txn = txn; body = Commit } ∷ log) table key
unfolding is_silent
committed_stands f living next log txn table key lives ends honest at =
    let x : Rec = record { txn = txn; body = Commit } in
    let away = silent_elsewhere x.body table key refl in
    by_cases (touches log (writes_left txn log) table key)
    (λ touched.
    let h = holds_it f living log txn table key lives touched at in
    clear (λ other others. ap (λ lsns. touches (x ∷ log) lsns table key) (left-silent x log other refl) ∙ (touches-kept x log other table key ∙ h.alone other (ends.lived other others) (ends.gone other others)))
    (row_elsewhere f x log table key away
    ∙ sym (filter_elsewhere f (is_committed (x ∷ log)) x log table key away ∙ last_committed f (is_committed (x ∷ log)) txn log table key (commit_counts txn log) honest h.last)))
    (λ none.
    let same = filter_elsewhere f (is_committed (x ∷ log)) x log table key away
    ∙ row_left-agreed f (is_committed (x ∷ log)) (is_committed log) log table key
    (all_each (λ (r : Rec). is_about r.body table key ≡ true → (txn == r.txn) ≡ false) (λ (r : Rec). is_about r.body table key ≡ true → is_committed (x ∷ log) r ≡ is_committed log r) (commit_agrees txn log table key) log (unwritten txn log table key honest none)) in
    let p = silent_passes f log x table key refl same in
    ended_stands f living next (x ∷ log) txn table key ends (p.touch txn ∙ none) (passes_by f living log x table key p at))

-- a log knows nothing of a transaction
pub record IsUnknown (log : List Rec) (txn : ℕ) : Type 0 where
  pub none_left : writes_left txn log ≡ []
  pub uncommitted : commits log txn ≡ false

-- who lives now lived before, or the log knows nothing of it
pub record Begins (living next : List Living) (log : List Rec) : Type 0 where
  pub lives_on : (other : ℕ) → Lives living other → Lives next other
  pub either : (other : ℕ) → Lives next other → Lives living other ⊎ IsUnknown log other

-- who has just begun has no write left on a key
begun_untouched : (log : List Rec) (other : ℕ) (table : List ℕ) (key : List Value) (L : Type 0) → (L → touches log (writes_left other log) table key ≡ false) → L ⊎ IsUnknown log other → touches log (writes_left other log) table key ≡ false
begun_untouched log other table key L each (inl lives) = each lives
begun_untouched log other table key L each (inr unknown) = ap (λ lsns. touches log lsns table key) unknown.none_left

-- when a transaction begins each key stands as before
pub begun_stands : (f : Firsts) (living next : List Living) (log : List Rec) (table : List ℕ) (key : List Value) → Begins living next log → Stands f living log table key → Stands f next log table key
begun_stands f living next log table key b (clear each same) =
    clear (λ other lives. begun_untouched log other table key (Lives living other) (each other) (b.either other lives)) same
begun_stands f living next log table key b (held h) = held (record {
  txn = h.txn;
  lives = b.lives_on h.txn h.lives;
  last = h.last;
  back = h.back;
  alone = λ other lives differs. begun_untouched log other table key (Lives living other) (λ lived. h.alone other lived differs) (b.either other lives);
})

-- where the list of the living is empty no transaction lives
pub nobody_lives : (txn : ℕ) → Lives [] txn → ⊥
nobody_lives txn l = let e = l.is in absurd (cc)

-- the record of a loaded row is a committed write
loaded_counts : (log : List Rec) (r : Rec) → IsLoaded r → is_committed log r ≡ true
loaded_counts log r l = rw (l.write, eq-eqb r.txn 0 l.nobody) refl

-- loaded rows are committed
pub loaded_stands : (f : Firsts) (loads : List Rec) (table : List ℕ) (key : List Value) → AllByRecursion IsLoaded loads → Stands f [] loads table key
loaded_stands f loads table key all =
    clear (λ txn lives. absurd (nobody_lives txn lives))
    (ap (λ rs. row_from f rs table key) (sym (filter_all (is_committed loads) loads (all_each IsLoaded (λ r. is_committed loads r ≡ true) (loaded_counts loads) loads all))))

-- where no transaction lives each key holds its committed row
pub stands_at_rest : (f : Firsts) (log : List Rec) (table : List ℕ) (key : List Value) → Stands f [] log table key → row_from f (committed log) table key ≡ row_from f log table key
stands_at_rest f log table key (clear each same) = sym same
stands_at_rest f log table key (held h) = absurd (nobody_lives h.txn h.lives)
