-- Each key holds a committed row, or one live transaction has written it, and undoing the writes that it has left gives the committed row back.
use Rattle.std.proofs.Common.{◌≡◌, ◌+◌, ◌==◌, ◌||◌, ℕ, true, false, List, ◌∷◌, length, Option, Some, refl, sym, ap, ◌∙◌, subst, eq-eqb}
use Rattle.std.proofs.lemmas.Bool.{eqb-true}
use Rattle.sx_lists.specs.Places.{numbered}
use Rattle.sx_values.specs.declared.value.Value.{Value}
use Rattle.sx_values.specs.Names.{same_name}
use Rattle.sx_values.specs.Values.{values_eq}
use Rattle.sx_values.proofs.KeyLaws.{same_name-refl, same_name_tells}
use Rattle.sx_log.specs.declared.record.Rec.{Rec}
use Rattle.sx_log.specs.declared.record.Body.{Body}
use Rattle.sx_log.specs.declared.record.Body.TheVariants.{Write, Undo, Commit, Abort, Mark, Check, Switch}
use Rattle.sx_log.specs.State.{is_place}
use Rattle.sx_log.specs.Undoing.{writes_left}
use Rattle.sx_log.specs.Committed.{is_write, is_commit, commits, committed}
use Rattle.sx_model.specs.NewRows.{Firsts, row_from}
use Rattle.sx_model.specs.Leaves.{Living, txn_among}
use Rattle.sx_model.specs.Logs.{write_record}
use Rattle.sx_model.specs.Scans.{is_about}
use Rattle.sx_model.proofs.StateLaws.{values_eq-refl}
use Rattle.sx_model.proofs.TestLaws.{by_cases, chosen, passed, and_both, and_second, and_first, turned}
use Rattle.sx_model.proofs.LsnLaws.{numbered-here, values_eq_tells}
use Rattle.sx_model.proofs.RowLaws.{row_there, row_elsewhere, last_by, committed-later}
use Rattle.sx_model.proofs.LeftLaws.{AreWritesOf, is_silent, left-other, left-written, left-undone, left-silent, writes_are, is_of, touches, undone_row, rolled_back, touches-later, rolled_back-later, undone_row-elsewhere, touches-kept, rolled_back-kept, rolled_back-untouched}

-- a transaction is live: some client is in it
pub record Lives (living : List Living) (txn : ℕ) : Type 0 where
  pub client : ℕ
  pub is : txn_among living client ≡ Some txn

-- no other live transaction has a write left on a key
abbrev pub IsAlone : List Living → List Rec → ℕ → List ℕ → List Value → Type 0
IsAlone living log txn table key = (other : ℕ) → Lives living other → (other == txn) ≡ false → touches log (writes_left other log) table key ≡ false

-- undoing the writes that a transaction has left gives the committed row of a key back
abbrev pub RollsBack : Firsts → List Rec → ℕ → List ℕ → List Value → Type 0
RollsBack f log txn table key = rolled_back log (writes_left txn log) table key (row_from f log table key) ≡ row_from f (committed log) table key

-- a key that a live transaction was the last to write
pub record IsHeld (f : Firsts) (living : List Living) (log : List Rec) (table : List ℕ) (key : List Value) : Type 0 where
  pub txn : ℕ
  pub lives : Lives living txn
  pub last : last_by log txn table key ≡ true
  pub back : RollsBack f log txn table key
  pub alone : IsAlone living log txn table key

-- how a key stands: no live transaction has a write left on it and it holds its committed row, or one live transaction has written it
pub data Stands (f : Firsts) (living : List Living) (log : List Rec) (table : List ℕ) (key : List Value) : Type 0 where
  clear : ((txn : ℕ) → Lives living txn → touches log (writes_left txn log) table key ≡ false) → row_from f log table key ≡ row_from f (committed log) table key → Stands f living log table key
  held : IsHeld f living log table key → Stands f living log table key

-- a key that this transaction holds
pub record IsHeldBy (f : Firsts) (living : List Living) (log : List Rec) (txn : ℕ) (table : List ℕ) (key : List Value) : Type 0 where
  pub last : last_by log txn table key ≡ true
  pub back : RollsBack f log txn table key
  pub alone : IsAlone living log txn table key

-- a transaction that isn't nobody's and has not committed
pub record IsOpen (log : List Rec) (txn : ℕ) : Type 0 where
  pub named : (txn == 0) ≡ false
  pub uncommitted : commits log txn ≡ false

-- a record that leaves a key as it stands
pub record Passes (f : Firsts) (log : List Rec) (x : Rec) (table : List ℕ) (key : List Value) : Type 0 where
  pub elsewhere : is_about x.body table key ≡ false
  pub touch : (txn : ℕ) → touches (x ∷ log) (writes_left txn (x ∷ log)) table key ≡ touches log (writes_left txn log) table key
  pub back : (txn : ℕ) (row : Option (List Value)) → rolled_back (x ∷ log) (writes_left txn (x ∷ log)) table key row ≡ rolled_back log (writes_left txn log) table key row
  pub committed : row_from f (committed (x ∷ log)) table key ≡ row_from f (committed log) table key

-- behind such a record the key stands as before
pub passes_by : (f : Firsts) (living : List Living) (log : List Rec) (x : Rec) (table : List ℕ) (key : List Value) → Passes f log x table key → Stands f living log table key → Stands f living (x ∷ log) table key
passes_by f living log x table key p (clear none same) =
    clear (λ txn lives. p.touch txn ∙ none txn lives) (row_elsewhere f x log table key p.elsewhere ∙ (same ∙ sym p.committed))
passes_by f living log x table key p (held h) = held (record {
  txn = h.txn;
  lives = h.lives;
  last = passed (is_about x.body table key) (x.txn == h.txn) (last_by log h.txn table key) p.elsewhere ∙ h.last;
  back = ap (rolled_back (x ∷ log) (writes_left h.txn (x ∷ log)) table key) (row_elsewhere f x log table key p.elsewhere) ∙ (p.back h.txn (row_from f log table key) ∙ (h.back ∙ sym p.committed));
  alone = λ other lives differs. p.touch other ∙ h.alone other lives differs;
})

-- what holds of the writes that its own transaction has left, and of those of others
touch_of : (log : List Rec) (x : Rec) (table : List ℕ) (key : List Value) → touches (x ∷ log) (writes_left x.txn (x ∷ log)) table key ≡ touches log (writes_left x.txn log) table key → (txn : ℕ) → touches (x ∷ log) (writes_left txn (x ∷ log)) table key ≡ touches log (writes_left txn log) table key
touch_of log x table key own txn = by_cases (x.txn == txn)
    (λ same. subst (λ n. touches (x ∷ log) (writes_left n (x ∷ log)) table key ≡ touches log (writes_left n log) table key) (eqb-true x.txn txn same) own)
    (λ other. ap (λ lsns. touches (x ∷ log) lsns table key) (left-other x log txn other) ∙ touches-kept x log txn table key)

-- the same of the row that they roll back to
back_of : (log : List Rec) (x : Rec) (table : List ℕ) (key : List Value) → ((row : Option (List Value)) → rolled_back (x ∷ log) (writes_left x.txn (x ∷ log)) table key row ≡ rolled_back log (writes_left x.txn log) table key row) → (txn : ℕ) (row : Option (List Value)) → rolled_back (x ∷ log) (writes_left txn (x ∷ log)) table key row ≡ rolled_back log (writes_left txn log) table key row
back_of log x table key own txn row = by_cases (x.txn == txn)
    (λ same. subst (λ n. rolled_back (x ∷ log) (writes_left n (x ∷ log)) table key row ≡ rolled_back log (writes_left n log) table key row) (eqb-true x.txn txn same) (own row))
    (λ other. ap (λ lsns. rolled_back (x ∷ log) lsns table key row) (left-other x log txn other) ∙ rolled_back-kept x log txn table key row)

-- a record that neither writes nor undoes is about no key
pub silent_elsewhere : (body : Body) (table : List ℕ) (key : List Value) → is_silent body ≡ true → is_about body table key ≡ false
unfolding is_silent is_about
silent_elsewhere (Write written at before after) table key e = absurd (cc)
silent_elsewhere (Undo undoes written at before after) table key e = absurd (cc)
silent_elsewhere Commit table key e = refl
silent_elsewhere Abort table key e = refl
silent_elsewhere Mark table key e = refl
silent_elsewhere (Check group dep) table key e = refl
silent_elsewhere Switch table key e = refl

-- a record that neither writes nor undoes leaves each key as it stands, if it leaves its committed row
pub silent_passes : (f : Firsts) (log : List Rec) (x : Rec) (table : List ℕ) (key : List Value) → is_silent x.body ≡ true → row_from f (committed (x ∷ log)) table key ≡ row_from f (committed log) table key → Passes f log x table key
silent_passes f log x table key quiet same = record {
  elsewhere = silent_elsewhere x.body table key quiet;
  touch = λ txn. ap (λ lsns. touches (x ∷ log) lsns table key) (left-silent x log txn quiet) ∙ touches-kept x log txn table key;
  back = λ txn row. ap (λ lsns. rolled_back (x ∷ log) lsns table key row) (left-silent x log txn quiet) ∙ rolled_back-kept x log txn table key row;
  committed = same;
}

-- a Write by a transaction that hasn't committed isn't committed
committed-written : (log : List Rec) (txn : ℕ) (table : List ℕ) (key : List Value) (before after : Option (List Value)) → IsOpen log txn → committed (record { txn = txn; body = Write table key before after } ∷ log) ≡ committed log
unfolding is_write is_commit
committed-written log txn table key before after open_yet = committed-later (record { txn = txn; body = Write table key before after }) log refl (rw (open_yet.named, open_yet.uncommitted) refl)

-- nor is an Undo
committed-undone : (log : List Rec) (txn undoes : ℕ) (table : List ℕ) (key : List Value) (before after : Option (List Value)) → committed (record { txn = txn; body = Undo undoes table key before after } ∷ log) ≡ committed log
unfolding is_write is_commit
committed-undone log txn undoes table key before after = committed-later (record { txn = txn; body = Undo undoes table key before after }) log refl refl

-- a Write of another place is not about a key
place_about : (written : List ℕ) (at : List Value) (before after : Option (List Value)) (table : List ℕ) (key : List Value) → is_place written at table key ≡ false → is_about (Write written at before after) table key ≡ false
unfolding is_about
place_about written at before after table key e = e

-- nor is an Undo there
undo_about : (undoes : ℕ) (written : List ℕ) (at : List Value) (before after : Option (List Value)) (table : List ℕ) (key : List Value) → is_place written at table key ≡ false → is_about (Undo undoes written at before after) table key ≡ false
unfolding is_about
undo_about undoes written at before after table key e = e

-- a Write leaves other keys as they stand
pub written_passes : (f : Firsts) (log : List Rec) (txn : ℕ) (written : List ℕ) (at : List Value) (before after : Option (List Value)) (table : List ℕ) (key : List Value) → IsOpen log txn → is_place written at table key ≡ false → Passes f log (record { txn = txn; body = Write written at before after }) table key
written_passes f log txn written at before after table key open_yet away =
    let x : Rec = record { txn = txn; body = Write written at before after } in
    let about = place_about written at before after table key away in
    let lsn : ℕ = length log + 1 in
    let left = writes_left txn log in
    record {
      elsewhere = about;
      touch = touch_of log x table key
          (ap (λ lsns. touches (x ∷ log) lsns table key) (left-written txn written at before after log)
          ∙ (ap (λ r. is_of r table key || touches (x ∷ log) left table key) (numbered-here x log lsn refl)
          ∙ (ap (λ b. b || touches (x ∷ log) left table key) about ∙ touches-kept x log txn table key)));
      back = back_of log x table key (λ row.
          ap (λ lsns. rolled_back (x ∷ log) lsns table key row) (left-written txn written at before after log)
          ∙ (ap (λ r. rolled_back (x ∷ log) left table key (undone_row r table key row)) (numbered-here x log lsn refl)
          ∙ (ap (rolled_back (x ∷ log) left table key) (undone_row-elsewhere (Some x) table key row about) ∙ rolled_back-kept x log txn table key row)));
      committed = ap (λ rs. row_from f rs table key) (committed-written log txn written at before after open_yet);
    }

-- the last write that a transaction has left
pub record IsLastLeft (log : List Rec) (txn lsn : ℕ) (table : List ℕ) (key : List Value) (found : Option (List Value)) : Type 0 where
  pub rest : List ℕ
  pub left : writes_left txn log ≡ lsn ∷ rest
  pub after : Option (List Value)
  pub is : numbered log lsn ≡ Some (record { txn = txn; body = Write table key found after })

-- the writes that are left but for the last are Writes of the transaction too
rest_are : (log : List Rec) (txn lsn : ℕ) (rest : List ℕ) → writes_left txn log ≡ lsn ∷ rest → AreWritesOf log txn rest
rest_are log txn lsn rest e = (subst (AreWritesOf log txn) e (writes_are txn log)).1

-- an Undo leaves other keys as they stand
pub undone_passes : (f : Firsts) (log : List Rec) (txn lsn : ℕ) (written : List ℕ) (at : List Value) (before found : Option (List Value)) (table : List ℕ) (key : List Value) → IsLastLeft log txn lsn written at found → is_place written at table key ≡ false → Passes f log (record { txn = txn; body = Undo lsn written at before found }) table key
undone_passes f log txn lsn written at before found table key w away =
    let x : Rec = record { txn = txn; body = Undo lsn written at before found } in
    let about = place_about written at found w.after table key away in
    let rest_of = rest_are log txn lsn w.rest w.left in
    record {
      elsewhere = undo_about lsn written at before found table key away;
      touch = touch_of log x table key
          (ap (λ lsns. touches (x ∷ log) lsns table key) (left-undone txn lsn w.rest written at before found log w.left)
          ∙ (touches-later x log txn w.rest table key rest_of
          ∙ sym (ap (λ lsns. touches log lsns table key) w.left ∙ (ap (λ r. is_of r table key || touches log w.rest table key) w.is ∙ ap (λ b. b || touches log w.rest table key) about))));
      back = back_of log x table key (λ row.
          ap (λ lsns. rolled_back (x ∷ log) lsns table key row) (left-undone txn lsn w.rest written at before found log w.left)
          ∙ (rolled_back-later x log txn w.rest table key row rest_of
          ∙ sym (ap (λ lsns. rolled_back log lsns table key row) w.left
          ∙ (ap (λ r. rolled_back log w.rest table key (undone_row r table key row)) w.is
          ∙ ap (rolled_back log w.rest table key) (undone_row-elsewhere (Some (record { txn = txn; body = Write written at found w.after })) table key row about)))));
      committed = ap (λ rs. row_from f rs table key) (committed-undone log txn lsn written at before found);
    }

-- a transaction that is alone on a key can give its committed row back
back_alone : (f : Firsts) (living : List Living) (log : List Rec) (txn : ℕ) (table : List ℕ) (key : List Value) → Lives living txn → IsAlone living log txn table key → Stands f living log table key → RollsBack f log txn table key
back_alone f living log txn table key lives alone (clear none same) = rolled_back-untouched log (writes_left txn log) table key (row_from f log table key) (none txn lives) ∙ same
back_alone f living log txn table key lives alone (held h) = by_cases (h.txn == txn)
    (λ same. subst (λ n. RollsBack f log n table key) (eqb-true h.txn txn same) h.back)
    (λ other.
    rolled_back-untouched log (writes_left txn log) table key (row_from f log table key) (h.alone txn lives (turned h.txn txn other))
    ∙ (sym (rolled_back-untouched log (writes_left h.txn log) table key (row_from f log table key) (alone h.txn h.lives other)) ∙ h.back))

-- the key of a record is one that it is about
write_about : (table : List ℕ) (key : List Value) (before after : Option (List Value)) → is_about (Write table key before after) table key ≡ true
unfolding is_about
write_about table key before after = and_both (same_name table table) (values_eq key key) (same_name-refl table) (values_eq-refl key)

-- the same of an Undo
own_undo_about : (undoes : ℕ) (table : List ℕ) (key : List Value) (before after : Option (List Value)) → is_about (Undo undoes table key before after) table key ≡ true
unfolding is_about
own_undo_about undoes table key before after = and_both (same_name table table) (values_eq key key) (same_name-refl table) (values_eq-refl key)

-- other transactions have what they had left, behind a record of this one
alone_later : (living : List Living) (log : List Rec) (x : Rec) (txn : ℕ) (table : List ℕ) (key : List Value) → x.txn ≡ txn → IsAlone living log txn table key → IsAlone living (x ∷ log) txn table key
alone_later living log x txn table key own alone other lives differs =
    ap (λ lsns. touches (x ∷ log) lsns table key) (left-other x log other (ap (λ n. n == other) own ∙ turned other txn differs)) ∙ (touches-kept x log other table key ∙ alone other lives differs)

-- a transaction that is alone on a key writes it
written_there : (f : Firsts) (living : List Living) (log : List Rec) (txn : ℕ) (table : List ℕ) (key : List Value) (after : Option (List Value)) → Lives living txn → IsOpen log txn → IsAlone living log txn table key → Stands f living log table key → Stands f living (write_record (row_from f log) txn table key after ∷ log) table key
written_there f living log txn table key after lives open_yet alone at =
    let x : Rec = write_record (row_from f log) txn table key after in
    let left = writes_left txn log in
    let row = row_from f log table key in
    let about = write_about table key row after in
    held (record {
      txn = txn;
      lives = lives;
      last = chosen (is_about x.body table key) (x.txn == txn) (last_by log txn table key) about ∙ eq-eqb txn txn refl;
      back = ap (λ lsns. rolled_back (x ∷ log) lsns table key (row_from f (x ∷ log) table key)) (left-written txn table key row after log)
          ∙ (ap (λ r. rolled_back (x ∷ log) left table key (undone_row r table key (row_from f (x ∷ log) table key))) (numbered-here x log (length log + 1) refl)
          ∙ (ap (rolled_back (x ∷ log) left table key) (chosen (is_about x.body table key) row (row_from f (x ∷ log) table key) about)
          ∙ (rolled_back-kept x log txn table key row
          ∙ (back_alone f living log txn table key lives alone at
          ∙ sym (ap (λ rs. row_from f rs table key) (committed-written log txn table key row after open_yet))))));
      alone = alone_later living log x txn table key refl alone;
    })

-- a transaction that has a write left on a key is the one that holds it
pub holds_it : (f : Firsts) (living : List Living) (log : List Rec) (txn : ℕ) (table : List ℕ) (key : List Value) → Lives living txn → touches log (writes_left txn log) table key ≡ true → Stands f living log table key → IsHeldBy f living log txn table key
holds_it f living log txn table key lives touched (clear none same) = let e = none txn lives in absurd (cc)
holds_it f living log txn table key lives touched (held h) = by_cases (h.txn == txn)
    (λ same. subst (λ n. IsHeldBy f living log n table key) (eqb-true h.txn txn same) (record { last = h.last; back = h.back; alone = h.alone }))
    (λ other. let e = h.alone txn lives (turned h.txn txn other) in absurd (cc))

-- the last write that is left touches its key
pub last_touches : (log : List Rec) (txn lsn : ℕ) (table : List ℕ) (key : List Value) (found : Option (List Value)) → IsLastLeft log txn lsn table key found → touches log (writes_left txn log) table key ≡ true
last_touches log txn lsn table key found w =
    ap (λ lsns. touches log lsns table key) w.left ∙ (ap (λ r. is_of r table key || touches log w.rest table key) w.is ∙ ap (λ b. b || touches log w.rest table key) (write_about table key found w.after))

-- it undoes its last write there
undone_there : (f : Firsts) (living : List Living) (log : List Rec) (txn lsn : ℕ) (table : List ℕ) (key : List Value) (before found : Option (List Value)) → Lives living txn → IsLastLeft log txn lsn table key found → Stands f living log table key → Stands f living (record { txn = txn; body = Undo lsn table key before found } ∷ log) table key
undone_there f living log txn lsn table key before found lives w at =
    let x : Rec = record { txn = txn; body = Undo lsn table key before found } in
    let about = write_about table key found w.after in
    let there = own_undo_about lsn table key before found in
    let row = row_from f log table key in
    let h = holds_it f living log txn table key lives (last_touches log txn lsn table key found w) at in
    held (record {
      txn = txn;
      lives = lives;
      last = chosen (is_about x.body table key) (x.txn == txn) (last_by log txn table key) there ∙ eq-eqb txn txn refl;
      back = ap (λ lsns. rolled_back (x ∷ log) lsns table key (row_from f (x ∷ log) table key)) (left-undone txn lsn w.rest table key before found log w.left)
          ∙ (rolled_back-later x log txn w.rest table key (row_from f (x ∷ log) table key) (rest_are log txn lsn w.rest w.left)
          ∙ (ap (rolled_back log w.rest table key) (row_there f x log table key there)
          ∙ (sym (ap (λ lsns. rolled_back log lsns table key row) w.left
          ∙ (ap (λ r. rolled_back log w.rest table key (undone_row r table key row)) w.is
          ∙ ap (rolled_back log w.rest table key) (chosen (is_about (Write table key found w.after) table key) found row about)))
          ∙ (h.back
          ∙ sym (ap (λ rs. row_from f rs table key) (committed-undone log txn lsn table key before found))))));
      alone = alone_later living log x txn table key refl h.alone;
    })

-- a place is one key of one table
pub by_place : (P : List ℕ → List Value → Type 0) (written : List ℕ) (at : List Value) (table : List ℕ) (key : List Value) → is_place written at table key ≡ true → P written at → P table key
by_place P written at table key e p =
    subst (λ k. P table k) (values_eq_tells at key (and_second (same_name written table) (values_eq at key) e))
    (subst (λ t. P t at) (same_name_tells written table (and_first (same_name written table) (values_eq at key) e)) p)

-- behind a Write each key stands as it may
pub written_stands : (f : Firsts) (living : List Living) (log : List Rec) (txn : ℕ) (written : List ℕ) (at : List Value) (after : Option (List Value)) → Lives living txn → IsOpen log txn → IsAlone living log txn written at → ((table : List ℕ) (key : List Value) → Stands f living log table key) → (table : List ℕ) (key : List Value) → Stands f living (write_record (row_from f log) txn written at after ∷ log) table key
written_stands f living log txn written at after lives open_yet alone all table key = by_cases (is_place written at table key)
    (λ there. by_place (λ t k. Stands f living (write_record (row_from f log) txn written at after ∷ log) t k) written at table key there (written_there f living log txn written at after lives open_yet alone (all written at)))
    (λ away. passes_by f living log (write_record (row_from f log) txn written at after) table key (written_passes f log txn written at (row_from f log written at) after table key open_yet away) (all table key))

-- and behind an Undo
pub undone_stands : (f : Firsts) (living : List Living) (log : List Rec) (txn lsn : ℕ) (written : List ℕ) (at : List Value) (before found : Option (List Value)) → Lives living txn → IsLastLeft log txn lsn written at found → ((table : List ℕ) (key : List Value) → Stands f living log table key) → (table : List ℕ) (key : List Value) → Stands f living (record { txn = txn; body = Undo lsn written at before found } ∷ log) table key
undone_stands f living log txn lsn written at before found lives w all table key = by_cases (is_place written at table key)
    (λ there. by_place (λ t k. Stands f living (record { txn = txn; body = Undo lsn written at before found } ∷ log) t k) written at table key there (undone_there f living log txn lsn written at before found lives w (all written at)))
    (λ away. passes_by f living log (record { txn = txn; body = Undo lsn written at before found }) table key (undone_passes f log txn lsn written at before found table key w away) (all table key))
