-- The rows that a log leaves once records of it are left out, and which of its records are committed writes.
use Rattle.std.proofs.Common.{◌≡◌, ◌+◌, ◌==◌, ◌&&◌, ◌||◌, if◌then◌else◌, ℕ, Bool, true, false, List, [], ◌∷◌, length, Option, Some, None, option_map, refl, sym, ap, ◌∙◌}
use Rattle.std.specs.Prelude.{filter}
use Rattle.std.specs.List.{AllByRecursion}
use Rattle.sx_values.specs.declared.value.Value.{Value}
use Rattle.sx_log.specs.declared.record.Rec.{Rec}
use Rattle.sx_log.specs.State.{Stored, stored}
use Rattle.sx_log.specs.Committed.{is_write, is_commit, commits, is_committed, committed}
use Rattle.sx_model.specs.NewRows.{Firsts, state_from, row_from}
use Rattle.sx_model.specs.Scans.{is_about}
use Rattle.sx_model.proofs.StateLaws.{image_of, after_elsewhere, after_there}
use Rattle.sx_model.proofs.TestLaws.{by_cases}

-- what an image leaves has its row
stored-row : (lsn : ℕ) (image : Option (List Value)) → option_map (λ (s : Stored). s.0) (stored lsn image) ≡ image
stored-row lsn None = refl
stored-row lsn (Some row) = refl

-- a record about a key leaves its image after there
pub row_there : (f : Firsts) (r : Rec) (log : List Rec) (table : List ℕ) (key : List Value) → is_about r.body table key ≡ true → row_from f (r ∷ log) table key ≡ image_of r.body
row_there f r log table key about = ap (option_map (λ (s : Stored). s.0)) (after_there (length log + 1) r.body table key (state_from (f table key) log table key) about) ∙ stored-row (length log + 1) (image_of r.body)

-- and other keys as they were
pub row_elsewhere : (f : Firsts) (r : Rec) (log : List Rec) (table : List ℕ) (key : List Value) → is_about r.body table key ≡ false → row_from f (r ∷ log) table key ≡ row_from f log table key
row_elsewhere f r log table key about = ap (option_map (λ (s : Stored). s.0)) (after_elsewhere (length log + 1) r.body table key (state_from (f table key) log table key) about)

-- the row that a record leaves hangs on no LSN
row_on_top : (f : Firsts) (r : Rec) (log other : List Rec) (table : List ℕ) (key : List Value) → row_from f log table key ≡ row_from f other table key → row_from f (r ∷ log) table key ≡ row_from f (r ∷ other) table key
row_on_top f r log other table key same =
    by_cases (is_about r.body table key) (λ a. row_there f r log table key a ∙ sym (row_there f r other table key a)) (λ a. row_elsewhere f r log table key a ∙ (same ∙ sym (row_elsewhere f r other table key a)))

-- a record that isn't about a key may be left out there
pub filter_elsewhere : (f : Firsts) (p : Rec → Bool) (r : Rec) (log : List Rec) (table : List ℕ) (key : List Value) → is_about r.body table key ≡ false → row_from f (filter p (r ∷ log)) table key ≡ row_from f (filter p log) table key
filter_elsewhere f p r log table key about = by_cases (p r) (λ t. rw t (row_elsewhere f r (filter p log) table key about)) (λ f. rw f refl)

-- two tests that agree on the records about a key leave one row there
pub row_left-agreed : (f : Firsts) (p q : Rec → Bool) (log : List Rec) (table : List ℕ) (key : List Value) → AllByRecursion (λ (r : Rec). is_about r.body table key ≡ true → p r ≡ q r) log → row_from f (filter p log) table key ≡ row_from f (filter q log) table key
row_left-agreed f p q [] table key all = refl
row_left-agreed f p q (r ∷ log) table key all =
    let rest = row_left-agreed f p q log table key all.1 in
    by_cases (is_about r.body table key) (λ a. by_cases (p r) (λ t. rw (t, sym (all.0 a) ∙ t) (row_on_top f r (filter p log) (filter q log) table key rest)) (λ f. rw (f, sym (all.0 a) ∙ f) rest)) (λ a.
    filter_elsewhere f p r log table key a ∙ (rest ∙ sym (filter_elsewhere f q r log table key a)))

-- whose the newest record about a key is: whether it is this transaction's
abbrev pub last_by : List Rec → ℕ → List ℕ → List Value → Bool
last_by [] txn table key = false
last_by (r ∷ log) txn table key = if is_about r.body table key then r.txn == txn else last_by log txn table key

-- two tests that agree on each record leave the same records
filter_agreed : (p q : Rec → Bool) (log : List Rec) → ((r : Rec) → p r ≡ q r) → filter p log ≡ filter q log
filter_agreed p q [] each = refl
filter_agreed p q (r ∷ log) each = by_cases (p r) (λ t. rw (t, sym (each r) ∙ t) (ap (λ rest. r ∷ rest) (filter_agreed p q log each))) (λ f. rw (f, sym (each r) ∙ f) (filter_agreed p q log each))

-- a record that is no Commit commits nobody
pub commits-later : (x : Rec) (log : List Rec) (txn : ℕ) → is_commit x.body ≡ false → commits (x ∷ log) txn ≡ commits log txn
commits-later x log txn e = ap (λ b. (b && (x.txn == txn)) || commits log txn) e

-- a record that is neither a Commit nor a committed write leaves the committed writes as they are
pub committed-later : (x : Rec) (log : List Rec) → is_commit x.body ≡ false → is_committed (x ∷ log) x ≡ false → committed (x ∷ log) ≡ committed log
committed-later x log uncommitting skipped =
    rw skipped (filter_agreed (is_committed (x ∷ log)) (is_committed log) log (λ r. ap (λ b. is_write r.body && ((r.txn == 0) || b)) (commits-later x log r.txn uncommitting)))
