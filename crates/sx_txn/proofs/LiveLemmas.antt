-- Tests of live transactions, as the code makes them.
use Rattle.std.proofs.Common.{◌≡◌, ◌==◌, ◌&&◌, ◌||◌, ◌∷◌, [], not, ℕ, List, Bool, true, false, filter, cond, refl, ap}
use Rattle.std.specs.List.{list_any}
use Rattle.sx_txn.specs.declared.lives.Live.{Live}
use Rattle.sx_txn.specs.Managed.{is_live, is_ending}
use Rattle.sx_txn.specs.Lives.{kept_of, kept_all, alive_all, kept_without}

pub is_live-any : (living : List Live) (txn : ℕ) → is_live (alive_all (kept_all living)) txn ≡ list_any (λ (live : Live). live.txn == txn) living
is_live-any [] txn = refl
is_live-any (live ∷ living) txn = ap (λ b. (live.txn == txn) || b) (is_live-any living txn)

pub is_ending-any : (living : List Live) (txn : ℕ) → is_ending (alive_all (kept_all living)) txn ≡ list_any (λ (live : Live). live.txn == txn && live.ending) living
is_ending-any [] txn = refl
is_ending-any (live ∷ living) txn = ap (λ b. (live.txn == txn && live.ending) || b) (is_ending-any living txn)

pub kept_without-filter : (living : List Live) (txn : ℕ) → kept_without txn (kept_all living) ≡ kept_all (filter (λ (live : Live). not (live.txn == txn)) living)
kept_without-filter [] txn = refl
kept_without-filter (live ∷ living) txn = by (live.txn == txn) (kept_without-filter living txn)
  where
    by : (b : Bool) → kept_without txn (kept_all living) ≡ kept_all (filter (λ (other : Live). not (other.txn == txn)) living)
        → cond (not b) (kept_of live ∷ kept_without txn (kept_all living)) (kept_without txn (kept_all living)) ≡ kept_all (cond (not b) (live ∷ filter (λ (other : Live). not (other.txn == txn)) living) (filter (λ (other : Live). not (other.txn == txn)) living))
    by true h = h
    by false h = ap (λ rest. kept_of live ∷ rest) h
