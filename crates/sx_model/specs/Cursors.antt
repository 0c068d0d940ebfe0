-- How far a scan by a cursor has come, while its table changes. A log is seen newest first.
use Rattle.std.specs.Prelude.{◌≡◌, Bool, true, ℕ, List, Some}
use Rattle.std.specs.List.{AllByRecursion}
use Rattle.sx_lists.specs.Places.{numbered}
use Rattle.sx_values.specs.declared.value.Value.{Value}
use Rattle.sx_log.specs.declared.record.Rec.{Rec}
use Rattle.sx_model.specs.Scans.{is_about, IsCovered}

-- an LSN that was seen: its record is about a key behind the cursor, and left a row
pub record IsSeen (log : List Rec) (table : List ℕ) (behind : List Value → Bool) (lsn : ℕ) : Type 0 where
  pub rec : Rec
  pub is : numbered log lsn ≡ Some rec
  pub key : List Value
  pub about : is_about rec.body table key ≡ true
  pub passed_it : behind key ≡ true

-- how far a scan has come: what it saw is behind the cursor, and each key behind it is covered
pub record IsWalked (log : List Rec) (mark : ℕ) (lsns table : List ℕ) (behind : List Value → Bool) : Type 0 where
  pub seen_behind : AllByRecursion (IsSeen log table behind) lsns
  pub covered : (key : List Value) → behind key ≡ true → IsCovered log mark lsns table key
