-- Who is a client, and how live transactions differ.
use Rattle.std.specs.Prelude.{◌≤◌, ℕ, List, map, nat_eq}
use Rattle.std.specs.List.{IsDistinct, AllByRecursion}
use Rattle.sx_model.specs.Leaves.{Living}

-- clients are the actors from 1 to 8
pub record IsClient (actor : ℕ) : Type 0 where
  pub from_one : 1 ≤ actor
  pub to_eight : actor ≤ 8

-- a client's transaction, one of so many that were begun
pub record IsLiving (begun : ℕ) (l : Living) : Type 0 where
  pub client : IsClient l.client
  pub from_one : 1 ≤ l.txn
  pub to_begun : l.txn ≤ begun

-- live transactions, of so many that were begun: their clients differ, and so do their numbers
pub record AreLiving (begun : ℕ) (living : List Living) : Type 0 where
  pub each : AllByRecursion (IsLiving begun) living
  pub clients : IsDistinct nat_eq (map (λ (l : Living). l.client) living)
  pub txns : IsDistinct nat_eq (map (λ (l : Living). l.txn) living)
