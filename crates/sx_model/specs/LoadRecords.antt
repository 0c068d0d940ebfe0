-- The records that a log begins with.
use Rattle.std.specs.Prelude.{◌≡◌, IsTrue}
use Rattle.std.specs.List.{AllByRecursion}
use Rattle.sx_log.specs.declared.record.Rec.{Rec}
use Rattle.sx_log.specs.Committed.{is_write}
use Rattle.sx_model.specs.Openings.{Opening}

-- a Write of transaction 0, as each loaded row makes one
pub record IsLoaded (r : Rec) : Type 0 where
  pub nobody : r.txn ≡ 0
  pub write : IsTrue (is_write r.body)

-- an opening whose records are those of loaded rows
abbrev pub IsOpened : Opening → Type 0
IsOpened o = AllByRecursion IsLoaded o.loads
