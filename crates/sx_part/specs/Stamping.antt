-- Where an image has a key, and under which LSN.
use Rattle.std.specs.Prelude.{◌≡◌, Bool, ℕ, List, Option, Some, None, option_map, nat_lt}
use Rattle.sx_lists.specs.Answers.{or_later}
use Rattle.sx_values.specs.declared.value.Value.{Value}
use Rattle.sx_log.specs.State.{Stored}
use Rattle.sx_heap.specs.Relations.{row_at}
use Rattle.sx_part.specs.declared.parts.Parts.{Parts}
use Rattle.sx_part.specs.declared.stamps.Stamps.{Stamps}

-- the LSN of a row, if there is one
abbrev pub lsn_of : Option Stored → Option ℕ
lsn_of stored = option_map (λ (s : Stored). s.1) stored

-- these are the LSNs of a key in both tables
pub record AreStamps (parts : Parts) (key : List Value) (stamps : Stamps) : Type 0 where
  pub passing : stamps.passing ≡ lsn_of (row_at parts.passing.rows key)
  pub failing : stamps.failing ≡ lsn_of (row_at parts.failing.rows key)

-- the LSN of the key in the image
abbrev pub stamp_of : Stamps → Option ℕ
stamp_of stamps = or_later stamps.passing stamps.failing

-- whether a row under this LSN is taken, by the LSN that the key has
abbrev pub takes_stamp : ℕ → Bool → Option ℕ → Bool
takes_stamp lsn where_absent None = where_absent
takes_stamp lsn where_absent (Some known) = nat_lt known lsn
